use Rattle.std.proofs.Common.{◌≡◌, ℕ, List, Err, IfErr, refl, sym, ap, ◌∙◌, arith}
use Rattle.std.proofs.lemmas.Grind.{common_steps}
use Rattle.text.specs.declared.FaultKind.TheVariants.{ManyTokens, BadLiteral}
use Rattle.token.specs.Tables.{referred}
use Rattle.item.specs.Tables.{held, shown}
use Rattle.item.proofs.Held.{fits}
use Rattle.definition.specs.Definitions.{Macro}
use Rattle.replacement.specs.Meaning.{items_of}
use Rattle.invocation.specs.Calls.{arguments_in}
use Rattle.expansion.proofs.Added.{literal_if, gives_token, gives_join, gives_literal, gives_raw, gives_expanded, added, not_made}
use Rattle.expansion.proofs.pieces.add_part.Goals as goal
use Rattle.expansion.proofs.pieces.add_part.Goals.{in-Token, in-Join, in-Literal+in_ok-write_literal-in-Literal, in-Raw, in-Expanded}

pub returns-in_err-write_literal-in-Literal-clause-added : goal.returns-in_err-write_literal-in-Literal-clause-added
returns-in_err-write_literal-in-Literal-clause-added c ms left =
    let line = c.args.line in
    let t = referred c.args.token in
    let args = λ (ms : List Macro). arguments_in ms c.args.arguments.now in
    let is = λ (ms : List Macro). items_of ms (held c.args.expanded.now) in
    let a = items_of ms (shown c.get.result) in
    let bad : c.from_residual.result ≡ Err BadLiteral = grind (arith, common_steps) in
    rw bad (not_made line args is t c.args.part (held c.args.pieces.now) c.requires _ a ms left c.in-Literal.is (c.get.ensures ms) (ap (literal_if t line a left) (sym (c.in_err-write_literal-in-Literal.ensures.string ms))) (fits c.args.pieces.now))

pub returns : goal.returns
returns c =
    let line = c.args.line in
    let t = referred c.args.token in
    let args = λ (ms : List Macro). arguments_in ms c.args.arguments.now in
    let is = λ (ms : List Macro). items_of ms (held c.args.expanded.now) in
    let p = c.args.part in
    let xs = held c.args.pieces.now in
    let ys = held c.match-part.pieces in
    let o = c.map_err.result in
    let many : IfErr o (λ k. k ≡ ManyTokens) = grind (arith, common_steps) in
    elim c.match-part.branch [
      | in-Token w ↦ added line args is t p xs c.requires _ w.in-Token.is _ (gives_token line args is t _ w.empty.ensures.none) ys o (grind (arith, common_steps)) (grind (arith, common_steps)) many
      | in-Join w ↦ added line args is t p xs c.requires _ w.in-Join.is _ (gives_join line args is t) ys o (grind (arith, common_steps)) (grind (arith, common_steps)) many
      | in-Literal+in_ok-write_literal-in-Literal w ↦
          let a = shown w.get.result in
          let made = w.in_ok-write_literal-in-Literal.ensures in
          let good = λ (ms : List Macro) (left : ℕ). ap (literal_if t line (items_of ms a) left) (sym (made.string ms)) in
          added line args is t p xs c.requires _ w.in-Literal.is _ (gives_literal line args is t _ a w.get.ensures _ w.empty-in-Literal.ensures.none _ good (λ ms. w.bytes.ensures ∙ made.written ms refl)) ys o (grind (arith, common_steps)) (grind (arith, common_steps)) many
      | in-Raw w ↦ added line args is t p xs c.requires _ w.in-Raw.is _ (gives_raw line args is t _ (shown w.get-in-Raw.result) w.get-in-Raw.ensures) ys o (grind (arith, common_steps)) (grind (arith, common_steps)) many
      | in-Expanded w ↦ added line args is t p xs c.requires _ w.in-Expanded.is _ (gives_expanded line args is t _ (shown w.view.result) (λ ms. ap (items_of ms) (sym w.view.ensures))) ys o (grind (arith, common_steps)) (grind (arith, common_steps)) many
    ]
