use Rattle.std.proofs.Common.{◌≡◌, suc, ◌<◌, false, length, drop, sym, ap, ◌∙◌, one-add, arith, length-drop, false-eqb}
use Rattle.std.proofs.lemmas.List.{take_rest}
use Rattle.token.specs.declared.Kind.TheVariants as kind
use Rattle.lexer.specs.declared.scan.Class.{Class}
use Rattle.lexer.specs.Cutting.{token, literal, scan, name_length, number_length}
use Rattle.lexer.specs.Scanning.{class_of, symbol_token}
use Rattle.lexer.proofs.Fronts.{scan_as, by_class, wide-within}
use Rattle.lexer.proofs.Lengths.{name_bound, number_bound}
use Rattle.lexer.proofs.scan.scan.Goals as goal
use Rattle.lexer.proofs.scan.scan.Goals.{After-classify}

-- what the class says of the token
scanned_as : (c : After-classify) (k : Class) → k ≡ class_of c.byte_at-first.result c.byte_at-second.result → scan_as k c.args.bytes.now ≡ scan c.args.bytes.now
scanned_as c k e =
    let some : 0 < length c.args.bytes.now = omega (arith, false-eqb _ 0 c.if-is_empty.ensures) in
    sym (by_class c.args.bytes.now _ _ c.byte_at-first.ensures c.byte_at-second.ensures k some e)

pub slice_bounds-literal-count-in-WideLiteral : goal.slice_bounds-literal-count-in-WideLiteral
slice_bounds-literal-count-in-WideLiteral c =
    wide-within c.args.bytes.now _ _ c.byte_at-first.ensures c.byte_at-second.ensures c.in-WideLiteral.ensures

pub slice_bounds-literal-start-in-WideLiteral : goal.slice_bounds-literal-start-in-WideLiteral
slice_bounds-literal-start-in-WideLiteral c =
    wide-within c.args.bytes.now _ _ c.byte_at-first.ensures c.byte_at-second.ensures c.in-WideLiteral.ensures

pub overflow_add-result : goal.overflow_add-result
overflow_add-result c =
    let bytes = c.args.bytes.now in
    omega (arith, c.number_length.ensures ∙ ap (number_length false) (take_rest bytes 1), number_bound false (drop 1 bytes), length-drop 1 bytes, false-eqb _ 0 c.if-is_empty.ensures)

pub overflow_add-result-in-Name : goal.overflow_add-result-in-Name
overflow_add-result-in-Name c =
    let bytes = c.args.bytes.now in
    omega (arith, c.name_length.ensures ∙ ap name_length (take_rest bytes 1), name_bound (drop 1 bytes), length-drop 1 bytes, false-eqb _ 0 c.if-is_empty.ensures)

pub returns-in-Literal : goal.returns-in-Literal
returns-in-Literal c =
    c.literal.ensures ∙ (λ i. literal (c.byte_at-first.ensures i) 1 (take_rest c.args.bytes.now 1 i)) ∙ scanned_as (goal.at.returns-in-Literal c).After-classify _ c.in-Literal.ensures

pub returns-in-WideLiteral : goal.returns-in-WideLiteral
returns-in-WideLiteral c =
    c.literal-in-WideLiteral.ensures ∙ (λ i. literal (c.byte_at-second.ensures i) 2 (take_rest c.args.bytes.now 2 i)) ∙ scanned_as (goal.at.returns-in-WideLiteral c).After-classify _ c.in-WideLiteral.ensures

pub returns-in-Number : goal.returns-in-Number
returns-in-Number c =
    ap (token kind.Number) (one-add _ ∙ ap (λ n. suc n) (c.number_length.ensures ∙ ap (number_length false) (take_rest c.args.bytes.now 1))) ∙ scanned_as (goal.at.returns-in-Number c).After-classify _ c.in-Number.ensures

pub returns-in-Name : goal.returns-in-Name
returns-in-Name c =
    ap (token kind.Identifier) (one-add _ ∙ ap (λ n. suc n) (c.name_length.ensures ∙ ap name_length (take_rest c.args.bytes.now 1))) ∙ scanned_as (goal.at.returns-in-Name c).After-classify _ c.in-Name.ensures

pub returns-in-Symbol : goal.returns-in-Symbol
returns-in-Symbol c =
    c.symbol.ensures ∙ ap symbol_token c.punctuator_length.ensures ∙ scanned_as (goal.at.returns-in-Symbol c).After-classify _ c.in-Symbol.ensures
