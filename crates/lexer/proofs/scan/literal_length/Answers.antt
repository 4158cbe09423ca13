use Rattle.std.proofs.Common.{◌+◌, sym, ap, ◌∙◌}
use Rattle.std.specs.Option.{option_map}
use Rattle.std.proofs.lemmas.List.{at_drop_all}
use Rattle.lexer.specs.Cutting.{literal_length}
use Rattle.lexer.proofs.Lengths.{literal-closes, literal_more}
use Rattle.lexer.proofs.scan.literal_length.Goals as goal

pub returns-in-None : goal.returns-in-None
returns-in-None c =
    sym (c.loop-at.invariant ∙ literal-closes c.args.bytes.now c.loop-at.at c.loop-at-test.true _ _ (sym c.in-None.ensures))

pub loop-at-preserved : goal.loop-at-preserved
loop-at-preserved c =
    c.loop-at.invariant ∙ literal_more c.args.bytes.now c.loop-at.at c.loop-at-test.true _ _ _ (sym c.in-Some.ensures)

pub returns : goal.returns
returns c =
    let left = at_drop_all (literal_length c.args.mark c.loop-at.escaped) c.args.bytes.now _ c.loop-at-test.false in
    sym (c.loop-at.invariant ∙ ap (option_map (λ n. c.loop-at.at + n)) left)
