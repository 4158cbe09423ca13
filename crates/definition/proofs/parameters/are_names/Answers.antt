use Rattle.std.proofs.Common.{sym, ◌∙◌}
use Rattle.definition.proofs.Names.{names_behind}
use Rattle.definition.proofs.parameters.are_names.Goals as goal

pub returns-then-not-is_fresh : goal.returns-then-not-is_fresh
returns-then-not-is_fresh c =
    sym (c.loop-name.invariant ∙ names_behind _ _ _ _ _ _ c.in-Some.ensures.steps c.in-Some-next.ensures.steps c.if-not-is_fresh.ensures)

pub loop-name-preserved : goal.loop-name-preserved
loop-name-preserved c =
    c.loop-name.invariant ∙ names_behind _ _ _ _ _ _ c.in-Some.ensures.steps c.in-Some-next.ensures.steps c.if-not-is_fresh.ensures
