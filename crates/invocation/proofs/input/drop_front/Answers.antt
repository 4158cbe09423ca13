use Rattle.std.proofs.Common.{reverse, drop, sym, ap, ◌∙◌, arith}
use Rattle.std.proofs.lemmas.Bool.{ltb-true, ltb-false}
use Rattle.std.proofs.lemmas.List.{nil_from_length}
use Rattle.item.specs.Tables.{held}
use Rattle.invocation.specs.Fronts.{waiting}
use Rattle.invocation.proofs.Waiting.{dropped_waiting, dropped_run}
use Rattle.invocation.proofs.input.drop_front.Goals as goal

pub returns-then-is_waiting-clause-dropped : goal.returns-then-is_waiting-clause-dropped
returns-then-is_waiting-clause-dropped g c =
    dropped_waiting (held c.args.w.now) _ _ (ltb-true 0 _ (sym c.if-is_waiting.ensures)) c.pop.ensures

pub returns-else-is_waiting-clause-dropped : goal.returns-else-is_waiting-clause-dropped
returns-else-is_waiting-clause-dropped g c =
    dropped_run (waiting c.args.w.now) _ _ (ap reverse (nil_from_length (held c.args.w.now) (omega (arith, ltb-false 0 _ (sym c.if-is_waiting.ensures))))) (c.advance.ensures.behind c.fill.ensures.fetched ∙ ap (drop 1) c.fill.ensures.same.0)
