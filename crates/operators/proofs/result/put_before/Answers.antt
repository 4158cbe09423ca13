use Rattle.std.proofs.Common.{not, sym, ap, ◌∙◌}
use Rattle.std.proofs.lemmas.Result.{err_from_is_err_and}
use Rattle.item.proofs.Held.{fits}
use Rattle.item.specs.Tables.{held, shown, referred_to}
use Rattle.replacement.specs.Items.{over}
use Rattle.operators.proofs.Before.{fit-over, turn, refused}
use Rattle.operators.proofs.result.put_before.Goals as goal

pub loop-item-preserved : goal.loop-item-preserved
loop-item-preserved g c ms =
    let put = turn ms g.T.Hides.set c.args.name.hides c.args.name.marked (shown c.loop-item.items) _ (referred_to c.in-Some.item) c.in-Some.ensures.steps _ c.len.ensures (held c.loop-item.w) (referred_to c.in_place_of.result) (c.in_place_of.ensures ms) in
    rw (c.in_ok-push.ensures.tokens) (put ∙ c.loop-item.invariant ms)

pub returns-in_err-push-clause-room : goal.returns-in_err-push-clause-room
returns-in_err-push-clause-room g c ms =
    let err = err_from_is_err_and c.from_residual.result c.from_residual.ensures.1 in
    let full = refused ms g.T.Hides.set c.args.name.hides c.args.name.marked (shown c.loop-item.items) _ (referred_to c.in-Some.item) c.in-Some.ensures.steps _ c.len.ensures (held c.loop-item.w) (referred_to c.in_place_of.result) (c.in_place_of.ensures ms) (sym c.in_err-push.ensures.room) in
    rw err.1 (ap not (sym (ap over (sym (c.loop-item.invariant ms)) ∙ full)))

pub returns-clause-room : goal.returns-clause-room
returns-clause-room g c ms =
    let w = c.loop-item.w in
    rw (← c.loop-item.invariant ms, c.in_default.ensures.steps.0) (sym (fits w) ∙ fit-over ms (held w))
