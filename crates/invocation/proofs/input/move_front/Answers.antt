use Rattle.std.proofs.Common.{◌++◌, sym, ap, ◌∙◌, append-nil, take}
use Rattle.item.specs.Tables.{held}
use Rattle.item.specs.Tagged.{fit}
use Rattle.invocation.specs.Fronts.{waiting}
use Rattle.invocation.proofs.Held.{fits}
use Rattle.invocation.proofs.Lists.{none_first, take_first}
use Rattle.invocation.proofs.input.move_front.Goals as goal
use Rattle.invocation.proofs.input.move_front.Goals.{in-Some+in_ok-push, in_default}

pub returns-clause-room : goal.returns-clause-room
returns-clause-room g c =
    let to = held c.args.to.now in
    let next = waiting c.args.w.now ++ g.R.Run.rest c.args.run.now in
    elim c.match-front.branch [
      | in-Some+in_ok-push w ↦ w.in_ok-push.ensures.room ∙ ap (λ xs. fit (to ++ xs)) (take_first next _ (w.in-Some.ensures ∙ c.fetch_front.ensures.fetched))
      | in_default w ↦ sym (fits c.args.to.now) ∙ ap fit (sym (append-nil to) ∙ ap (λ xs. to ++ take 1 xs) (sym (none_first next (w.in_default.ensures ∙ c.fetch_front.ensures.fetched))))
    ]
