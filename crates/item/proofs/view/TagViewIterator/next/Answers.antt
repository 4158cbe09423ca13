use Rattle.std.proofs.Common.{sym}
use Rattle.item.proofs.Beside.{none_first}
use Rattle.item.proofs.view.TagViewIterator.next.Goals as goal

pub returns-in_err-first-clause-steps : goal.returns-in_err-first-clause-steps
returns-in_err-first-clause-steps g c =
    let none = none_first _ (sym c.in_err-first.ensures) in rw c.from_residual.ensures (none, none)
