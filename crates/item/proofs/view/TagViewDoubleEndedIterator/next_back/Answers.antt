use Rattle.std.proofs.Common.{sym, ◌∙◌, ap, ◌++◌, [], ◌∷◌, arith}
use Rattle.item.specs.Tables.{referred_to}
use Rattle.item.proofs.Beside.{split_last}
use Rattle.item.proofs.view.TagViewDoubleEndedIterator.next_back.Goals as goal

pub returns-clause-steps : goal.returns-clause-steps
returns-clause-steps g c =
    let last = referred_to c.in_ok-last.last in
    split_last _ c.in_ok-before.before last (sym c.in_ok-last.ensures) (omega arith) ∙ ap (λ xs. xs ++ last ∷ []) (sym c.part.ensures)
