use Rattle.std.proofs.Common.{◌≡◌, ◌++◌, map}
use Rattle.item.specs.Tables.{held, shown}
use Rattle.expansion.specs.Parts.{as_is, plains}
use Rattle.expansion.proofs.pieces.push_items.Given as goal

-- what is put down and the tokens that are left make up the whole
abbrev pub invariant-loop-item : goal.invariant-loop-item
invariant-loop-item l =
    (goal.iterator-loop-item).can_next l.item-iterator × (goal.iterator-loop-item).is_finite l.item-iterator × (held l.pieces ++ map as_is (shown l.item-iterator) ≡ held l.fn.pieces ++ plains l.fn.marked (shown l.fn.items))
