use Rattle.std.proofs.Common.{◌≡◌, List, reverse, length}
use Rattle.item.specs.Tables.{held, shown}
use Rattle.definition.specs.Definitions.{Macro}
use Rattle.replacement.specs.Meaning.{items_of, hidden}
use Rattle.operators.specs.Placing.{placed_before}
use Rattle.operators.specs.Sets.{with_sets}
use Rattle.operators.proofs.result.put_before.Given as goal

-- the tokens that are left, put before W, make the same
abbrev pub invariant-loop-item : goal.invariant-loop-item
invariant-loop-item g l =
    (ms : List Macro) → placed_before l.name.marked (hidden ms l.name.hides) (items_of ms (reverse (held l.w))) (items_of ms (with_sets g.T.Hides.set (shown l.items))) ≡ placed_before l.name.marked (hidden ms l.name.hides) (items_of ms (reverse (held l.initial.w))) (items_of ms (with_sets g.T.Hides.set (held l.tokens)))

abbrev pub decreases-loop-item : goal.decreases-loop-item
decreases-loop-item g l = length (shown l.items)
