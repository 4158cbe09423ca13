use Rattle.std.proofs.Common.{◌≡◌, cond, List, [], ◌∷◌, ◌++◌}
use Rattle.item.specs.Tables.{shown}
use Rattle.definition.specs.Definitions.{Macro}
use Rattle.replacement.specs.Joining.{spaced, inner}
use Rattle.replacement.specs.Meaning.{items_of}
use Rattle.operators.specs.Quoting.{quoted}
use Rattle.operators.specs.Spellings.{spelt}
use Rattle.operators.proofs.literal.add_quoted.Given as goal

-- what is written and the tokens that are left make up the whole
abbrev pub invariant-loop-item : goal.invariant-loop-item
invariant-loop-item l =
    (goal.iterator-loop-item).can_next l.item-iterator × (goal.iterator-loop-item).is_finite l.item-iterator × ((ms : List Macro) → spelt l.spelling ++ (cond l.first (inner (items_of ms (shown l.item-iterator))) (spaced (items_of ms (shown l.item-iterator))) ++ 34 ∷ []) ≡ spelt l.fn.spelling ++ quoted (items_of ms (shown l.fn.argument)))
