-- What tokens with sets of slots stand for. Assumes nothing.
use Rattle.std.specs.Prelude.{ℕ, Bool, false, List, map, Some, None}
use Rattle.text.specs.Faults.{fault_number}
use Rattle.source.specs.declared.Ending.{Ending}
use Rattle.source.specs.declared.Ending.TheVariants.{Whole, Fails}
use Rattle.item.specs.declared.hide_set.HideSet.{HideSet}
use Rattle.item.specs.Sets.{in_set}
use Rattle.item.specs.Tagged.{Tagged}
use Rattle.definition.specs.Definitions.{Macro}
use Rattle.definitions.specs.InForce.{slot}
use Rattle.replacement.specs.Items.{Item, End, whole, fault}

-- a set of slots as a set of names: those whose definitions stand there
abbrev pub hidden : List Macro → HideSet → List ℕ → Bool
hidden ms h n = elim (slot n ms) [ None ↦ false | Some k ↦ in_set h k ]

abbrev pub item_of : List Macro → Tagged HideSet → Item
item_of ms x = record { token = x.token; hides = hidden ms x.tag }

abbrev pub items_of : List Macro → List (Tagged HideSet) → List Item
items_of ms xs = map (item_of ms) xs

-- how a run ends
abbrev pub end_of : Ending → End
end_of Whole = whole
end_of (Fails f) = fault (fault_number f.kind) f.line
