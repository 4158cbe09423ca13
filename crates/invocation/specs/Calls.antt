-- The tokens in parentheses behind a name, and the arguments that they are. Assumes nothing.
use Rattle.std.specs.Prelude.{◌≡◌, ℕ, true, cond, List, map, take, drop, Some, None, Ok, Err, vec_items, Option, Result, ◌==◌}
use Rattle.std.specs.Option.{option_map}
use Rattle.item.specs.declared.hide_set.HideSet.{HideSet}
use Rattle.item.specs.Tables.{held}
use Rattle.item.specs.Tagged.{Tagged}
use Rattle.definition.specs.Definitions.{Macro}
use Rattle.replacement.specs.Items.{Item, over}
use Rattle.replacement.specs.Meaning.{hidden, items_of}
use Rattle.replacement.specs.Replacing.{gathered}
use Rattle.invocation.specs.declared.bracket.Bracket.{Bracket}
use Rattle.invocation.specs.declared.bracket.Bracket.TheVariants.{Opens, Closes, Inner, End}
use Rattle.invocation.specs.declared.bracket.GatherError.{GatherError}
use Rattle.invocation.specs.declared.bracket.GatherError.TheVariants.{Open, Full}
use Rattle.text.specs.declared.Extent.{Extent}
use Rattle.invocation.specs.declared.arguments.Arguments.{Arguments}

-- the tokens between the parentheses
abbrev pub inside : Arguments → List (Tagged HideSet)
inside a = held a.inside

-- what gathering answers for the tokens behind a `(`, and what it leaves between the parentheses
abbrev pub Gathering : List Macro → List (Tagged HideSet) → Result HideSet GatherError → List (Tagged HideSet) → Type 0
Gathering ms xs (Ok h) within =
    ((gathered 0 (items_of ms xs)).inside ≡ items_of ms within) × (option_map (λ i. i.hides) (gathered 0 (items_of ms xs)).close ≡ Some (hidden ms h))
Gathering ms xs (Err Open) within = ((gathered 0 (items_of ms xs)).inside ≡ items_of ms within) × ((gathered 0 (items_of ms xs)).close ≡ None)
Gathering ms xs (Err Full) within = over (gathered 0 (items_of ms xs)).inside ≡ true

-- how gathering ends before a token with so many parentheses open, if it does
abbrev pub end_before : ℕ → Bracket → Option (Result HideSet GatherError)
end_before depth Opens = None
end_before depth (Closes h) = cond (depth == 0) (Some (Ok h)) None
end_before depth Inner = None
end_before depth End = Some (Err Open)

-- the arguments, as parts of what stands between the parentheses
abbrev pub part_of : List Macro → List (Tagged HideSet) → Extent → List Item
part_of ms xs s = items_of ms (take s.len (drop s.start xs))

abbrev pub arguments_in : List Macro → Arguments → List (List Item)
arguments_in ms a = map (part_of ms (inside a)) (vec_items a.extents)
