-- What a step hands on. Assumes nothing.
use Rattle.std.specs.Prelude.{◌≡◌, ℕ, Bool, cond, not, List, [], ◌∷◌, ◌++◌, take, Some, None, codes}
use Rattle.std.specs.List.{slice_get}
use Rattle.token.specs.declared.Kind.{Kind}
use Rattle.token.specs.declared.Kind.TheVariants.{Identifier, Number, String}
use Rattle.item.specs.declared.hide_set.HideSet.{HideSet}
use Rattle.item.specs.Tagged.{Tagged}
use Rattle.definition.specs.Definitions.{Macro}
use Rattle.replacement.specs.Items.{Item, over}
use Rattle.replacement.specs.Meaning.{item_of, items_of}
use Rattle.replacement.specs.Replacing.{digits}
use Rattle.steps.specs.declared.class.BuiltIn.{BuiltIn as BuiltInName}
use Rattle.steps.specs.declared.class.BuiltIn.TheVariants.{Line, File, Standard, Version}
use Rattle.item.specs.declared.Name.{Name as NameAt}
use Rattle.steps.specs.declared.prepared.Handed.{Handed}
use Rattle.steps.specs.declared.prepared.Handed.TheVariants.{Front, Name, BuiltIn}

-- what a built-in name stands for
abbrev pub built_in_kind : BuiltInName → Kind
built_in_kind Line = Number
built_in_kind File = String
built_in_kind Standard = Number
built_in_kind Version = Number

abbrev pub quoted_file : List ℕ → List ℕ
quoted_file file = 34 ∷ (file ++ 34 ∷ [])

abbrev pub built_in_spelling : List ℕ → ℕ → BuiltInName → List ℕ
built_in_spelling file line Line = digits 10 line []
built_in_spelling file line File = quoted_file file
built_in_spelling file line Standard = codes "1"
built_in_spelling file line Version = codes "199901L"

-- a token in the place of a name
abbrev pub placed_at : NameAt → Kind → List ℕ → Tagged HideSet
placed_at n k bs = record { token = record { kind = k; spelling = bs; line = n.line; marked = n.marked }; tag = n.hides }

abbrev pub in_place : List Macro → NameAt → Kind → List ℕ → Item
in_place ms n k bs = item_of ms (placed_at n k bs)

-- the name of the definition in a slot
abbrev pub named_items : List Macro → ℕ → NameAt → List Item
named_items ms k n = elim (slice_get ms k) [ None ↦ [] | Some m ↦ in_place ms n Identifier m.name ∷ [] ]

-- what is handed on, given the tokens to come
abbrev pub handed_items : List Macro → List ℕ → List (Tagged HideSet) → Handed → List Item
handed_items ms file xs Front = items_of ms (take 1 xs)
handed_items ms file xs (Name k n) = named_items ms k n
handed_items ms file xs (BuiltIn b n) = in_place ms n (built_in_kind b) (built_in_spelling file n.line b) ∷ []

-- how many of those to come are taken away with it
abbrev pub taken : Handed → ℕ
taken Front = 1
taken (Name k n) = 0
taken (BuiltIn b n) = 0

-- a table with more tokens at its end, or as it was where they are too many
pub record Onto (ms : List Macro) (xs ys : List (Tagged HideSet)) (more : List Item) (r : Bool) : Type 0 where
  pub room : r ≡ not (over (items_of ms xs ++ more))
  pub moved : items_of ms ys ≡ items_of ms xs ++ cond r more []
