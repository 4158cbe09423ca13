-- What the hints say of the names in force. Assumes nothing.
use Rattle.std.specs.Prelude.{ℕ, Bool, true, false, not, ◌&&◌, List, [], ◌∷◌, is_some, Some, None, Option, slice_index_or}
use Rattle.std.specs.List.{list_all}
use Rattle.std.specs.Str.{bytes_eq}
use Rattle.definition.specs.Definitions.{Macro}
use Rattle.definitions.specs.Hashes.{cell_of}
use Rattle.definitions.specs.InForce.{index}

-- the slot in a cell
abbrev pub cell : List (Option ℕ) → ℕ → Option ℕ
cell cells k = slice_index_or cells k None

-- the cell of each name has a slot
abbrev pub hinted : List (Option ℕ) → List (List ℕ) → Bool
hinted cells ws = list_all (λ w. is_some (cell cells (cell_of w))) ws

-- no name stands twice
abbrev pub distinct : List (List ℕ) → Bool
distinct [] = true
distinct (w ∷ ws) = not (is_some (index w ws)) && distinct ws

-- whether there is a definition, and it has the name
abbrev pub is_named : List ℕ → Option Macro → Bool
is_named n None = false
is_named n (Some m) = bytes_eq n m.name
