-- What a shelf keeps: a list of files. Assumes nothing.
use Rattle.std.specs.Prelude.{ℕ, List, Option, Result, position, slice_get, ok_or, option_map}
use Rattle.std.specs.Str.{bytes_eq}
use Rattle.shelf.specs.declared.Ending.{Ending}

-- a file: its name, its bytes, and how they end
pub record File : Type 0 where
  pub name : List ℕ
  pub bytes : List ℕ
  pub ending : Ending

-- the place, counted from 0, of the first file with the name
abbrev pub first_named : List ℕ → List File → Option ℕ
first_named n fs = position (λ f. bytes_eq f.name n) fs

-- the byte at an offset, and at or behind the end the ending
abbrev pub at : List ℕ → Ending → ℕ → Result ℕ Ending
at bs e i = ok_or (slice_get bs i) e

-- what a file holds at an offset, and none for a number outside the list
abbrev pub read_at : List File → ℕ → ℕ → Option (Result ℕ Ending)
read_at fs n i = option_map (λ f. at f.bytes f.ending i) (slice_get fs n)
