-- Bytes and the physical lines that they stand on. Assumes nothing.
use Rattle.std.specs.Prelude.{ℕ, List, [], ◌∷◌}
use Rattle.text.specs.declared.Placed.{Placed}

abbrev pub byte_of : Placed → ℕ
byte_of p = p.byte

abbrev pub line_of : Placed → ℕ
line_of p = p.line

-- bytes and lines side by side
abbrev pub placed : List ℕ → List ℕ → List Placed
placed [] ls = []
placed (b ∷ bs) [] = []
placed (b ∷ bs) (l ∷ ls) = record { byte = b; line = l } ∷ placed bs ls
