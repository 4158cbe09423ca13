-- The 54 punctuators, digraphs included. Assumes nothing.
use Rattle.std.specs.Prelude.{ℕ, max, Bool, true, false, cond, ◌&&◌, List, [], ◌∷◌, ◌++◌, length, codes, ◌==◌}

abbrev pub ones : List (List ℕ)
ones =
    codes "[" ∷ codes "]" ∷ codes "(" ∷ codes ")" ∷ codes "{" ∷ codes "}" ∷ codes "." ∷ codes "&" ∷ codes "*" ∷ codes "+" ∷ codes "-" ∷ codes "~" ∷ codes "!" ∷ codes "/" ∷ codes "%" ∷ codes "<" ∷ codes ">" ∷ codes "^" ∷ codes "|" ∷ codes "?" ∷ codes ":" ∷ codes ";" ∷ codes "=" ∷ codes "," ∷ codes "#" ∷ []

abbrev pub twos : List (List ℕ)
twos =
    codes "->" ∷ codes "++" ∷ codes "--" ∷ codes "<<" ∷ codes ">>" ∷ codes "<=" ∷ codes ">=" ∷ codes "==" ∷ codes "!=" ∷ codes "&&" ∷ codes "||" ∷ codes "*=" ∷ codes "/=" ∷ codes "%=" ∷ codes "+=" ∷ codes "-=" ∷ codes "&=" ∷ codes "^=" ∷ codes "|=" ∷ codes "##" ∷ codes "<:" ∷ codes ":>" ∷ codes "<%" ∷ codes "%>" ∷ codes "%:" ∷ []

abbrev pub threes : List (List ℕ)
threes = codes "..." ∷ codes "<<=" ∷ codes ">>=" ∷ []

abbrev pub fours : List (List ℕ)
fours = codes "%:%:" ∷ []

abbrev pub punctuators : List (List ℕ)
punctuators = ones ++ (twos ++ (threes ++ fours))

-- whether the bytes begin with the word
abbrev pub begins : List ℕ → List ℕ → Bool
begins [] bs = true
begins (w ∷ ws) [] = false
begins (w ∷ ws) (b ∷ bs) = w == b && begins ws bs

-- the length of the longest of the words that the bytes begin with, 0 where there is none
abbrev pub longest : List (List ℕ) → List ℕ → ℕ
longest [] bs = 0
longest (w ∷ ws) bs = max (cond (begins w bs) (length w) 0) (longest ws bs)
