-- Worked examples, from a text to the spellings of its tokens. Assumes nothing.
use Rattle.std.specs.Prelude.{◌≡◌, ℕ, List, [], ◌∷◌, ◌++◌, map, codes}
use Rattle.source.specs.Texts.{memory_text}
use Rattle.lexer.specs.Phases.{TokenLines, tokens, over, token_lines}

-- the spellings of all lines, up to the ending
abbrev pub spellings : TokenLines → List (List ℕ)
spellings (tokens ts n ls) = map (λ t. t.spelling) ts ++ spellings ls
spellings (over e) = []

-- a text read through all phases before the fourth
abbrev pub read : List ℕ → List (List ℕ)
read bytes = spellings (token_lines (memory_text bytes))

pub record Worked : Type 0 where
  -- trigraphs are replaced from the left
  pub trigraph : read (codes "???=") ≡ codes "?" ∷ codes "#" ∷ []
  -- and before lines are spliced
  pub splice : read (codes "?\\" ++ 10 ∷ codes "?=") ≡ codes "?" ∷ codes "?" ∷ codes "=" ∷ []
  -- a backslash that a trigraph gives splices lines, here inside a name
  pub name : read (codes "ab??/" ++ 10 ∷ codes "c d") ≡ codes "abc" ∷ codes "d" ∷ []
  -- a comment is one space, and in a literal it is none
  pub comment : read (codes "a/*b*/c \"/*d*/\"") ≡ codes "a" ∷ codes "c" ∷ codes "\"/*d*/\"" ∷ []
  -- each token is as long as it can be
  pub longest : read (codes "x+++++y") ≡ codes "x" ∷ codes "++" ∷ codes "++" ∷ codes "+" ∷ codes "y" ∷ []
  pub number : read (codes "0x1e+3+.5e..") ≡ codes "0x1e+3" ∷ codes "+" ∷ codes ".5e.." ∷ []
  pub digraph : read (codes "%:%:%:<::%>") ≡ codes "%:%:" ∷ codes "%:" ∷ codes "<:" ∷ codes ":" ∷ codes "%>" ∷ []
