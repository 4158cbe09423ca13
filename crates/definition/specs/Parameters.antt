-- Parameters as the tokens between the parentheses show them. Assumes nothing.
use Rattle.std.specs.Prelude.{ℕ, Bool, not, ◌&&◌, List, [], ◌∷◌, codes}
use Rattle.token.specs.Tokens.{Token}
use Rattle.definition.specs.Definitions.{member, spells, nameable}
use Rattle.definition.specs.Words.{word_of}

-- what the tokens at the first, third, fifth .. place are called
abbrev pub words : List Token → List (List ℕ)
words [] = []
words (t ∷ []) = word_of t ∷ []
words (t ∷ c ∷ ts) = word_of t ∷ words ts

-- a name and a comma before parameters, none of which is called so
abbrev pub fresh_name : Token → Token → List Token → Bool
fresh_name t c ts = nameable t && spells c (codes ",") && not (member t.spelling (words ts))
