-- What single tokens are in a definition. Assumes nothing.
use Rattle.std.specs.Prelude.{ℕ, Bool, cond, ◌||◌, List, codes}
use Rattle.token.specs.Tokens.{Token}
use Rattle.definition.specs.Definitions.{variable, spells, nameable}

-- what a parameter is called in the replacement list
abbrev pub word_of : Token → List ℕ
word_of t = cond (nameable t) t.spelling variable

-- a token that may be the last parameter
abbrev pub last_name : Token → Bool
last_name t = nameable t || spells t (codes "...")
