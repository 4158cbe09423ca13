-- Replacement lists, token by token. Assumes nothing.
use Rattle.std.specs.Prelude.{ℕ, Bool, false, not, ◌||◌, List, [], ◌∷◌}
use Rattle.token.specs.Tokens.{Token}
use Rattle.definition.specs.Definitions.{member, hash}

-- whether one of the names stands first
abbrev pub starts_in : List (List ℕ) → List Token → Bool
starts_in ns [] = false
starts_in ns (t ∷ ts) = member t.spelling ns

-- a token that is no #, or stands before one of the names
abbrev pub hashed_first : List (List ℕ) → Token → List Token → Bool
hashed_first ns t ts = not (hash t) || starts_in ns ts
