-- Tokens with something beside each. Assumes nothing.
use Rattle.std.specs.Prelude.{ℕ, ◌+◌, Bool, ◌&&◌, List, [], ◌∷◌, length, nat_le}
use Rattle.token.specs.Tokens.{Token}

pub record Tagged (T : Type 0) : Type 0 where
  pub token : Token
  pub tag : T

abbrev pub beside : {T : Type 0} → List Token → List T → List (Tagged T)
beside [] xs = []
beside (t ∷ ts) [] = []
beside (t ∷ ts) (x ∷ xs) = record { token = t; tag = x } ∷ beside ts xs

-- the bytes of all spellings
abbrev pub bytes : {T : Type 0} → List (Tagged T) → ℕ
bytes [] = 0
bytes (i ∷ is) = length i.token.spelling + bytes is

-- at most 1,024 tokens and 16,384 bytes
abbrev pub fit : {T : Type 0} → List (Tagged T) → Bool
fit is = nat_le (length is) 1024 && nat_le (bytes is) 16384
