-- The last token of a replacement list. Assumes nothing.
use Rattle.std.proofs.Common.{◌≡◌, suc, ◌-◌, Bool, false, List, [], ◌∷◌, length, Some, None, Option, refl, ap, ◌∙◌, arith}
use Rattle.std.specs.List.{slice_get}
use Rattle.std.specs.Option.{option_map}
use Rattle.token.specs.declared.TokenRef.{TokenRef}
use Rattle.token.specs.Tables.{referred}
use Rattle.token.specs.Tokens.{Token}
use Rattle.definition.specs.Definitions.{last_joins, join}

abbrev pub joins : Option TokenRef → Bool
joins None = false
joins (Some x) = join (referred x)

abbrev joins_token : Option Token → Bool
joins_token None = false
joins_token (Some t) = join t

joins-referred : (o : Option TokenRef) → joins o ≡ joins_token (option_map referred o)
joins-referred None = refl
joins-referred (Some x) = refl

last_of : (ts : List Token) → joins_token (slice_get ts (length ts - 1)) ≡ last_joins ts
last_of [] = refl
last_of (t ∷ []) = refl
last_of (t ∷ u ∷ ts) =
    let before : length (t ∷ u ∷ ts) - 1 ≡ suc (length (u ∷ ts) - 1) = omega arith in
    ap (λ k. joins_token (slice_get (t ∷ u ∷ ts) k)) before ∙ last_of (u ∷ ts)

-- the token at the last index
pub last_joins_lem : (ts : List Token) (o : Option TokenRef) → option_map referred o ≡ slice_get ts (length ts - 1) → joins o ≡ last_joins ts
last_joins_lem ts o e = joins-referred o ∙ ap joins_token e ∙ last_of ts
