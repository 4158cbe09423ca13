-- What # writes. Assumes nothing.
use Rattle.std.specs.Prelude.{ℕ, Bool, cond, not, ◌&&◌, List, [], ◌∷◌, ◌++◌}
use Rattle.token.specs.Tokens.{Token}
use Rattle.replacement.specs.Items.{Item}
use Rattle.replacement.specs.Joining.{written, inner}

-- the tokens between two quotes
abbrev pub quoted : List Item → List ℕ
quoted is = 34 ∷ (inner is ++ 34 ∷ [])

-- a token, behind a space where it is marked and not the first
abbrev pub spacing : Bool → Token → List ℕ
spacing first t = cond (not first && t.marked) (32 ∷ []) [] ++ written t.kind t.spelling
