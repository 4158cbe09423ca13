-- Comparing lists. Assumes nothing.
use Rattle.std.proofs.Common.{◌≡◌, suc, Bool, true, false, ◌&&◌, List, [], ◌∷◌, length, refl, ap, ◌∙◌, arith}
use Rattle.std.specs.List.{list_all, zip}
use Rattle.token.specs.Tokens.{Token}
use Rattle.definitions.specs.InForce.{same_tokens}
use Rattle.definitions.specs.Layout.{same_token}

pub tokens_same : (xs ys : List Token) → length xs ≡ length ys → list_all (λ p. same_token p.0 p.1) (zip xs ys) ≡ same_tokens xs ys
tokens_same [] [] e = refl
tokens_same [] (y ∷ ys) e = absurd (omega arith)
tokens_same (x ∷ xs) [] e = absurd (omega arith)
tokens_same (x ∷ xs) (y ∷ ys) e = ap (λ b. same_token x y && b) (tokens_same xs ys (omega arith))

pub tokens_apart : (xs ys : List Token) → (length xs ≡ length ys → ⊥) → false ≡ same_tokens xs ys
tokens_apart [] [] e = absurd (e refl)
tokens_apart [] (y ∷ ys) e = refl
tokens_apart (x ∷ xs) [] e = refl
tokens_apart (x ∷ xs) (y ∷ ys) e =
    and_false (same_token x y) ∙ ap (λ b. same_token x y && b) (tokens_apart xs ys (λ l. e (ap suc l)))
  where
    and_false : (b : Bool) → false ≡ (b && false)
    and_false true = refl
    and_false false = refl
