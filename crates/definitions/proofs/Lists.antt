-- Parts of a list, one element on. Assumes nothing.
use Rattle.std.proofs.Common.{◌≡◌, ℕ, zero, suc, ◌+◌, List, [], ◌∷◌, ◌++◌, take, Some, ap, add-one}
use Rattle.std.specs.List.{slice_get}

take-one : {A : Type 0} (xs : List A) (i : ℕ) (x : A) → Some x ≡ slice_get xs i → take (suc i) xs ≡ take i xs ++ x ∷ []
take-one [] i x e = cc
take-one (y ∷ xs) zero x e = let p : y ≡ x = cc in ap (λ z. z ∷ []) p
take-one (y ∷ xs) (suc i) x e = ap (λ l. y ∷ l) (take-one xs i x e)

pub take_some : {A : Type 0} (xs : List A) (i : ℕ) (x : A) → Some x ≡ slice_get xs i → take (i + 1) xs ≡ take i xs ++ x ∷ []
take_some xs i x e = rw add-one (take-one xs i x e)
