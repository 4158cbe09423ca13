-- A part of a list whose bounds are clipped to the list is the part itself. Assumes nothing.
use Rattle.std.proofs.Common.{◌≡◌, ℕ, ◌+◌, ◌-◌, min, List, length, take, drop, sym, ap, ◌∙◌, ⊎_elim, arith, length-drop}
use Rattle.std.proofs.lemmas.List.{take_all, drop_all}
use Rattle.std.proofs.lemmas.Bool.{cases_lt}

take_clipped : {T : Type 0} (xs : List T) (n m : ℕ) → m ≡ min n (length xs) → take m xs ≡ take n xs
take_clipped xs n m e =
    ⊎_elim (λ lt. ap (λ k. take k xs) (omega arith)) (λ le. take_all m xs (omega arith) ∙ sym (take_all n xs le)) (cases_lt n (length xs))

drop_clipped : {T : Type 0} (xs : List T) (n m : ℕ) → m ≡ min n (length xs) → drop m xs ≡ drop n xs
drop_clipped xs n m e =
    ⊎_elim (λ lt. ap (λ k. drop k xs) (omega arith)) (λ le. drop_all m xs (omega arith) ∙ sym (drop_all n xs le)) (cases_lt n (length xs))

pub clipped : {T : Type 0} (xs : List T) (start len s l : ℕ) → s ≡ min start (length xs) → l ≡ min len (length xs - s) → take ((s + l) - s) (drop s xs) ≡ take len (drop start xs)
clipped xs start len s l e f =
    take_clipped (drop s xs) len _ (omega (arith, length-drop s xs)) ∙ ap (take len) (drop_clipped xs start s e)
