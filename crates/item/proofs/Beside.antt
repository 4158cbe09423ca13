-- Lists side by side. Assumes nothing.
use Rattle.std.proofs.Common.{◌≡◌, ℕ, zero, suc, ◌+◌, ◌-◌, ◌≤◌, min, List, [], ◌∷◌, ◌++◌, length, take, drop, Some, None, sym, refl, ap, ◌∙◌, suc-le-suc, add_assoc, zero-add, arith, length-drop, length-take}
use Rattle.std.proofs.Math.Seq.{take-length, take-suc}
use Rattle.std.proofs.lemmas.Option.{get_or_from_slice_get}
use Rattle.std.specs.List.{slice_get}
use Rattle.token.specs.Tokens.{Token}
use Rattle.token.specs.Views.{spelled}
use Rattle.item.specs.Tagged.{Tagged, beside, bytes}

pub beside_none : {T : Type 0} (ts : List Token) → beside {T = T} ts [] ≡ []
beside_none [] = refl
beside_none (t ∷ ts) = refl

pub length-beside : {T : Type 0} (ts : List Token) (xs : List T) → length xs ≡ length ts → length (beside ts xs) ≡ length ts
length-beside [] xs e = refl
length-beside (t ∷ ts) [] e = absurd (omega arith)
length-beside (t ∷ ts) (x ∷ xs) e = ap suc (length-beside ts xs (omega arith))

pub beside-append : {T : Type 0} (ts us : List Token) (xs ys : List T) → length xs ≡ length ts → beside (ts ++ us) (xs ++ ys) ≡ beside ts xs ++ beside us ys
beside-append [] us [] ys e = refl
beside-append [] us (x ∷ xs) ys e = absurd (omega arith)
beside-append (t ∷ ts) us [] ys e = absurd (omega arith)
beside-append (t ∷ ts) us (x ∷ xs) ys e = ap (λ is. record { token = t; tag = x } ∷ is) (beside-append ts us xs ys (omega arith))

pub take-beside : {T : Type 0} (n : ℕ) (ts : List Token) (xs : List T) → take n (beside ts xs) ≡ beside (take n ts) (take n xs)
take-beside zero ts xs = refl
take-beside (suc n) [] xs = refl
take-beside (suc n) (t ∷ ts) [] = refl
take-beside (suc n) (t ∷ ts) (x ∷ xs) = ap (λ is. record { token = t; tag = x } ∷ is) (take-beside n ts xs)

pub drop-beside : {T : Type 0} (n : ℕ) (ts : List Token) (xs : List T) → drop n (beside ts xs) ≡ beside (drop n ts) (drop n xs)
drop-beside zero ts xs = refl
drop-beside (suc n) [] xs = refl
drop-beside (suc n) (t ∷ ts) [] = sym (beside_none (drop n ts))
drop-beside (suc n) (t ∷ ts) (x ∷ xs) = drop-beside n ts xs

-- a list has nothing behind its end
pub nth_beyond : {T : Type 0} (xs : List T) (i : ℕ) → slice_get xs i ≡ None → length xs ≤ i
nth_beyond [] i e = omega arith
nth_beyond (y ∷ xs) zero e = let z : ◌≡◌ {A = ℕ} 0 1 = cc in omega arith
nth_beyond (y ∷ xs) (suc i) e = suc-le-suc (nth_beyond xs i e)

-- a list ends with what stands at its last place
pub split_last : {T : Type 0} (xs : List T) (n : ℕ) (x : T) → slice_get xs n ≡ Some x → length xs ≡ suc n → xs ≡ take n xs ++ x ∷ []
split_last xs n x e long =
    sym (take-length xs) ∙ ap (λ k. take k xs) long ∙ take-suc xs n x (omega arith) ∙ ap (λ y. take n xs ++ y ∷ []) (get_or_from_slice_get xs n x x e)

pub none_first : {T : Type 0} (xs : List T) → slice_get xs 0 ≡ None → xs ≡ []
none_first [] e = refl
none_first (x ∷ xs) e = let z : ◌≡◌ {A = ℕ} 0 1 = cc in absurd (omega arith)

pub nth-beside : {T : Type 0} (ts : List Token) (xs : List T) (i : ℕ) (t : Token) (x : T) → slice_get ts i ≡ Some t → slice_get xs i ≡ Some x → slice_get (beside ts xs) i ≡ Some (record { token = t; tag = x })
nth-beside [] xs i t x e f = let z : ◌≡◌ {A = ℕ} 0 1 = cc in absurd (omega arith)
nth-beside (u ∷ ts) [] i t x e f = let z : ◌≡◌ {A = ℕ} 0 1 = cc in absurd (omega arith)
nth-beside (u ∷ ts) (y ∷ xs) zero t x e f = cc
nth-beside (u ∷ ts) (y ∷ xs) (suc i) t x e f = nth-beside ts xs i t x e f

pub bytes-beside : {T : Type 0} (ts : List Token) (xs : List T) → length xs ≡ length ts → bytes (beside ts xs) ≡ spelled ts
bytes-beside [] xs e = refl
bytes-beside (t ∷ ts) [] e = absurd (omega arith)
bytes-beside (t ∷ ts) (x ∷ xs) e = ap (λ n. length t.spelling + n) (bytes-beside ts xs (omega arith))

pub bytes-append : {T : Type 0} (is js : List (Tagged T)) → bytes (is ++ js) ≡ bytes is + bytes js
bytes-append [] js = sym (zero-add (bytes js))
bytes-append (i ∷ is) js = ap (λ n. length i.token.spelling + n) (bytes-append is js) ∙ sym (add_assoc _ (bytes is) (bytes js))

-- the same part of two lists
module _ {T : Type 0} (ts us : List Token) (xs ys : List T) (start len : ℕ) (e : us ≡ take len (drop start ts)) (f : ys ≡ take len (drop start xs)) where
  pub length_part : length xs ≡ length ts → length ys ≡ length us
  length_part h =
      ap length f ∙ length-take len (drop start xs) ∙ ap (min len) (length-drop start xs ∙ ap (λ n. n - start) h ∙ sym (length-drop start ts)) ∙ sym (ap length e ∙ length-take len (drop start ts))

  pub beside-part : beside us ys ≡ take len (drop start (beside ts xs))
  beside-part =
      (λ i. beside (e i) (f i)) ∙ sym (ap (take len) (drop-beside start ts xs) ∙ take-beside len (drop start ts) (drop start xs))
