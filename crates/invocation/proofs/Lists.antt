-- Places of lists. Assumes nothing.
use Rattle.std.proofs.Common.{◌≡◌, ℕ, zero, suc, ◌+◌, ◌-◌, ◌<◌, ◌≤◌, ltb, List, [], ◌∷◌, ◌++◌, map, reverse, length, get_or, take, drop, is_some, Some, None, sym, refl, ap, ◌∙◌, arith}
use lib.ListN.{length-reverse}
use Rattle.std.specs.List.{slice_get}
use Rattle.std.specs.Option.{option_map}
use Rattle.std.proofs.lemmas.List.{reverse-append, take_all, take_more, length-drop, get_or-reverse}
use Rattle.std.proofs.lemmas.Option.{slice_get-get_or}
use Rattle.std.proofs.lemmas.Bool.{lt-ltb}

pub take_behind : {A : Type 0} (xs : List A) (n k : ℕ) → k ≡ length xs → take k (drop n xs) ≡ drop n xs
take_behind xs n k e = take_all k (drop n xs) (simp length-drop (omega arith))

pub nth-map : {A B : Type 0} (f : A → B) (xs : List A) (i : ℕ) → slice_get (map f xs) i ≡ option_map f (slice_get xs i)
nth-map f [] i = refl
nth-map f (x ∷ xs) zero = refl
nth-map f (x ∷ xs) (suc i) = nth-map f xs i

pub has_first : {A : Type 0} (xs : List A) (n : ℕ) → n ≡ length xs → ltb 0 n ≡ is_some (slice_get xs 0)
has_first [] n e = ap (ltb 0) e
has_first (x ∷ xs) n e = lt-ltb 0 n (omega arith)

-- the last of a list is the first of its reverse
nth_last : {A : Type 0} (xs : List A) (n : ℕ) → n ≡ length xs → 0 < n → slice_get xs (n - 1) ≡ slice_get (reverse xs) 0
nth_last [] n e h = absurd (omega arith)
nth_last (x ∷ xs) n e h =
    slice_get-get_or (x ∷ xs) (n - 1) x (omega arith) ∙ sym (slice_get-get_or (reverse (x ∷ xs)) 0 x (omega (arith, length-reverse (x ∷ xs))) ∙ ap Some (get_or-reverse (x ∷ xs) 0 x (omega arith) ∙ ap (λ k. get_or (x ∷ xs) k x) (omega arith)))

pub last_first : {A : Type 0} (xs : List A) → slice_get xs (length xs - 1) ≡ slice_get (reverse xs) 0
last_first [] = refl
last_first (x ∷ xs) = nth_last (x ∷ xs) _ refl (omega arith)

pub drop-reverse : {A : Type 0} (xs : List A) → drop 1 (reverse xs) ≡ reverse (take (length xs - 1) xs)
drop-reverse [] = refl
drop-reverse (x ∷ xs) =
    let n = length xs in
    let all : x ∷ xs ≡ take n (x ∷ xs) ++ get_or (x ∷ xs) n x ∷ [] = sym (take_all (n + 1) (x ∷ xs) (omega arith)) ∙ take_more (x ∷ xs) n x (omega arith) in
    let count : n ≡ length (x ∷ xs) - 1 = omega arith in
    ap (λ ys. drop 1 (reverse ys)) all ∙ ap (drop 1) (reverse-append (take n (x ∷ xs)) _) ∙ ap (λ k. reverse (take k (x ∷ xs))) count

-- the first of two lists, one behind the other
pub none_first : {A : Type 0} (xs : List A) → None ≡ slice_get xs 0 → xs ≡ []
none_first [] e = refl
none_first (x ∷ xs) e = cc

pub take_first : {A : Type 0} (xs : List A) (x : A) → Some x ≡ slice_get xs 0 → x ∷ [] ≡ take 1 xs
take_first [] x e = cc
take_first (y ∷ xs) x e = cc

pub nth-append : {A : Type 0} (xs ys : List A) (x : A) → Some x ≡ slice_get xs 0 → Some x ≡ slice_get (xs ++ ys) 0
nth-append [] ys x e = cc
nth-append (y ∷ xs) ys x e = e

pub nth_second : {A : Type 0} (xs ys : List A) → None ≡ slice_get xs 0 → slice_get ys 0 ≡ slice_get (xs ++ ys) 0
nth_second [] ys e = refl
nth_second (y ∷ xs) ys e = cc

pub some_last : {A : Type 0} (xs : List A) (x : A) → Some x ≡ slice_get (reverse xs) 0 → 0 < length xs
some_last [] x e = let z : ◌≡◌ {A = ℕ} 0 1 = cc in omega arith
some_last (y ∷ xs) x e = omega arith

-- a list from a place on, up to a place, and behind a place
pub drop_nth : {A : Type 0} (xs : List A) (i : ℕ) (x : A) → Some x ≡ slice_get xs i → drop i xs ≡ x ∷ drop (suc i) xs
drop_nth [] i x e = cc
drop_nth (y ∷ xs) zero x e = cc
drop_nth (y ∷ xs) (suc i) x e = drop_nth xs i x e

pub take_nth : {A : Type 0} (xs : List A) (i : ℕ) (x : A) → Some x ≡ slice_get xs i → take (suc i) xs ≡ take i xs ++ x ∷ []
take_nth [] i x e = cc
take_nth (y ∷ xs) zero x e = cc
take_nth (y ∷ xs) (suc i) x e = ap (λ ys. y ∷ ys) (take_nth xs i x e)

pub nth_drop : {A : Type 0} (xs : List A) (n i : ℕ) → n ≤ i → slice_get (drop n xs) (i - n) ≡ slice_get xs i
nth_drop xs zero i h = let same : i - 0 ≡ i = omega arith in ap (slice_get xs) same
nth_drop [] (suc n) i h = refl
nth_drop (x ∷ xs) (suc n) zero h = absurd (omega arith)
nth_drop (x ∷ xs) (suc n) (suc i) h =
    let same : suc i - suc n ≡ i - n = omega arith in
    ap (slice_get (drop n xs)) same ∙ nth_drop xs n i (omega arith)

-- a list from a place on that has a first
pub first_there : {A : Type 0} (xs : List A) (i : ℕ) (x : A) (ys : List A) → drop i xs ≡ x ∷ ys → (Some x ≡ slice_get xs i) × (suc i ≤ length xs) × (ys ≡ drop (suc i) xs)
first_there [] zero x ys e = let z : ◌≡◌ {A = ℕ} 0 1 = cc in absurd (omega arith)
first_there [] (suc i) x ys e = let z : ◌≡◌ {A = ℕ} 0 1 = cc in absurd (omega arith)
first_there (z ∷ xs) zero x ys e = (cc, omega arith, cc)
first_there (z ∷ xs) (suc i) x ys e =
    let h = first_there xs i x ys e in
    (h.0, omega arith, h.2)

pub none_left : {A : Type 0} (xs : List A) (i : ℕ) → drop i xs ≡ [] → length xs ≤ i
none_left xs i e = omega (arith, length-drop i xs, ap length e)
