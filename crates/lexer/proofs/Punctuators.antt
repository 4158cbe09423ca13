-- The longest punctuator at the front, and what punctuators begin with. Assumes nothing.
use Rattle.std.proofs.Common.{◌≡◌, ℕ, suc, ◌≤◌, Bool, true, false, not, ◌&&◌, eqb, ◌⊎◌, List, [], ◌∷◌, ◌++◌, length, take, sym, refl, ap, ◌∙◌, inl, inr, arith}
use mathlib.Core.List.{Memᴰ}
use Rattle.std.proofs.lemmas.Bool.{and_parts, and_from, eqb-true, eq-eqb, cond-true, cond-false, cases_eq}
use Rattle.text.specs.Bytes.{digit, name_byte, mark}
use Rattle.lexer.specs.Cutting.{front}
use Rattle.lexer.specs.Punctuators.{punctuators, begins, longest}

pub begins_with : (w rest : List ℕ) → begins w (w ++ rest) ≡ true
begins_with [] rest = refl
begins_with (b ∷ w) rest = and_from _ _ (eq-eqb b b refl) (begins_with w rest)

pub begins-take : (w bs : List ℕ) → begins w bs ≡ true → take (length w) bs ≡ w
begins-take [] bs e = refl
begins-take (b ∷ w) [] e = absurd (let z : ◌≡◌ {A = ℕ} 0 1 = cc in omega arith)
begins-take (b ∷ w) (c ∷ bs) e = let p = and_parts (eqb b c) (begins w bs) e in let q = sym (eqb-true b c p.0) in let r = begins-take w bs p.1 in λ i. q i ∷ r i

pub begins-fits : (w bs : List ℕ) → begins w bs ≡ true → length w ≤ length bs
begins-fits [] bs e = omega arith
begins-fits (b ∷ w) [] e = absurd (let z : ◌≡◌ {A = ℕ} 0 1 = cc in omega arith)
begins-fits (b ∷ w) (c ∷ bs) e = let h = begins-fits w bs (and_parts (eqb b c) (begins w bs) e).1 in omega arith

-- no word of the list that the bytes begin with is longer
pub longest_reaches : {w : List ℕ} {ws : List (List ℕ)} (bs : List ℕ) → Memᴰ w ws → begins w bs ≡ true → length w ≤ longest ws bs
longest_reaches bs (Memᴰ.head {x} {xs} same) e =
    let l = ap length same in
    let c = cond-true (begins x bs) (length x) 0 (ap (λ (v : List ℕ). begins v bs) (sym same) ∙ e) in
    omega arith
longest_reaches bs (Memᴰ.tail {x} {xs} mem) e = let h = longest_reaches bs mem e in omega arith

-- a word of the list that the bytes begin with, and its length
pub record Found (ws : List (List ℕ)) (bs : List ℕ) (n : ℕ) : Type 0 where
  pub spelling : List ℕ
  pub listed : Memᴰ spelling ws
  pub stands : begins spelling bs ≡ true
  pub long : length spelling ≡ n

pub longest-found : (ws : List (List ℕ)) (bs : List ℕ) (n : ℕ) → longest ws bs ≡ suc n → Found ws bs (suc n)
longest-found [] bs n e = absurd (omega arith)
longest-found (w ∷ ws) bs n e = go (cases_eq (longest ws bs) (suc n)) (begins w bs) refl (longest-found ws bs n)
  where
    go : (longest ws bs ≡ suc n) ⊎ (longest ws bs ≡ suc n → ⊥) → (t : Bool) → begins w bs ≡ t → (longest ws bs ≡ suc n → Found ws bs (suc n)) → Found (w ∷ ws) bs (suc n)
    go (inl h) t f more = let r = more h in record { spelling = r.spelling; listed = Memᴰ.tail r.listed; stands = r.stands; long = r.long }
    go (inr h) true f more = let c = cond-true (begins w bs) (length w) 0 f in record { spelling = w; listed = Memᴰ.head refl; stands = f; long = omega arith }
    go (inr h) false f more = let c = cond-false (begins w bs) (length w) 0 f in absurd (omega arith)

-- a test of each word of a list
abbrev every : (List ℕ → Bool) → List (List ℕ) → Bool
every test [] = true
every test (w ∷ ws) = test w && every test ws

tested : (test : List ℕ → Bool) {w : List ℕ} {ws : List (List ℕ)} → Memᴰ w ws → every test ws ≡ true → test w ≡ true
tested test (Memᴰ.head {x} {xs} same) e = ap test same ∙ (and_parts (test x) (every test xs) e).0
tested test (Memᴰ.tail {x} {xs} mem) e = tested test mem (and_parts (test x) (every test xs) e).1

-- a punctuator begins with no byte of a name and no mark, and its second byte is no digit
abbrev pub punctuator_front : List ℕ → Bool
punctuator_front [] = false
punctuator_front (b ∷ bs) = not (mark b) && (not (name_byte b) && not (front digit bs))

pub punctuator-front : {w : List ℕ} → Memᴰ w punctuators → punctuator_front w ≡ true
punctuator-front mem = tested punctuator_front mem refl
