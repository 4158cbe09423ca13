-- A number goes as far as the grammar lets it. Assumes nothing.
use Rattle.std.proofs.Common.{◌≡◌, ℕ, suc, ◌≤◌, Bool, true, false, ◌&&◌, ◌||◌, eqb, List, [], ◌∷◌, ◌++◌, length, take, sym, refl, ap, ◌∙◌, subst, ⊎_elim, append_assoc, append-nil, arith}
use Rattle.std.proofs.lemmas.Bool.{and_parts, and_from, or_left, or_right, or_cases, cond_both, cond-true, eqb-true, false≢true}
use Rattle.std.proofs.lemmas.Bool.Decides.{nat_tests}
use Rattle.text.specs.Bytes.{within, digit, name_byte}
use Rattle.lexer.specs.Cutting.{sign, exponent, number_length, front}
use Rattle.lexer.specs.Grammar.{Numeral}
use Rattle.lexer.specs.Grammar.Numeral.{one, point, more, signed}

-- whether a number goes on with the byte
abbrev goes : Bool → ℕ → Bool
goes e b = name_byte b || eqb b 46 || (e && sign b)

-- whether a number goes on with all of the bytes
abbrev pub all_go : Bool → List ℕ → Bool
all_go e [] = true
all_go e (b ∷ bs) = goes e b && all_go (exponent b) bs

-- whether the last byte is an exponent's letter
abbrev last : Bool → List ℕ → Bool
last e [] = e
last e (b ∷ bs) = last (exponent b) bs

all_go-append : (e : Bool) (bs cs : List ℕ) → all_go e bs ≡ true → all_go (last e bs) cs ≡ true → all_go e (bs ++ cs) ≡ true
all_go-append e [] cs h k = k
all_go-append e (b ∷ bs) cs h k = let p = and_parts (goes e b) (all_go (exponent b) bs) h in and_from _ _ p.0 (all_go-append (exponent b) bs cs p.1 k)

pub number_fits : (e : Bool) (bs : List ℕ) → number_length e bs ≤ length bs
number_fits e [] = omega arith
number_fits e (b ∷ bs) = let h = number_fits (exponent b) bs in cond_both (goes e b) (suc (number_length (exponent b) bs)) 0 (λ n. n ≤ suc (length bs)) (λ _. omega arith) (λ _. omega arith)

pub number_reaches : (e : Bool) (bs rest : List ℕ) → all_go e bs ≡ true → length bs ≤ number_length e (bs ++ rest)
number_reaches e [] rest h = omega arith
number_reaches e (b ∷ bs) rest h =
    let p = and_parts (goes e b) (all_go (exponent b) bs) h in
    let k = number_reaches (exponent b) bs rest p.1 in
    subst (λ n. suc (length bs) ≤ n) (sym (cond-true (goes e b) (suc (number_length (exponent b) (bs ++ rest))) 0 p.0)) (omega arith)

-- whether a number begins with the bytes
abbrev pub number_front : List ℕ → Bool
number_front [] = false
number_front (b ∷ bs) = digit b || (eqb b 46 && front digit bs)

abbrev pub tail_of : List ℕ → List ℕ
tail_of [] = []
tail_of (b ∷ bs) = bs

digit-name : (b : ℕ) → digit b ≡ true → name_byte b ≡ true
digit-name b h = or_left _ (eqb b 95) (or_right (within 97 122 b || within 65 90 b) _ h)

exponent-name : (b : ℕ) → exponent b ≡ true → name_byte b ≡ true
exponent-name b h = grind (arith, nat_tests)

digit-exponent : (b : ℕ) → digit b ≡ true → exponent b ≡ true → ⊥
digit-exponent b h k = grind (arith, nat_tests)

pub number-front-append : (bs cs : List ℕ) → number_front bs ≡ true → number_front (bs ++ cs) ≡ true
number-front-append [] cs h = absurd (false≢true h)
number-front-append (b ∷ []) cs h = ⊎_elim (λ d. or_left (digit b) _ d) (λ d. absurd (false≢true (and_parts (eqb b 46) false d).1)) (or_cases (digit b) _ h)
number-front-append (b ∷ c ∷ bs) cs h = h

tail-append : (bs cs : List ℕ) → number_front bs ≡ true → tail_of (bs ++ cs) ≡ tail_of bs ++ cs
tail-append [] cs h = absurd (false≢true h)
tail-append (b ∷ bs) cs h = refl

further : (bs cs : List ℕ) → (number_front bs ≡ true) × (all_go false (tail_of bs) ≡ true) → all_go (last false (tail_of bs)) cs ≡ true → (number_front (bs ++ cs) ≡ true) × (all_go false (tail_of (bs ++ cs)) ≡ true)
further bs cs h k = (number-front-append bs cs h.0, rw (tail-append bs cs h.0) (all_go-append false (tail_of bs) cs h.1 k))

-- a numeral begins as one, and a number goes on with all of it
pub numeral_goes : {bs : List ℕ} → Numeral bs → (number_front bs ≡ true) × (all_go false (tail_of bs) ≡ true)
numeral_goes (one {d} h) = (or_left (digit d) _ h, refl)
numeral_goes (point {d} h) = (h, and_from (goes false d) true (or_left _ _ (or_left _ _ (digit-name d h))) refl)
numeral_goes (more {bs} b n h) = further bs (b ∷ []) (numeral_goes n) (and_from (goes _ b) true (or_left _ _ h) refl)
numeral_goes (signed {bs} e b n h k) =
    further bs (e ∷ b ∷ []) (numeral_goes n) (and_from (goes _ e) _ (or_left _ _ (or_left _ _ (exponent-name e h))) (and_from (goes (exponent e) b) true (or_right _ _ (and_from _ _ h k)) refl))

-- a numeral, and if its last byte is an exponent's letter, what stands before that is one too
record Ready (bs : List ℕ) (e : Bool) : Type 0 where
  whole : Numeral bs
  before : e ≡ true → (cs : List ℕ) × (c : ℕ) × Numeral cs × (exponent c ≡ true) × (bs ≡ cs ++ c ∷ [])

ready_more : (bs : List ℕ) (e : Bool) (b : ℕ) → Ready bs e → goes e b ≡ true → Ready (bs ++ b ∷ []) (exponent b)
ready_more bs e b r h = record { whole = ⊎_elim (λ k. more b r.whole k) with_sign (or_cases (name_byte b || eqb b 46) (e && sign b) h); before = λ k. (bs, b, r.whole, k, refl) }
  where
    with_sign : (e && sign b) ≡ true → Numeral (bs ++ b ∷ [])
    with_sign k =
        let p = and_parts e (sign b) k in
        let (cs, c, n, x, same) = r.before p.0 in
        subst Numeral (sym (append_assoc cs (c ∷ []) (b ∷ [])) ∙ ap (λ (l : List ℕ). l ++ b ∷ []) (sym same)) (signed c b n x p.1)

ready_all : (bs : List ℕ) (e : Bool) (rest : List ℕ) → Ready bs e → Numeral (bs ++ take (number_length e rest) rest)
ready_all bs e [] r = rw append-nil r.whole
ready_all bs e (b ∷ rest) r =
    let on = λ (h : goes e b ≡ true). ready_all (bs ++ b ∷ []) (exponent b) rest (ready_more bs e b r h) in
    cond_both (goes e b) (suc (number_length (exponent b) rest)) 0 (λ n. Numeral (bs ++ take n (b ∷ rest))) (λ h. rw append_assoc at (on h)) (λ h. rw append-nil r.whole)

pointed : (b : ℕ) (bs : List ℕ) → eqb b 46 ≡ true → front digit bs ≡ true → Numeral (b ∷ take (number_length false bs) bs)
pointed b [] e h = absurd (false≢true h)
pointed b (d ∷ bs) e h =
    let on = cond-true (goes false d) (suc (number_length (exponent d) bs)) 0 (or_left _ _ (or_left _ _ (digit-name d h))) in
    let all = ready_all (46 ∷ d ∷ []) (exponent d) bs (record { whole = point h; before = λ k. absurd (digit-exponent d h k) }) in
    subst (λ (x : ℕ). Numeral (x ∷ take (number_length false (d ∷ bs)) (d ∷ bs))) (sym (eqb-true b 46 e)) (subst (λ (n : ℕ). Numeral (46 ∷ take n (d ∷ bs))) (sym on) all)

-- what a number takes is a numeral
pub number_numeral : (b : ℕ) (bs : List ℕ) → number_front (b ∷ bs) ≡ true → Numeral (b ∷ take (number_length false bs) bs)
number_numeral b bs h =
    ⊎_elim
    (λ d. ready_all (b ∷ []) false bs (record { whole = one d; before = λ k. absurd (false≢true k) }))
    (λ p. let q = and_parts (eqb b 46) (front digit bs) p in pointed b bs q.0 q.1)
    (or_cases (digit b) _ h)
