-- Words of one length, and the longest punctuator that bytes begin with. Assumes nothing.
use Rattle.std.proofs.Common.{◌≡◌, ℕ, zero, suc, ◌+◌, max, Bool, true, false, cond, not, ◌&&◌, ◌||◌, eqb, List, [], ◌∷◌, ◌++◌, length, get_or, drop, Some, None, sym, refl, ap, ◌∙◌, ⊎_elim, arith}
use Rattle.std.proofs.lemmas.List.{at_drop_more, at_drop_all, get_or_past}
use Rattle.std.proofs.lemmas.Bool.{and_parts, cases_lt, not-true}
use Rattle.lexer.specs.Punctuators.{ones, twos, threes, fours, punctuators, begins, longest}
use Rattle.lexer.specs.Scanning.{starting, longest_of, some_length}

-- n bytes from i on, 0 where there is none
abbrev pub front : ℕ → ℕ → List ℕ → List ℕ
front i zero bs = []
front i (suc n) bs = get_or bs i 0 ∷ front (i + 1) n bs

-- a word of n bytes, none of them 0
abbrev sized : ℕ → List ℕ → Bool
sized zero [] = true
sized (suc n) [] = false
sized zero (w ∷ ws) = false
sized (suc n) (w ∷ ws) = not (eqb w 0) && sized n ws

abbrev all_sized : ℕ → List (List ℕ) → Bool
all_sized n [] = true
all_sized n (w ∷ ws) = sized n w && all_sized n ws

begins-front : (i n : ℕ) (w bs : List ℕ) → sized n w ≡ true → begins w (front i n bs) ≡ begins w (drop i bs)
begins-front i zero [] bs s = refl
begins-front i zero (x ∷ w) bs s = absurd (let z : ◌≡◌ {A = ℕ} 0 1 = cc in omega arith)
begins-front i (suc n) [] bs s = absurd (let z : ◌≡◌ {A = ℕ} 0 1 = cc in omega arith)
begins-front i (suc n) (x ∷ w) bs s =
    let parts = and_parts (not (eqb x 0)) _ s in
    ⊎_elim
    (λ within. let more : begins (x ∷ w) (drop i bs) ≡ (eqb x (get_or bs i 0) && begins w (drop (i + 1) bs)) = at_drop_more (begins (x ∷ w)) bs i 0 within in ap (λ t. eqb x (get_or bs i 0) && t) (begins-front (i + 1) n w bs parts.1) ∙ sym more)
    (λ past. let none : begins (x ∷ w) (drop i bs) ≡ false = at_drop_all (begins (x ∷ w)) bs i past in ap (λ b. eqb x b && begins w (front (i + 1) n bs)) (get_or_past bs i 0 past) ∙ ap (λ t. t && begins w (front (i + 1) n bs)) (not-true _ parts.0) ∙ sym none)
    (cases_lt i (length bs))

starting-front : (n : ℕ) (ws : List (List ℕ)) (bs : List ℕ) → all_sized n ws ≡ true → starting ws (front 0 n bs) ≡ starting ws bs
starting-front n [] bs s = refl
starting-front n (w ∷ ws) bs s =
    let parts = and_parts (sized n w) _ s in
    λ i. begins-front 0 n w bs parts.0 i || starting-front n ws bs parts.1 i

length_sized : (n : ℕ) (w : List ℕ) → sized n w ≡ true → length w ≡ n
length_sized zero [] s = refl
length_sized zero (x ∷ w) s = absurd (let z : ◌≡◌ {A = ℕ} 0 1 = cc in omega arith)
length_sized (suc n) [] s = absurd (let z : ◌≡◌ {A = ℕ} 0 1 = cc in omega arith)
length_sized (suc n) (x ∷ w) s = ap suc (length_sized n w (and_parts (not (eqb x 0)) _ s).1)

larger : (n : ℕ) (a b : Bool) → max (cond a n 0) (cond b n 0) ≡ cond (a || b) n 0
larger n true true = omega arith
larger n true false = omega arith
larger n false true = omega arith
larger n false false = refl

longest_sized : (n : ℕ) (ws : List (List ℕ)) (bs : List ℕ) → all_sized n ws ≡ true → longest ws bs ≡ cond (starting ws bs) n 0
longest_sized n [] bs s = refl
longest_sized n (w ∷ ws) bs s =
    let parts = and_parts (sized n w) _ s in
    (λ i. max (cond (begins w bs) (length_sized n w parts.0 i) 0) (longest_sized n ws bs parts.1 i)) ∙ larger n (begins w bs) (starting ws bs)

-- the longest of words of one length, by the bytes at the front alone
longest-front : (n : ℕ) (ws : List (List ℕ)) (bs : List ℕ) → all_sized n ws ≡ true → longest ws bs ≡ cond (starting ws (front 0 n bs)) n 0
longest-front n ws bs s = longest_sized n ws bs s ∙ ap (λ t. cond t n 0) (sym (starting-front n ws bs s))

longest-append : (us vs : List (List ℕ)) (bs : List ℕ) → longest (us ++ vs) bs ≡ max (longest us bs) (longest vs bs)
longest-append [] vs bs = omega arith
longest-append (u ∷ us) vs bs =
    ap (max (cond (begins u bs) (length u) 0)) (longest-append us vs bs) ∙ omega arith

by_length : (a b c d : Bool) → max (cond a 1 0) (max (cond b 2 0) (max (cond c 3 0) (cond d 4 0))) ≡ cond d 4 (cond c 3 (cond b 2 (cond a 1 0)))
by_length true true true true = refl
by_length true true true false = refl
by_length true true false true = refl
by_length true true false false = refl
by_length true false true true = refl
by_length true false true false = refl
by_length true false false true = refl
by_length true false false false = refl
by_length false true true true = refl
by_length false true true false = refl
by_length false true false true = refl
by_length false true false false = refl
by_length false false true true = refl
by_length false false true false = refl
by_length false false false true = refl
by_length false false false false = refl

some_length-by_length : (a b c d : Bool) → some_length (cond d 4 (cond c 3 (cond b 2 (cond a 1 0)))) ≡ cond d (Some 4) (cond c (Some 3) (cond b (Some 2) (cond a (Some 1) None)))
some_length-by_length a b c true = refl
some_length-by_length a b true false = refl
some_length-by_length a true false false = refl
some_length-by_length true false false false = refl
some_length-by_length false false false false = refl

pub longest-punctuator : (bs : List ℕ) → some_length (longest punctuators bs) ≡ longest_of (get_or bs 0 0) (get_or bs 1 0) (get_or bs 2 0) (get_or bs 3 0)
longest-punctuator bs =
    ap some_length (longest-append ones (twos ++ (threes ++ fours)) bs
    ∙ ap (max (longest ones bs)) (longest-append twos (threes ++ fours) bs ∙ ap (max (longest twos bs)) (longest-append threes fours bs))
    ∙ (λ i. max (longest-front 1 ones bs refl i) (max (longest-front 2 twos bs refl i) (max (longest-front 3 threes bs refl i) (longest-front 4 fours bs refl i))))
    ∙ by_length (starting ones (front 0 1 bs)) (starting twos (front 0 2 bs)) (starting threes (front 0 3 bs)) (starting fours (front 0 4 bs)))
    ∙ some_length-by_length (starting ones (front 0 1 bs)) (starting twos (front 0 2 bs)) (starting threes (front 0 3 bs)) (starting fours (front 0 4 bs))
