-- A literal opens that is not closed just where the scan says so. Assumes nothing.
use Rattle.std.proofs.Common.{◌≡◌, ℕ, zero, suc, ◌+◌, ◌<◌, Bool, true, false, eqb, ◌⊎◌, List, [], ◌∷◌, length, take, drop, Some, None, Option, sym, refl, ap, ◌∙◌, subst, inl, inr, ⊎_elim, arith, length-append, take-append-drop}
use Rattle.std.proofs.lemmas.Bool.{and_parts, not-true, cond_both, cond-true, both_ways, false≢true}
use Rattle.std.proofs.lemmas.Bool.Decides.{nat_tests}
use Rattle.text.specs.Bytes.{digit, mark}
use Rattle.token.specs.declared.Kind.{Kind}
use Rattle.token.specs.declared.Kind.TheVariants.{Character, String}
use Rattle.lexer.specs.Cutting.{white, front, literal_length, scan, Scan}
use Rattle.lexer.specs.Cutting.Scan.{token, unclosed}
use Rattle.lexer.specs.Grammar.{Quoted, Spells, Unclosed}
use Rattle.lexer.specs.Grammar.Quoted.{narrow, wide}
use Rattle.lexer.specs.Grammar.Spells.{identifier, number, character, string, punctuator, other}
use Rattle.lexer.proofs.Numerals.{number_front, numeral_goes}
use Rattle.lexer.proofs.Punctuators.{punctuator_front, punctuator-front}
use Rattle.lexer.proofs.Reaching.{Reaches, literal_scan, literal_is, name-mark, number-front-mark, reaching}
use Rattle.lexer.proofs.Sound.{Opened, Sound, sound}

-- what the scan takes reaches as far as any front that spells a token
pub reaches_front : (k : Kind) (n : ℕ) (w : List ℕ) (s : Scan) → scan w ≡ s → Spells k (take n w) → 1 < length (take n w) → Reaches k (length (take n w)) s
reaches_front k n w s e h l = subst (Reaches k (length (take n w))) (ap scan (take-append-drop n w) ∙ e) (reaching h (drop n w) (λ one. absurd (omega arith)))

-- no bytes, or a mark in front
abbrev mark_first : List ℕ → Bool
mark_first [] = true
mark_first (b ∷ bs) = mark b

mark_first_take : (n m : ℕ) (bs : List ℕ) → mark m ≡ true → mark_first (take n (m ∷ bs)) ≡ true
mark_first_take zero m bs h = refl
mark_first_take (suc n) m bs h = h

quoted-long : {m : ℕ} {cs w : List ℕ} → Quoted m cs w → 1 < length w
quoted-long {m} {cs} (narrow i) = let l = length-append cs (m ∷ []) in omega arith
quoted-long {m} {cs} (wide i) = omega arith

unmarked_number : (w : List ℕ) → number_front w ≡ true → mark_first w ≡ true → ⊥
unmarked_number [] o h = false≢true o
unmarked_number (b ∷ bs) o h = both_ways (mark b) (number-front-mark b (front digit bs) o) h

unmarked_punctuator : (w : List ℕ) → punctuator_front w ≡ true → mark_first w ≡ true → ⊥
unmarked_punctuator [] s h = false≢true s
unmarked_punctuator (b ∷ bs) s h = both_ways (mark b) (not-true (mark b) (and_parts _ _ s).0) h

-- a token with a mark in front has two bytes or more
mark_first_long : {k : Kind} {w : List ℕ} → Spells k w → mark_first w ≡ true → 1 < length w
mark_first_long (identifier {b} n d named) h = absurd (both_ways (mark b) (name-mark b n) h)
mark_first_long (number {bs} n) h = absurd (unmarked_number bs (numeral_goes n).0 h)
mark_first_long (character q) h = quoted-long q
mark_first_long (string q) h = quoted-long q
mark_first_long (punctuator {w} mem) h = absurd (unmarked_punctuator w (punctuator-front mem) h)
mark_first_long (other {b} a m c d) h = absurd (both_ways (mark b) m h)

character-long : {w : List ℕ} → Spells Character w → 1 < length w
character-long (character q) = quoted-long q

string-long : {w : List ℕ} → Spells String w → 1 < length w
string-long (string q) = quoted-long q

pub literal-unclosed : {w : List ℕ} → Opened w → scan w ≡ unclosed → Unclosed w
literal-unclosed (Opened.narrow {m} {bs} h) e = Unclosed.narrow h (λ k n s. reaches_front k n (m ∷ bs) unclosed e s (mark_first_long s (mark_first_take n m bs h)))
literal-unclosed (Opened.wide {m} {bs} h) e =
    let w = 76 ∷ m ∷ bs in
    Unclosed.wide h (λ n s. reaches_front Character n w unclosed e s (character-long s)) (λ n s. reaches_front String n w unclosed e s (string-long s))

-- a literal's scan gives a literal
literal-kind : (m n : ℕ) (o : Option ℕ) (k : Kind) (i : ℕ) → literal_scan m n o ≡ token k i → (k ≡ Character) ⊎ (k ≡ String)
literal-kind m n None k i e = absurd (let z : ◌≡◌ {A = ℕ} 0 1 = cc in omega arith)
literal-kind m n (Some j) k i e =
    cond_both (eqb m 39) _ _ Kinds
    (λ _. cond_both (eqb j 1) unclosed (token Character (n + j)) Kinds (λ _ e. absurd (let z : ◌≡◌ {A = ℕ} 0 1 = cc in omega arith)) (λ _ e. inl cc))
    (λ _ e. inr cc)
    e
  where
    Kinds : Scan → Type 0
    Kinds s = s ≡ token k i → (k ≡ Character) ⊎ (k ≡ String)

-- where the scan takes a token no literal opens that is not closed
pub not_unclosed : {w : List ℕ} (k : Kind) (n : ℕ) → Unclosed w → scan w ≡ token k n → Spells k (take n w) → ⊥
not_unclosed k n (Unclosed.narrow h none) e s = none k n s
not_unclosed k n (Unclosed.wide {m} {bs} h no-character no-string) e s =
    ⊎_elim
    (λ c. no-character n (subst (λ (x : Kind). Spells x (take n (76 ∷ m ∷ bs))) c s))
    (λ c. no-string n (subst (λ (x : Kind). Spells x (take n (76 ∷ m ∷ bs))) c s))
    (literal-kind m 2 (literal_length m false bs) k n (sym (cond-true (mark m) _ _ h ∙ literal_is m 2 bs) ∙ e))

mark-white : (m : ℕ) → mark m ≡ true → white m ≡ false
mark-white m h = grind (arith, nat_tests)

pub unclosed-white : {b : ℕ} {bs : List ℕ} → Unclosed (b ∷ bs) → white b ≡ false
unclosed-white (Unclosed.narrow {m} h none) = mark-white m h
unclosed-white (Unclosed.wide h no-character no-string) = refl

pub unclosed-scan : {b : ℕ} {bs : List ℕ} → Unclosed (b ∷ bs) → scan (b ∷ bs) ≡ unclosed
unclosed-scan {b} {bs} u = go (scan (b ∷ bs)) refl (sound b bs (unclosed-white u))
  where
    go : (s : Scan) → scan (b ∷ bs) ≡ s → Sound (b ∷ bs) s → scan (b ∷ bs) ≡ unclosed
    go unclosed e o = e
    go (token k n) e s = absurd (not_unclosed k n u e s.2)
