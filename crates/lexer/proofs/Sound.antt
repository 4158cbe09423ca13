-- What the scan takes spells a token of its kind. Assumes nothing.
use Rattle.std.proofs.Common.{◌≡◌, ℕ, zero, suc, ◌+◌, ◌<◌, ◌≤◌, true, false, ◌&&◌, eqb, List, [], ◌∷◌, ◌++◌, length, get_or, take, drop, Some, None, Option, sym, refl, ap, ◌∙◌, subst, append_assoc, suc-le-suc, zero-le, not-suc-le-zero, one-add, arith, lit<, length-append}
use mathlib.Core.List.Memᴰ
use Rattle.std.proofs.lemmas.List.{take_at}
use Rattle.std.proofs.lemmas.Bool.{and_parts, or_parts, eqb-true, eqb-false, false≢true, cond_both}
use Rattle.std.proofs.lemmas.Bool.Decides.{nat_tests}
use Rattle.text.specs.Bytes.{name_byte, mark}
use Rattle.token.specs.declared.Kind.TheVariants.{Character, Punctuator, Other}
use Rattle.lexer.specs.Cutting.{white, front, literal_length, literal, scan, Scan}
use Rattle.lexer.specs.Cutting.Scan.{token, unclosed}
use Rattle.lexer.specs.Punctuators.{punctuators, longest}
use Rattle.lexer.specs.Grammar.{Quoted, Spells}
use Rattle.lexer.specs.Grammar.Spells.{identifier, number, character, string, punctuator, other}
use Rattle.lexer.proofs.Lengths.{name_bound}
use Rattle.lexer.proofs.Names.{name_named}
use Rattle.lexer.proofs.Numerals.{number_front, number_fits, number_numeral}
use Rattle.lexer.proofs.Literals.{Closed, literal-closed}
use Rattle.lexer.proofs.Punctuators.{begins-take, begins-fits, begins_with, longest_reaches, longest-found}
use Rattle.lexer.proofs.Reaching.{literal_scan, literal_is}

-- the bytes begin with a mark, without or with an L in front
pub data Opened : List ℕ → Type 0 where
  narrow : {m : ℕ} {bs : List ℕ} → mark m ≡ true → Opened (m ∷ bs)
  wide : {m : ℕ} {bs : List ℕ} → mark m ≡ true → Opened (76 ∷ m ∷ bs)

abbrev pub Sound : List ℕ → Scan → Type 0
Sound w (token k n) = (0 < n) × (n ≤ length w) × Spells k (take n w)
Sound w unclosed = Opened w

closed-take : {m : ℕ} {bs : List ℕ} {k : ℕ} (c : Closed m bs k) → take k bs ≡ c.inner ++ m ∷ []
closed-take {m} {bs} {k} c =
    let l = length-append c.inner (m ∷ []) in
    let n = c.long in
    ap (take k) (c.split ∙ sym (append_assoc c.inner (m ∷ []) c.rest)) ∙ take_at (c.inner ++ m ∷ []) c.rest k (omega arith)

closed-fits : {m : ℕ} {bs : List ℕ} {k : ℕ} → Closed m bs k → k ≤ length bs
closed-fits {m} {bs} {k} c = let l = length-append c.inner (m ∷ c.rest) in let s = ap length c.split in let n = c.long in omega arith

some_inside : (cs w : List ℕ) → 0 < length cs → Quoted 39 cs w → Spells Character w
some_inside [] w h q = absurd (omega arith)
some_inside (c ∷ cs) w h q = character q

mark-string : (m : ℕ) → mark m ≡ true → eqb m 39 ≡ false → m ≡ 34
mark-string m h k = grind (arith, nat_tests)

-- a literal behind n bytes of w
module _ (w : List ℕ) (n m : ℕ) (bs : List ℕ) (some : 0 < n) (fits : n + length bs ≤ length w) (opened : Opened w) (is : mark m ≡ true) (quoted : (k : ℕ) (c : Closed m bs k) → Quoted m c.inner (take (n + k) w)) where
  literal_sound : Sound w (literal m n bs)
  literal_sound = subst (Sound w) (sym (literal_is m n bs)) (go (literal_length m false bs) refl)
    where
      go : (o : Option ℕ) → literal_length m false bs ≡ o → Sound w (literal_scan m n o)
      go None e = opened
      go (Some k) e =
          let c = literal-closed m bs k e in
          let q = quoted k c in
          let f = closed-fits c in
          let l = c.long in
          cond_both (eqb m 39) _ _ (Sound w)
          (λ a. cond_both (eqb k 1) unclosed (token Character (n + k)) (Sound w) (λ _. opened) (λ ne. let two = eqb-false k 1 ne in (omega arith, omega arith, some_inside c.inner _ (omega arith) (subst (λ (x : ℕ). Quoted x c.inner (take (n + k) w)) (eqb-true m 39 a) q))))
          (λ a. (omega arith, omega arith, string (subst (λ (x : ℕ). Quoted x c.inner (take (n + k) w)) (mark-string m is a) q)))

narrow-quoted : (m : ℕ) (bs : List ℕ) (k : ℕ) (c : Closed m bs k) → Quoted m c.inner (take (1 + k) (m ∷ bs))
narrow-quoted m bs k c = rw (one-add k, closed-take c) (Quoted.narrow c.inside)

wide-quoted : (m : ℕ) (bs : List ℕ) (k : ℕ) (c : Closed m bs k) → Quoted m c.inner (take (2 + k) (76 ∷ m ∷ bs))
wide-quoted m bs k c = let e : 2 + k ≡ suc (suc k) = omega arith in rw (e, closed-take c) (Quoted.wide c.inside)

wide_sound : (b : ℕ) (bs : List ℕ) → eqb b 76 ≡ true → front mark bs ≡ true → Sound (b ∷ bs) (literal (get_or bs 0 0) 2 (drop 1 bs))
wide_sound b [] e h = absurd (false≢true h)
wide_sound b (m ∷ bs) e h =
    subst (λ (x : ℕ). Sound (x ∷ m ∷ bs) (literal m 2 bs)) (sym (eqb-true b 76 e)) (literal_sound (76 ∷ m ∷ bs) 2 m bs (omega arith) (omega arith) (wide h) h (wide-quoted m bs))

-- the bytes that are no literal, number or name
module _ (b : ℕ) (bs : List ℕ) (no-white : white b ≡ false) (no-mark : mark b ≡ false) (no_name : name_byte b ≡ false) where
  punctuator_sound : (n : ℕ) → longest punctuators (b ∷ bs) ≡ n → Sound (b ∷ bs) (elim n [ zero ↦ token Other 1 | suc n ↦ token Punctuator (suc n) ])
  punctuator_sound zero e = (
    lit< tt,
    suc-le-suc zero-le,
    other no-white no-mark no_name (λ mem. not-suc-le-zero (subst (λ (x : ℕ). 1 ≤ x) e (longest_reaches (b ∷ bs) mem (begins_with (b ∷ []) bs)))),
  )
  punctuator_sound (suc n) e =
      let found = longest-found punctuators (b ∷ bs) n e in
      let l = found.long in (
        suc-le-suc zero-le,
        subst (λ (k : ℕ). k ≤ length (b ∷ bs)) l (begins-fits found.spelling (b ∷ bs) found.stands),
        punctuator (Memᴰ.cast (ap (λ (k : ℕ). take k (b ∷ bs)) (sym l) ∙ begins-take found.spelling (b ∷ bs) found.stands) found.listed),
      )

pub sound : (b : ℕ) (bs : List ℕ) → white b ≡ false → Sound (b ∷ bs) (scan (b ∷ bs))
sound b bs no-white =
    let whole = Sound (b ∷ bs) in
    let n = number_fits false bs in
    let l = name_bound bs in
    cond_both (mark b) _ _ whole (λ m. literal_sound (b ∷ bs) 1 b bs (omega arith) (omega arith) (narrow m) m (narrow-quoted b bs))
    (λ no-mark. cond_both (eqb b 76 && front mark bs) _ _ whole (λ w. let p = and_parts _ _ w in wide_sound b bs p.0 p.1)
    (λ no-wide. cond_both (number_front (b ∷ bs)) _ _ whole (λ o. (omega arith, omega arith, number (number_numeral b bs o)))
    (λ no_number. cond_both (name_byte b) _ _ whole (λ m. (omega arith, omega arith, identifier m (or_parts _ _ no_number).0 (name_named bs)))
    (λ no_name. punctuator_sound b bs no-white no-mark no_name (longest punctuators (b ∷ bs)) refl))))
