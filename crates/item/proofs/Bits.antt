-- The bits of numbers. Assumes nothing.
use Rattle.std.proofs.Common.{◌≡◌, ℕ, ◌-◌, ◌*◌, ◌/◌, ◌%◌, ◌^◌, ◌<◌, ◌≤◌, min, max, Bool, true, false, cond, ◌&&◌, ◌||◌, eqb, sym, ap, ◌∙◌, ⊎_elim, le_refl, lt_of_lt_of_le, one-mul, arith, lit<, pow_mono}
use mathlib.Core.Bool.{and-true, and-false}
use native.Mathlib.Nat.{div-eq_of_lt}
use lib.Bits.{bit_and, bit_or, and_step, or_step}
use Rattle.std.proofs.lemmas.Nat.{and_shr, or_shr, pow-add, pow_below, shl-shr}
use Rattle.std.proofs.lemmas.Bool.{cases_order, eq-eqb, ne_eqb}
use Rattle.std.proofs.lemmas.Bool.Decides.{nat_tests}
use Rattle.item.specs.Sets.{bit}

lowest_and : (m n : ℕ) → eqb (bit_and m n % 2) 1 ≡ (eqb (m % 2) 1 && eqb (n % 2) 1)
lowest_and m n =
    let low : bit_and m n % 2 ≡ min (m % 2) (n % 2) = omega (arith, and_step m n) in
    ap (λ x. eqb x 1) low ∙ grind (arith, nat_tests)

lowest_or : (m n : ℕ) → eqb (bit_or m n % 2) 1 ≡ (eqb (m % 2) 1 || eqb (n % 2) 1)
lowest_or m n =
    let low : bit_or m n % 2 ≡ max (m % 2) (n % 2) = omega (arith, or_step m n) in
    ap (λ x. eqb x 1) low ∙ grind (arith, nat_tests)

pub bit-and : (m n k : ℕ) → bit (bit_and m n) k ≡ (bit m k && bit n k)
bit-and m n k = ap (λ x. eqb (x % 2) 1) (and_shr m n k) ∙ lowest_and (m / 2 ^ k) (n / 2 ^ k)

pub bit-or : (m n k : ℕ) → bit (bit_or m n) k ≡ (bit m k || bit n k)
bit-or m n k = ap (λ x. eqb (x % 2) 1) (or_shr m n k) ∙ lowest_or (m / 2 ^ k) (n / 2 ^ k)

-- a number has no bit from its width on
pub bit_past : (n w k : ℕ) → n < 2 ^ w → w ≤ k → bit n k ≡ false
bit_past n w k h le =
    let small : n < 2 ^ k = lt_of_lt_of_le h (pow_mono le) in ap (λ x. eqb (x % 2) 1) (div-eq_of_lt small)

-- the number with one bit
below_single : (s k : ℕ) → k < s → bit (2 ^ s) k ≡ false
below_single s k h =
    let split : 2 ^ s ≡ 2 ^ (s - k) * 2 ^ k = ap (λ n. 2 ^ n) (omega arith) ∙ pow-add 2 (s - k) k in
    let even : 2 ^ (s - k) ≡ 2 ^ (s - k - 1) * 2 = ap (λ n. 2 ^ n) (omega arith) ∙ pow-add 2 (s - k - 1) 1 in
    ap (λ x. eqb (x % 2) 1) (ap (λ x. x / 2 ^ k) split ∙ shl-shr (2 ^ (s - k)) k) ∙ ne_eqb _ _ (λ e. omega arith)

at_single : (s : ℕ) → bit (2 ^ s) s ≡ true
at_single s = ap (λ x. eqb (x % 2) 1) (ap (λ x. x / 2 ^ s) (sym (one-mul (2 ^ s))) ∙ shl-shr 1 s)

pub bit_single : (s k : ℕ) → bit (2 ^ s) k ≡ eqb k s
bit_single s k =
    ⊎_elim (λ e. ap (bit (2 ^ s)) e ∙ at_single s ∙ sym (eq-eqb k s e)) (⊎_elim (λ lt. below_single s k lt ∙ sym (ne_eqb k s (λ e. omega arith))) (λ gt. bit_past (2 ^ s) k k (pow_below s k gt) (le_refl k) ∙ sym (ne_eqb k s (λ e. omega arith)))) (cases_order k s)

-- the number with one bit, or none
pub bit_single_if : (b : Bool) (s k : ℕ) → bit (cond b (2 ^ s) 0) k ≡ (eqb k s && b)
bit_single_if true s k = bit_single s k ∙ sym (and-true (eqb k s))
bit_single_if false s k = bit_past 0 0 k (lit< tt) (omega arith) ∙ sym (and-false (eqb k s))
