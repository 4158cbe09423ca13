-- What sets hold whose bits are joined. Assumes nothing.
use Rattle.std.proofs.Common.{◌≡◌, ℕ, ◌-◌, ◌^◌, ◌<◌, ◌≤◌, Bool, true, false, cond, ◌&&◌, ◌||◌, eqb, ltb, refl, ap, ◌∙◌, arith}
use mathlib.Core.Bool.{or_comm}
use lib.Bits.{bit_and, bit_or}
use Rattle.std.proofs.lemmas.Bool.Decides.{nat_tests}
use Rattle.item.specs.declared.hide_set.HideSet.{HideSet}
use Rattle.item.specs.Sets.{bit, in_set}
use Rattle.item.proofs.Bits.{bit-and, bit-or, bit_single_if}

cond_and : (b x y u v : Bool) → cond b (x && y) (u && v) ≡ (cond b x u && cond b y v)
cond_and true x y u v = refl
cond_and false x y u v = refl

cond_or : (b x y u v : Bool) → cond b (x || y) (u || v) ≡ (cond b x u || cond b y v)
cond_or true x y u v = refl
cond_or false x y u v = refl

-- the bits of both sets
pub in_both : (r a b : HideSet) → r.low ≡ bit_and a.low b.low → r.high ≡ bit_and a.high b.high → (k : ℕ) → in_set r k ≡ (in_set a k && in_set b k)
in_both r a b low high k =
    (λ i. cond (ltb k 128) ((ap (λ n. bit n k) low ∙ bit-and a.low b.low k) i) ((ap (λ n. bit n (k - 128)) high ∙ bit-and a.high b.high (k - 128)) i)) ∙ cond_and (ltb k 128) _ _ _ _

-- the bits of either set
pub in_either : (r a b : HideSet) → r.low ≡ bit_or a.low b.low → r.high ≡ bit_or a.high b.high → (k : ℕ) → in_set r k ≡ (in_set a k || in_set b k)
in_either r a b low high k =
    (λ i. cond (ltb k 128) ((ap (λ n. bit n k) low ∙ bit-or a.low b.low k) i) ((ap (λ n. bit n (k - 128)) high ∙ bit-or a.high b.high (k - 128)) i)) ∙ cond_or (ltb k 128) _ _ _ _

-- one bit more
bit_more : (m s k n one : ℕ) → n ≡ bit_or m one → one ≡ cond (ltb s 128) (2 ^ s) 0 → bit n k ≡ ((eqb k s && ltb s 128) || bit m k)
bit_more m s k n one e f =
    ap (λ x. bit x k) e ∙ bit-or m one k ∙ or_comm (bit m k) (bit one k) ∙ ap (λ b. b || bit m k) (ap (λ x. bit x k) f ∙ bit_single_if (ltb s 128) s k)

low_more : (k s : ℕ) (x y : Bool) → s < 128 → cond (ltb k 128) ((eqb k s && ltb s 128) || x) y ≡ ((eqb k s && ltb s 256) || cond (ltb k 128) x y)
low_more k s x y h = grind (arith, nat_tests)

high_more : (k s : ℕ) (x y : Bool) → 128 ≤ s → cond (ltb k 128) x ((eqb (k - 128) (s - 128) && ltb (s - 128) 128) || y) ≡ ((eqb k s && ltb s 256) || cond (ltb k 128) x y)
high_more k s x y h = grind (arith, nat_tests)

-- a set with one slot more, in its lower half and in its upper half
module _ (a : HideSet) (s n one : ℕ) where
  pub in_low_more : s < 128 → n ≡ bit_or a.low one → one ≡ cond (ltb s 128) (2 ^ s) 0 → (k : ℕ) → in_set (record { low = n; high = a.high }) k ≡ ((eqb k s && ltb s 256) || in_set a k)
  in_low_more h e f k =
      ap (λ b. cond (ltb k 128) b (bit a.high (k - 128))) (bit_more a.low s k n one e f) ∙ low_more k s (bit a.low k) (bit a.high (k - 128)) h

  pub in_high_more : 128 ≤ s → n ≡ bit_or a.high one → one ≡ cond (ltb (s - 128) 128) (2 ^ (s - 128)) 0 → (k : ℕ) → in_set (record { low = a.low; high = n }) k ≡ ((eqb k s && ltb s 256) || in_set a k)
  in_high_more h e f k =
      ap (λ b. cond (ltb k 128) (bit a.low k) b) (bit_more a.high (s - 128) (k - 128) n one e f) ∙ high_more k s (bit a.low k) (bit a.high (k - 128)) h
