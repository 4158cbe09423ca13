-- How far a line is cut: the tokens so far, and what is left of the line. Assumes nothing.
use Rattle.std.proofs.Common.{◌≡◌, ℕ, zero, suc, ◌+◌, ◌-◌, ◌<◌, ◌≤◌, Bool, true, false, List, [], ◌∷◌, ◌++◌, map, length, get_or, take, drop, Ok, Err, Result, sym, refl, ap, ◌∙◌, subst, arith, length-drop}
use Rattle.std.proofs.lemmas.List.{drop_all, drop-drop, drop_more, length_push, length-take-le, take_rest}
use Rattle.text.specs.Placing.{placed, byte_of, line_of}
use Rattle.text.specs.declared.Placed.{Placed}
use Rattle.text.specs.declared.Fault.{Fault}
use Rattle.token.specs.declared.Kind.{Kind}
use Rattle.lexer.specs.Cutting.{white, scan, before, cut_line}
use Rattle.lexer.specs.Scanning.{measured}
use Rattle.token.specs.Tokens.{Token}
use Rattle.token.specs.Views.{spelled}
use Rattle.lexer.proofs.Bounds.{Fits, scan-fits}
use Rattle.lexer.proofs.Turns.{Measured, measured_ok, placed_token, from, from_white, from_fault, from_token}

-- bytes beside their lines

pub bytes-placed : (bs ls : List ℕ) → length ls ≡ length bs → map byte_of (placed bs ls) ≡ bs
bytes-placed [] ls e = refl
bytes-placed (b ∷ bs) [] e = absurd (omega arith)
bytes-placed (b ∷ bs) (l ∷ ls) e = ap (λ xs. b ∷ xs) (bytes-placed bs ls (omega arith))

pub placed_parts : (ps : List Placed) → placed (map byte_of ps) (map line_of ps) ≡ ps
placed_parts [] = refl
placed_parts (p ∷ ps) = ap (λ qs. p ∷ qs) (placed_parts ps)

drop-placed : (n : ℕ) (bs ls : List ℕ) → length ls ≡ length bs → drop n (placed bs ls) ≡ placed (drop n bs) (drop n ls)
drop-placed zero bs ls e = refl
drop-placed (suc n) [] [] e = refl
drop-placed (suc n) [] (l ∷ ls) e = absurd (omega arith)
drop-placed (suc n) (b ∷ bs) [] e = absurd (omega arith)
drop-placed (suc n) (b ∷ bs) (l ∷ ls) e = drop-placed n bs ls (omega arith)

-- what was measured of `&bytes[at..]`
pub measured-rest : (bs : List ℕ) (at line : ℕ) (r : Result (Kind × ℕ) Fault) → r ≡ measured (scan (take (length bs - at) (drop at bs))) line → measured (scan (drop at bs)) line ≡ r
measured-rest bs at line r e = sym (e ∙ ap (λ xs. measured (scan xs) line) (take_rest bs at))

-- tokens in front of an answer

abbrev behind : List Token → Result (List Token) Fault → Result (List Token) Fault
behind [] r = r
behind (t ∷ ts) r = before t (behind ts r)

behind-push : (ts : List Token) (t : Token) (r : Result (List Token) Fault) → behind ts (before t r) ≡ behind (ts ++ t ∷ []) r
behind-push [] t r = refl
behind-push (u ∷ ts) t r = ap (before u) (behind-push ts t r)

behind_none : (ts : List Token) → behind ts (Ok []) ≡ Ok ts
behind_none [] = refl
behind_none (t ∷ ts) = ap (before t) (behind_none ts)

behind_fault : (ts : List Token) (f : Fault) → behind ts (Err f) ≡ Err f
behind_fault [] f = refl
behind_fault (t ∷ ts) f = ap (before t) (behind_fault ts f)

spelled-push : (ts : List Token) (t : Token) → spelled (ts ++ t ∷ []) ≡ spelled ts + length t.spelling
spelled-push [] t = omega arith
spelled-push (u ∷ ts) t = omega (arith, spelled-push ts t)

-- the first `at` bytes of a line are cut into ts
pub record Sofar (bs ls : List ℕ) (at : ℕ) (marked : Bool) (ts : List Token) : Type 0 where
  pub within : at ≤ length bs
  pub left : cut_line (placed bs ls) ≡ behind ts (from marked (placed (drop at bs) (drop at ls)))
  pub few : length ts ≤ at
  pub short : spelled ts ≤ at

pub at_start : (bs ls : List ℕ) → Sofar bs ls 0 true []
at_start bs ls = record { within = omega arith; left = refl; few = omega arith; short = omega arith }

module _ (bs ls : List ℕ) (beside : length ls ≡ length bs) (at : ℕ) (m : Bool) (ts : List Token) (h : Sofar bs ls at m ts) where
  pub at_end_lem : length bs ≤ at → cut_line (placed bs ls) ≡ Ok ts
  at_end_lem e =
      h.left ∙ ap (λ xs. behind ts (from m (placed xs (drop at ls)))) (drop_all at bs e) ∙ behind_none ts

  module _ (more : at < length bs) where
    abbrev first : Placed
    first = record { byte = get_or bs at 0; line = get_or ls at 0 }

    abbrev others : List Placed
    others = placed (drop (at + 1) bs) (drop (at + 1) ls)

    -- what is left begins with the byte at `at`
    begins_at : placed (drop at bs) (drop at ls) ≡ first ∷ others
    begins_at = λ i. placed (drop_more bs at 0 more i) (drop_more ls at 0 (omega arith) i)

    beside_left : length (drop at ls) ≡ length (drop at bs)
    beside_left = omega (arith, length-drop at ls, length-drop at bs)

    bytes_left : map byte_of (first ∷ others) ≡ drop at bs
    bytes_left = ap (map byte_of) (sym begins_at) ∙ bytes-placed (drop at bs) (drop at ls) beside_left

    pub after-white : white (get_or bs at 0) ≡ true → Sofar bs ls (at + 1) true ts
    after-white w =
        record {
          within = omega arith;
          left = h.left ∙ ap (λ ps. behind ts (from m ps)) begins_at ∙ ap (behind ts) (from_white m first others w);
          few = omega (arith, h.few);
          short = omega (arith, h.short);
        }

    module _ (w : white (get_or bs at 0) ≡ false) where
      pub at_fault : (f : Fault) → measured (scan (drop at bs)) (get_or ls at 0) ≡ Err f → cut_line (placed bs ls) ≡ Err f
      at_fault f e =
          h.left ∙ ap (λ ps. behind ts (from m ps)) begins_at ∙ ap (behind ts) (from_fault m first others f w (ap (λ xs. measured (scan xs) (get_or ls at 0)) bytes_left ∙ e)) ∙ behind_fault ts f

      module _ (k : Kind) (n : ℕ) (e : measured (scan (drop at bs)) (get_or ls at 0) ≡ Ok (k, n)) where
        is_token : Measured (scan (drop at bs)) k n
        is_token = measured_ok (scan (drop at bs)) (get_or ls at 0) k n e

        pub bounds : (0 < n) × (at + n ≤ length bs)
        bounds =
            let left = length-drop at bs in
            let fits : (0 < n) × (n ≤ length (drop at bs)) = subst (Fits (length (drop at bs))) is_token.is (scan-fits (drop at bs) (omega arith)) in
            (fits.0, omega arith)

        pub after-token : (t : Token) → t ≡ placed_token m (drop at bs) (get_or ls at 0) k n → Sofar bs ls (at + n) false (ts ++ t ∷ [])
        after-token t same =
            let fits = bounds in
            let fewer = length_push ts t in
            let longer = spelled-push ts t in
            let size = ap (λ u. length u.spelling) same ∙ length-take-le n (drop at bs) (omega (arith, length-drop at bs)) in
            let is = subst (λ xs. Measured (scan xs) k n) (sym bytes_left) is_token in
            let token_is = ap (λ xs. placed_token m xs (get_or ls at 0) k n) bytes_left ∙ sym same in
            let rest_is = ap (drop n) (sym begins_at) ∙ drop-placed n (drop at bs) (drop at ls) beside_left ∙ (λ i. placed (drop-drop n at bs i) (drop-drop n at ls i)) in
            record {
              within = fits.1;
              left = h.left ∙ ap (λ ps. behind ts (from m ps)) begins_at ∙ ap (behind ts) (from_token m first others k n w is fits.0) ∙ (λ i. behind ts (before (token_is i) (from false (rest_is i)))) ∙ behind-push ts t _;
              few = omega (arith, h.few);
              short = omega (arith, h.short);
            }
