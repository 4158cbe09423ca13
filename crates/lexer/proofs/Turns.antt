-- One step of cutting a line, and that the bound on the steps does not matter. Assumes nothing.
use Rattle.std.proofs.Common.{◌≡◌, ℕ, zero, suc, ◌<◌, ◌≤◌, Bool, true, false, cond, leb, List, [], ◌∷◌, map, length, take, drop, Ok, Err, Result, sym, refl, ap, ◌∙◌, subst, arith, length-drop}
use Rattle.text.specs.Placing.{byte_of}
use Rattle.text.specs.declared.Placed.{Placed}
use Rattle.text.specs.declared.Fault.{Fault}
use Rattle.text.specs.declared.FaultKind.TheVariants.{OpenLiteral, LongToken}
use Rattle.token.specs.declared.Kind.{Kind}
use Rattle.lexer.specs.Cutting.{Scan, token, unclosed, white, scan, before, cut}
use Rattle.lexer.specs.Scanning.{measured}
use Rattle.token.specs.Tokens.{Token}
use Rattle.lexer.proofs.Bounds.{Fits, scan-fits}

abbrev Answer : Type 0
Answer = Result (List Token) Fault

abbrev open_literal : ℕ → Answer
open_literal line = Err (record { kind = OpenLiteral; line = line })

abbrev limited : Bool → ℕ → Answer → Answer
limited t line a = elim t [ true ↦ a | false ↦ Err (record { kind = LongToken; line = line }) ]

-- what a step answers: after for white space, next for a token, and the faults
abbrev turn : Bool → Scan → ℕ → Answer → (Kind → ℕ → Answer) → Answer
turn w s line after next =
    elim w [ true ↦ after | false ↦ elim s [ unclosed ↦ open_literal line | token k n ↦ limited (leb n 1023) line (next k n) ] ]

turn_same : (w : Bool) (s : Scan) (line : ℕ) (a b : Answer) (f g : Kind → ℕ → Answer) → a ≡ b → ((k : Kind) (n : ℕ) → s ≡ token k n → f k n ≡ g k n) → turn w s line a f ≡ turn w s line b g
turn_same true s line a b f g e h = e
turn_same false unclosed line a b f g e h = refl
turn_same false (token k n) line a b f g e h = ap (limited (leb n 1023) line) (h k n refl)

limited_fault : (t : Bool) (line : ℕ) (a : Answer) (x : Kind × ℕ) (d : Fault) → cond t (Ok x) (Err (record { kind = LongToken; line = line })) ≡ Err d → limited t line a ≡ Err d
limited_fault true line a x d e = absurd (let z : ◌≡◌ {A = ℕ} 0 1 = cc in omega arith)
limited_fault false line a x d e = ap Err (cc)

turn_fault : (s : Scan) (line : ℕ) (a : Answer) (f : Kind → ℕ → Answer) (d : Fault) → measured s line ≡ Err d → turn false s line a f ≡ Err d
turn_fault unclosed line a f d e = ap Err (cc)
turn_fault (token k n) line a f d e = limited_fault (leb n 1023) line (f k n) (k, n) d e

-- what a token that was measured is
pub record Measured (s : Scan) (k : Kind) (n : ℕ) : Type 0 where
  pub is : s ≡ token k n
  pub short : leb n 1023 ≡ true

limited_ok : (t : Bool) (x y : Kind × ℕ) (d : Fault) → cond t (Ok x) (Err d) ≡ Ok y → (t ≡ true) × (x ≡ y)
limited_ok true x y d e = (refl, cc)
limited_ok false x y d e = absurd (let z : ◌≡◌ {A = ℕ} 0 1 = cc in omega arith)

pub measured_ok : (s : Scan) (line : ℕ) (k : Kind) (n : ℕ) → measured s line ≡ Ok (k, n) → Measured s k n
measured_ok unclosed line k n e = absurd (let z : ◌≡◌ {A = ℕ} 0 1 = cc in omega arith)
measured_ok (token j m) line k n e =
    let p = limited_ok (leb m 1023) (j, m) (k, n) (record { kind = LongToken; line = line }) e in
    record { is = (λ i. token (p.1 i).0 (p.1 i).1); short = ap (λ x. leb x 1023) (λ i. (sym p.1 i).1) ∙ p.0 }

turn_token : (s : Scan) (line : ℕ) (a : Answer) (f : Kind → ℕ → Answer) (k : Kind) (n : ℕ) → Measured s k n → turn false s line a f ≡ f k n
turn_token s line a f k n m = ap (λ s. turn false s line a f) m.is ∙ ap (λ t. limited t line (f k n)) m.short

-- the token of a kind and a length at the front of placed bytes
abbrev pub placed_token : Bool → List ℕ → ℕ → Kind → ℕ → Token
placed_token m bs line k n = record { kind = k; spelling = take n bs; line = line; marked = m }

-- the bound does not matter once it is at least the length
cut-enough : (g h : ℕ) (m : Bool) (ps : List Placed) → length ps ≤ g → length ps ≤ h → cut g m ps ≡ cut h m ps
cut-enough zero zero m ps a b = refl
cut-enough zero (suc h) m [] a b = refl
cut-enough zero (suc h) m (p ∷ ps) a b = absurd (omega arith)
cut-enough (suc g) zero m [] a b = refl
cut-enough (suc g) zero m (p ∷ ps) a b = absurd (omega arith)
cut-enough (suc g) (suc h) m [] a b = refl
cut-enough (suc g) (suc h) m (p ∷ ps) a b =
    let bytes = map byte_of (p ∷ ps) in
    turn_same (white p.byte) (scan bytes) p.line _ _ (λ k n. before (placed_token m bytes p.line k n) (cut g false (drop n (p ∷ ps)))) (λ k n. before (placed_token m bytes p.line k n) (cut h false (drop n (p ∷ ps)))) (cut-enough g h true ps (omega arith) (omega arith))
    (λ k n e.
    let some : (0 < n) × (n ≤ length bytes) = subst (Fits (length bytes)) e (scan-fits bytes (omega arith)) in
    let left = length-drop n (p ∷ ps) in
    ap (before (placed_token m bytes p.line k n)) (cut-enough g h false (drop n (p ∷ ps)) (omega arith) (omega arith)))

-- the tokens of what is left of a line
abbrev pub from : Bool → List Placed → Answer
from m ps = cut (length ps) m ps

pub from_white : (m : Bool) (p : Placed) (ps : List Placed) → white p.byte ≡ true → from m (p ∷ ps) ≡ from true ps
from_white m p ps w =
    let bytes = map byte_of (p ∷ ps) in
    ap (λ t. turn t (scan bytes) p.line (from true ps) (λ k n. before (placed_token m bytes p.line k n) (cut (length ps) false (drop n (p ∷ ps))))) w

pub from_fault : (m : Bool) (p : Placed) (ps : List Placed) (d : Fault) → white p.byte ≡ false → measured (scan (map byte_of (p ∷ ps))) p.line ≡ Err d → from m (p ∷ ps) ≡ Err d
from_fault m p ps d w e =
    let bytes = map byte_of (p ∷ ps) in
    let next : Kind → ℕ → Answer = λ k n. before (placed_token m bytes p.line k n) (cut (length ps) false (drop n (p ∷ ps))) in
    ap (λ t. turn t (scan bytes) p.line (from true ps) next) w ∙ turn_fault (scan bytes) p.line (from true ps) next d e

pub from_token : (m : Bool) (p : Placed) (ps : List Placed) (k : Kind) (n : ℕ) → white p.byte ≡ false → Measured (scan (map byte_of (p ∷ ps))) k n → 0 < n → from m (p ∷ ps) ≡ before (placed_token m (map byte_of (p ∷ ps)) p.line k n) (from false (drop n (p ∷ ps)))
from_token m p ps k n w e some =
    let bytes = map byte_of (p ∷ ps) in
    let next : Kind → ℕ → Answer = λ k n. before (placed_token m bytes p.line k n) (cut (length ps) false (drop n (p ∷ ps))) in
    let left = length-drop n (p ∷ ps) in
    ap (λ t. turn t (scan bytes) p.line (from true ps) next) w ∙ turn_token (scan bytes) p.line (from true ps) next k n e ∙ ap (before (placed_token m bytes p.line k n)) (cut-enough (length ps) (length (drop n (p ∷ ps))) false (drop n (p ∷ ps)) (omega arith) (omega arith))
