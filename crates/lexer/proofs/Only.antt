-- The grammar cuts a line in no way but the one that is defined. Assumes nothing.
use Rattle.std.proofs.Common.{◌≡◌, ℕ, ◌<◌, ◌≤◌, Bool, false, leb, ◌⊎◌, List, [], ◌∷◌, ◌++◌, map, length, take, Result, sym, refl, ap, ◌∙◌, subst, inl, inr, arith}
use mathlib.Core.List.{map-append}
use lib.ListN.{length-map}
use Rattle.std.proofs.lemmas.List.{take_at, drop_at}
use Rattle.std.proofs.lemmas.Bool.{cases_lt, cases_eq, cond-false, le-leb, lt-leb}
use Rattle.text.specs.Placing.{byte_of}
use Rattle.text.specs.declared.Placed.{Placed}
use Rattle.text.specs.declared.Fault.{Fault}
use Rattle.token.specs.declared.Kind.{Kind}
use Rattle.token.specs.Tokens.{Token}
use Rattle.lexer.specs.Cutting.{white, scan, Scan, before}
use Rattle.lexer.specs.Cutting.Scan.{token, unclosed}
use Rattle.lexer.specs.Scanning.{measured}
use Rattle.lexer.specs.Grammar.{Spells, Unclosed, Longest, Cuts}
use Rattle.lexer.specs.Grammar.Cuts.{end, space, word, long, open_literal}
use Rattle.lexer.proofs.Reaching.{Reaches, reaching}
use Rattle.lexer.proofs.Sound.{Sound, sound}
use Rattle.lexer.proofs.Turns.{from, from_white, from_fault, from_token}
use Rattle.lexer.proofs.Unclosed.{literal-unclosed, unclosed-white, unclosed-scan}

-- what spells a token is of one kind
one-kind : {j k : Kind} {w : List ℕ} → Spells j w → Spells k w → j ≡ k
one-kind {j} {k} {w} a b = same (scan (w ++ [])) (reaching a [] (λ _. refl)) (reaching b [] (λ _. refl))
  where
    same : (s : Scan) → Reaches j (length w) s → Reaches k (length w) s → j ≡ k
    same (token i n) p q = sym p.0 ∙ q.0
    same unclosed p q = absurd p

module _ (p : Placed) (ps rest : List Placed) where
  both : map byte_of ((p ∷ ps) ++ rest) ≡ map byte_of (p ∷ ps) ++ map byte_of rest
  both = map-append byte_of (p ∷ ps) rest

  taken : (n : ℕ) → n ≡ length (p ∷ ps) → take n (map byte_of ((p ∷ ps) ++ rest)) ≡ map byte_of (p ∷ ps)
  taken n e = ap (take n) both ∙ take_at (map byte_of (p ∷ ps)) (map byte_of rest) n (length-map (p ∷ ps) byte_of ∙ sym e)

-- the scan takes just the spelling that the grammar lets stand
module _ (k : Kind) (p : Placed) (ps rest : List Placed) (no-white : white p.byte ≡ false) (spells : Spells k (map byte_of (p ∷ ps))) (farthest : Longest (map byte_of (p ∷ ps)) (map byte_of rest)) (closed : Unclosed (map byte_of ((p ∷ ps) ++ rest)) → ⊥) where
  scan_is : scan (map byte_of ((p ∷ ps) ++ rest)) ≡ token k (length (p ∷ ps))
  scan_is = go (scan (map byte_of ((p ∷ ps) ++ rest))) refl (sound p.byte (map byte_of (ps ++ rest)) no-white)
    where
      size : length (map byte_of (p ∷ ps)) ≡ length (p ∷ ps)
      size = length-map (p ∷ ps) byte_of

      at_least : (j : Kind) (n : ℕ) → scan (map byte_of ((p ∷ ps) ++ rest)) ≡ token j n → 0 < n → (length (p ∷ ps) ≡ 1) ⊎ (length (p ∷ ps) ≡ 1 → ⊥) → length (p ∷ ps) ≤ n
      at_least j n e some (inl one) = omega arith
      at_least j n e some (inr more) =
          let z = size in
          let far = subst (Reaches k (length (map byte_of (p ∷ ps)))) (ap scan (sym (both p ps rest)) ∙ e) (reaching spells (map byte_of rest) (λ one. absurd (omega arith))) in
          omega arith

      at_most : (j : Kind) (n : ℕ) → Sound (map byte_of ((p ∷ ps) ++ rest)) (token j n) → (length (p ∷ ps) < n) ⊎ (n ≤ length (p ∷ ps)) → n ≤ length (p ∷ ps)
      at_most j n s (inl more) =
          let z = size in
          absurd (farthest j n (omega arith) (subst (λ (w : List ℕ). n ≤ length w) (both p ps rest) s.1) (subst (λ (w : List ℕ). Spells j (take n w)) (both p ps rest) s.2))
      at_most j n s (inr fits) = fits

      go : (s : Scan) → scan (map byte_of ((p ∷ ps) ++ rest)) ≡ s → Sound (map byte_of ((p ∷ ps) ++ rest)) s → scan (map byte_of ((p ∷ ps) ++ rest)) ≡ token k (length (p ∷ ps))
      go unclosed e o = absurd (closed (literal-unclosed o e))
      go (token j n) e s =
          let low = at_least j n e s.0 (cases_eq (length (p ∷ ps)) 1) in
          let high = at_most j n s (cases_lt (length (p ∷ ps)) n) in
          let same : n ≡ length (p ∷ ps) = omega arith in
          let kind : j ≡ k = one-kind (subst (Spells j) (taken p ps rest n same) s.2) spells in
          e ∙ (λ i. token (kind i) (same i))

pub only : {m : Bool} {ps : List Placed} {r : Result (List Token) Fault} → Cuts m ps r → r ≡ from m ps
only end = refl
only (space {m} {p} {ps} w c) = only c ∙ sym (from_white m p ps w)
only (word {m} {k} p ps rest w spells farthest closed few c) =
    let n = length (p ∷ ps) in
    let is = scan_is k p ps rest w spells farthest closed in
    let spelling = sym (taken p ps rest n refl) in
    let left = only c ∙ ap (from false) (sym (drop_at (p ∷ ps) rest n refl)) in
    (λ i. before (record { kind = k; spelling = spelling i; line = p.line; marked = m }) (left i)) ∙ sym (from_token m p (ps ++ rest) k n w (record { is = is; short = le-leb n 1023 few }) (omega arith))
only (long {m} {k} p ps rest w spells farthest closed many) =
    let n = length (p ∷ ps) in
    let is = scan_is k p ps rest w spells farthest closed in
    sym (from_fault m p (ps ++ rest) _ w (ap (λ (s : Scan). measured s p.line) is ∙ cond-false (leb n 1023) _ _ (lt-leb n 1023 many)))
only (open_literal {m} {p} {ps} u) = sym (from_fault m p ps _ (unclosed-white u) (ap (λ (s : Scan). measured s p.line) (unclosed-scan u)))
