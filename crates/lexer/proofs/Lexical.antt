-- Every line is cut by the grammar, and in one way. Assumes nothing.
use Rattle.std.proofs.Common.{◌≡◌, ℕ, zero, suc, ◌<◌, ◌≤◌, Bool, true, false, leb, List, [], ◌∷◌, ◌++◌, map, length, take, drop, Err, sym, refl, ap, ◌∙◌, subst, subst₂, not-suc-le-zero, arith, length-drop, take-append-drop}
use mathlib.Core.List.{map-append}
use lib.ListN.{length-map}
use Rattle.std.proofs.lemmas.List.{take-map, length-take-le}
use Rattle.std.proofs.lemmas.Bool.{leb-true, leb-false}
use Rattle.text.specs.Placing.{byte_of}
use Rattle.text.specs.declared.Placed.{Placed}
use Rattle.text.specs.declared.FaultKind.TheVariants.{OpenLiteral, LongToken}
use Rattle.token.specs.declared.Kind.{Kind}
use Rattle.lexer.specs.Cutting.{white, scan, Scan, before, cut}
use Rattle.lexer.specs.Cutting.Scan.{token, unclosed}
use Rattle.lexer.specs.Grammar.{Spells, Unclosed, Longest, Cuts, Lexical}
use Rattle.lexer.specs.Grammar.Cuts.{end, space, word, long, open_literal}
use Rattle.lexer.proofs.Only.{only}
use Rattle.lexer.proofs.Sound.{Sound, sound}
use Rattle.lexer.proofs.Unclosed.{reaches_front, literal-unclosed, not_unclosed}

no_longer : (w : List ℕ) (k : Kind) (n : ℕ) → scan w ≡ token k n → 0 < n → (j : Kind) (m : ℕ) → n < m → m ≤ length w → Spells j (take m w) → ⊥
no_longer w k n e some j m h fits spells = let l = length-take-le m w fits in let far = reaches_front j m w (token k n) e spells (omega arith) in omega arith

module _ (g : ℕ) (m : Bool) (p : Placed) (ps : List Placed) (below : (m : Bool) (ps : List Placed) → length ps ≤ g → Cuts m ps (cut g m ps)) (h : length (p ∷ ps) ≤ suc g) (no-white : white p.byte ≡ false) where
  one_token_lem : (s : Scan) → scan (map byte_of (p ∷ ps)) ≡ s → Sound (map byte_of (p ∷ ps)) s
      → Cuts m (p ∷ ps) (elim s [
        | unclosed ↦ Err (record { kind = OpenLiteral; line = p.line })
        | token k n ↦
            elim (leb n 1023) [
              | true ↦ before (record { kind = k; spelling = take n (map byte_of (p ∷ ps)); line = p.line; marked = m }) (cut g false (drop n (p ∷ ps)))
              | false ↦ Err (record { kind = LongToken; line = p.line })
            ]
      ])
  one_token_lem unclosed e o = open_literal (literal-unclosed o e)
  one_token_lem (token k zero) e s = absurd (not-suc-le-zero s.0)
  one_token_lem (token k (suc j)) e s = go (leb (suc j) 1023) refl
    where
      size : length (take j ps) ≡ j
      size = let fits = s.1 in let l = length-map ps byte_of in length-take-le j ps (omega arith)

      front_of : (p ∷ take j ps) ++ drop j ps ≡ p ∷ ps
      front_of = ap (λ (l : List Placed). p ∷ l) (take-append-drop j ps)

      spelt : map byte_of (p ∷ take j ps) ≡ take (suc j) (map byte_of (p ∷ ps))
      spelt = ap (λ (l : List ℕ). p.byte ∷ l) (sym (take-map byte_of j ps))

      spells : Spells k (map byte_of (p ∷ take j ps))
      spells = subst (Spells k) (sym spelt) s.2

      both : map byte_of (p ∷ take j ps) ++ map byte_of (drop j ps) ≡ map byte_of (p ∷ ps)
      both = sym (map-append byte_of (p ∷ take j ps) (drop j ps)) ∙ ap (map byte_of) front_of

      farthest : Longest (map byte_of (p ∷ take j ps)) (map byte_of (drop j ps))
      farthest i n more fits front =
          no_longer (map byte_of (p ∷ ps)) k (suc j) e s.0 i n
          (let l = length-map (take j ps) byte_of in let z = size in omega arith)
          (subst (λ (w : List ℕ). n ≤ length w) both fits)
          (subst (λ (w : List ℕ). Spells i (take n w)) both front)

      whole : Unclosed (map byte_of ((p ∷ take j ps) ++ drop j ps)) → ⊥
      whole u = not_unclosed k (suc j) (subst (λ (l : List Placed). Unclosed (map byte_of l)) front_of u) e s.2

      go : (t : Bool) → leb (suc j) 1023 ≡ t
          → Cuts m (p ∷ ps) (elim t [
            | true ↦ before (record { kind = k; spelling = take (suc j) (map byte_of (p ∷ ps)); line = p.line; marked = m }) (cut g false (drop j ps))
            | false ↦ Err (record { kind = LongToken; line = p.line })
          ])
      go true few =
          let z = size in
          let l = leb-true (suc j) 1023 few in
          let d = length-drop j ps in
          subst₂ (λ (l : List Placed) (w : List ℕ). Cuts m l (before (record { kind = k; spelling = w; line = p.line; marked = m }) (cut g false (drop j ps)))) front_of spelt
          (word p (take j ps) (drop j ps) no-white spells farthest whole (omega arith) (below false (drop j ps) (omega arith)))
      go false many =
          let z = size in
          let l = leb-false (suc j) 1023 many in
          subst (λ (l : List Placed). Cuts m l (Err (record { kind = LongToken; line = p.line }))) front_of (long p (take j ps) (drop j ps) no-white spells farthest whole (omega arith))

cutting : (g : ℕ) (m : Bool) (ps : List Placed) → length ps ≤ g → Cuts m ps (cut g m ps)
cutting zero m [] h = end
cutting zero m (p ∷ ps) h = absurd (omega arith)
cutting (suc g) m [] h = end
cutting (suc g) m (p ∷ ps) h = go (white p.byte) refl (cutting g)
  where
    go : (t : Bool) → white p.byte ≡ t → ((m : Bool) (ps : List Placed) → length ps ≤ g → Cuts m ps (cut g m ps)) → Cuts m (p ∷ ps) (cut (suc g) m (p ∷ ps))
    go true e below = rw (e, cut) (space e (below true ps (omega arith)))
    go false e below = rw (e, cut) (one_token_lem g m p ps below h e (scan (map byte_of (p ∷ ps))) refl (sound p.byte (map byte_of ps) e))

pub lexical : Lexical
lexical = record { cuts = λ ps. cutting (length ps) true ps (omega arith); only = λ ps r. only }
