-- One answer of a text at a position. Assumes nothing.
use Rattle.std.proofs.Common.{◌≡◌, ℕ, zero, suc, ◌+◌, List, [], ◌∷◌, drop, Ok, Err, Result, refl, sym, ap, ◌∙◌, add-one}
use Rattle.shelf.specs.Files.{at}
use Rattle.shelf.specs.declared.Ending as shelf
use Rattle.text.specs.declared.Placed.{Placed}
use Rattle.source.specs.declared.Ending.{Ending}
use Rattle.source.specs.declared.position.Position.{Position}
use Rattle.source.specs.Stream.{Stream, ends, head, tail, put}
use Rattle.source.specs.Texts.{closing, line_behind, placing, text, text_from, Reads}

-- what is left at a byte or an ending, with the bytes behind it
abbrev left : ℕ → ℕ → List ℕ → shelf.Ending → Result ℕ shelf.Ending → Stream
left n line bs e (Ok b) = put (placing n line b) (text (n + 1) (line_behind b line) bs e)
left n line bs e (Err x) = ends (closing x line)

left_at : (n line k : ℕ) (bs : List ℕ) (e : shelf.Ending) → text n line (drop k bs) e ≡ left n line (drop (suc k) bs) e (at bs e k)
left_at n line zero [] e = refl
left_at n line (suc k) [] e = refl
left_at n line zero (b ∷ bs) e = refl
left_at n line (suc k) (b ∷ bs) e = left_at n line k bs e

module _ (p : Position) where
  read : (i : Result ℕ shelf.Ending) (bs : List ℕ) (e : shelf.Ending) → at bs e p.offset ≡ i → text_from p bs e ≡ left p.offset p.line (drop (p.offset + 1) bs) e i
  read i bs e h =
      left_at p.offset p.line p.offset bs e ∙ ap (λ k. left p.offset p.line (drop k bs) e (at bs e p.offset)) (sym (add-one p.offset)) ∙ ap (left p.offset p.line (drop (p.offset + 1) bs) e) h

  module _ (i : Result ℕ shelf.Ending) where
    pub at_end : (x : shelf.Ending) (r : Result Placed Ending) → i ≡ Err x → r ≡ Err (closing x p.line) → Reads p i r p
    at_end x r end is bs e h = let t = read (Err x) bs e (h ∙ end) in rw (t, is) (refl, refl)

    pub at_fault : (b : ℕ) (f : Ending) (r : Result Placed Ending) → i ≡ Ok b → Err f ≡ placing p.offset p.line b → r ≡ Err f → Reads p i r p
    at_fault b f r byte fault is bs e h = let t = read (Ok b) bs e (h ∙ byte) in rw (t, sym fault, is) (refl, refl)

    pub at_byte : (b n line : ℕ) (placed : Placed) → i ≡ Ok b → Ok placed ≡ placing p.offset p.line b → n ≡ p.offset + 1 → line ≡ line_behind b p.line → (bs : List ℕ) (e : shelf.Ending) → at bs e p.offset ≡ i → (Ok placed ≡ head (text_from p bs e)) × (text n line (drop n bs) e ≡ tail (text_from p bs e))
    at_byte b n line placed byte good on below bs e h = let t = read (Ok b) bs e (h ∙ byte) in rw (t, sym good, on, below) (refl, refl)
