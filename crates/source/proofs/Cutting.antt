-- One byte more of a logical line. Assumes nothing.
use Rattle.std.proofs.Common.{◌≡◌, ℕ, suc, ◌+◌, true, false, cond, eqb, ltb, List, [], ◌∷◌, ◌++◌, map, length, get_or, refl, sym, ap, arith}
use Rattle.std.proofs.lemmas.Bool.{cond-false, ne_eqb}
use Rattle.source.specs.declared.Ending.{Ending}
use Rattle.text.specs.declared.FaultKind.TheVariants.{LongLine}
use Rattle.text.specs.declared.Placed.{Placed}
use Rattle.text.specs.Placing.{line_of}
use Rattle.source.specs.Lines.{Lines, line, stop, onto, cutting}
use Rattle.source.specs.Stream.{Stream, ◌▸◌}
use Rattle.source.specs.Texts.{failing}

-- what cutting does with a byte
module _ (n first : ℕ) (p : Placed) (s : Stream) where
  pub newline : eqb p.byte 10 ≡ true → cutting n first (p ▸ s) ≡ line [] p.line (cutting 0 0 s)
  newline e = rw (e, cutting)

  pub more : eqb p.byte 10 ≡ false → ltb n 4095 ≡ true → cutting n first (p ▸ s) ≡ onto p (cutting (n + 1) (cond (eqb n 0) p.line first) s)
  more e f = rw (e, f, cutting)

  pub limit : eqb p.byte 10 ≡ false → ltb n 4095 ≡ false → cutting n first (p ▸ s) ≡ stop (failing LongLine first)
  limit e f = rw (e, f, cutting)

-- bytes in front of the first line
abbrev pub onto_all : List Placed → Lines → Lines
onto_all [] ls = ls
onto_all (p ∷ ps) ls = onto p (onto_all ps ls)

pub onto_line : (ps : List Placed) (n : ℕ) (ls : Lines) → onto_all ps (line [] n ls) ≡ line ps n ls
onto_line [] n ls = refl
onto_line (p ∷ ps) n ls = ap (onto p) (onto_line ps n ls)

pub onto-stop : (ps : List Placed) (e : Ending) → onto_all ps (stop e) ≡ stop e
onto-stop [] e = refl
onto-stop (p ∷ ps) e = ap (onto p) (onto-stop ps e)

pub onto-push : (ps : List Placed) (p : Placed) (ls : Lines) → onto_all (ps ++ p ∷ []) ls ≡ onto_all ps (onto p ls)
onto-push [] p ls = refl
onto-push (q ∷ ps) p ls = ap (onto q) (onto-push ps p ls)

-- the line of the first byte of a line
abbrev pub first_line : List Placed → ℕ
first_line [] = 0
first_line (p ∷ ps) = p.line

pub first_line-push : (ps : List Placed) (p : Placed) → first_line (ps ++ p ∷ []) ≡ cond (eqb (length ps) 0) p.line (first_line ps)
first_line-push [] p = refl
first_line-push (q ∷ ps) p = sym (cond-false _ p.line q.line (ne_eqb (suc (length ps)) 0 (λ z. absurd (omega arith))))

pub first_line_at : (ps : List Placed) → ltb (length ps) 4095 ≡ false → first_line ps ≡ get_or (map line_of ps) 0 0
first_line_at [] h = cc
first_line_at (p ∷ ps) h = refl

-- what a line holds is the front of the first of the lines, and s is what follows
abbrev pub With : List Placed → Stream → Lines → Type 0
With got s ls = onto_all got (cutting (length got) (first_line got) s) ≡ ls
