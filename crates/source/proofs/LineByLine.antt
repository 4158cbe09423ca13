-- Cutting into lines goes by what stands before the next newline. Assumes nothing.
use Rattle.std.proofs.Common.{◌≡◌, ℕ, suc, ◌+◌, ◌<◌, ◌≤◌, true, false, eqb, List, [], ◌∷◌, length, sym, refl, ap, ◌∙◌, ⊎_elim, add-zero, arith}
use Rattle.std.proofs.lemmas.Bool.{cond-false, ne_eqb, lt-ltb, le-ltb, cases_lt}
use Rattle.text.specs.declared.FaultKind.TheVariants.{LongLine}
use Rattle.text.specs.declared.Placed.{Placed}
use Rattle.source.specs.declared.Ending.{Ending}
use Rattle.source.specs.LineLaw.{LineByLine}
use Rattle.source.specs.Lines.{line, stop, onto, cutting}
use Rattle.source.specs.Pieces.{◌▸▸◌, OneLine}
use Rattle.source.specs.Pieces.OneLine.{and}
use Rattle.source.specs.Stream.{Stream, ◌▸◌, ends}
use Rattle.source.specs.Texts.{failing}
use Rattle.source.proofs.Cutting.{newline, more, limit, onto_all, onto_line, onto-stop}

-- one byte more of a line that has some
one_more : (n first : ℕ) (p : Placed) (s : Stream) → 0 < n → n < 4095 → eqb p.byte 10 ≡ false → cutting n first (p ▸ s) ≡ onto p (cutting (n + 1) first s)
one_more n first p s some room e =
    more n first p s e (lt-ltb n 4095 room) ∙ ap (λ l. onto p (cutting (n + 1) l s)) (cond-false _ p.line first (ne_eqb n 0 (λ z. omega arith)))

-- bytes that fit the line
fitting : (n first : ℕ) (ps : List Placed) (s : Stream) → 0 < n → OneLine ps → n + length ps ≤ 4095 → cutting n first (ps ▸▸ s) ≡ onto_all ps (cutting (n + length ps) first s)
fitting n first [] s some o fits = ap (λ k. cutting k first s) (sym (add-zero n))
fitting n first (p ∷ ps) s some (and e o) fits =
    let at : (n + 1) + length ps ≡ n + suc (length ps) = omega arith in
    one_more n first p (ps ▸▸ s) some (omega arith) e ∙ ap (onto p) (fitting (n + 1) first ps s (omega arith) o (omega arith) ∙ ap (λ k. onto_all ps (cutting k first s)) at)

-- bytes that do not
full : (n first : ℕ) (ps : List Placed) (s : Stream) → 0 < n → n ≤ 4095 → OneLine ps → 4095 < n + length ps → cutting n first (ps ▸▸ s) ≡ stop (failing LongLine first)
full n first [] s some room o over = absurd (omega arith)
full n first (p ∷ ps) s some room (and e o) over =
    ⊎_elim
    (λ less. one_more n first p (ps ▸▸ s) some less e ∙ ap (onto p) (full (n + 1) first ps s (omega arith) (omega arith) o (omega arith)))
    (λ over. limit n first p (ps ▸▸ s) e (le-ltb n 4095 over))
    (cases_lt n 4095)

-- the first byte of a line
begun : (p : Placed) (s : Stream) → eqb p.byte 10 ≡ false → cutting 0 0 (p ▸ s) ≡ onto p (cutting 1 p.line s)
begun p s e = more 0 0 p s e refl

short : (ps : List Placed) (n : Placed) (s : Stream) → OneLine ps → length ps ≤ 4095 → eqb n.byte 10 ≡ true → cutting 0 0 (ps ▸▸ n ▸ s) ≡ line ps n.line (cutting 0 0 s)
short [] n s o fits h = newline 0 0 n s h
short (p ∷ ps) n s (and e o) fits h =
    begun p (ps ▸▸ n ▸ s) e ∙ ap (onto p) (fitting 1 p.line ps (n ▸ s) (omega arith) o (omega arith) ∙ ap (onto_all ps) (newline (1 + length ps) p.line n s h) ∙ onto_line ps n.line (cutting 0 0 s))

long : (p : Placed) (ps : List Placed) (s : Stream) → OneLine (p ∷ ps) → 4095 < length (p ∷ ps) → cutting 0 0 ((p ∷ ps) ▸▸ s) ≡ stop (failing LongLine p.line)
long p ps s (and e o) over = begun p (ps ▸▸ s) e ∙ ap (onto p) (full 1 p.line ps s (omega arith) (omega arith) o (omega arith))

last : (ps : List Placed) (x : Ending) → OneLine ps → length ps ≤ 4095 → cutting 0 0 (ps ▸▸ ends x) ≡ stop x
last [] x o fits = refl
last (p ∷ ps) x (and e o) fits =
    begun p (ps ▸▸ ends x) e ∙ ap (onto p) (fitting 1 p.line ps (ends x) (omega arith) o (omega arith) ∙ onto-stop ps x)

pub line_by_line : LineByLine
line_by_line = record { short = short; long = long; last = last }
