-- What the splice layer does with the byte at its front. Assumes nothing.
use Rattle.std.proofs.Common.{◌≡◌, true, false, eqb, sym, refl}
use Rattle.std.proofs.lemmas.Bool.{and_right, eq-eqb, ne_eqb}
use Rattle.text.specs.declared.Placed.{Placed}
use Rattle.source.specs.Splices.{splices}
use Rattle.source.specs.Stream.{Stream, ◌▸◌, ends, begins, tail}

pub not_backslash : (p : Placed) (s : Stream) → (p.byte ≡ 92 → ⊥) → splices (p ▸ s) ≡ p ▸ splices s
not_backslash p (ends e) h = refl
not_backslash p (q ▸ s) h = rw (ne_eqb p.byte 92 h, splices)

pub no_newline : (p : Placed) (s : Stream) → false ≡ begins 10 s → splices (p ▸ s) ≡ p ▸ splices s
no_newline p (ends e) h = refl
no_newline p (q ▸ s) h = rw (and_right (eqb p.byte 92) (eqb q.byte 10) (sym h), splices)

pub gone : (p : Placed) (s : Stream) → p.byte ≡ 92 → true ≡ begins 10 s → splices (p ▸ s) ≡ splices (tail s)
gone p (ends e) g h = cc
gone p (q ▸ s) g h = rw (eq-eqb p.byte 92 g, sym h, splices)
