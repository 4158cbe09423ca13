-- What the trigraph layer does with the bytes at its front. Assumes nothing.
use Rattle.std.proofs.Common.{◌≡◌, refl}
use Rattle.std.proofs.lemmas.Bool.{ne_eqb}
use Rattle.text.specs.declared.Placed.{Placed}
use Rattle.source.specs.Stream.{Stream, ◌▸◌, ends}
use Rattle.source.specs.Trigraphs.{trigraphs}

-- a byte that is no question mark begins no trigraph
pub not_mark : (p : Placed) (s : Stream) → (p.byte ≡ 63 → ⊥) → trigraphs (p ▸ s) ≡ p ▸ trigraphs s
not_mark p (ends e) h = refl
not_mark p (q ▸ ends e) h = refl
not_mark p (q ▸ r ▸ s) h = rw (ne_eqb p.byte 63 h, trigraphs)
