-- Answers taken from a stream and put back. Assumes nothing.
use Rattle.std.proofs.Common.{◌≡◌, Result, refl, ◌∙◌}
use Rattle.text.specs.declared.Placed.{Placed}
use Rattle.source.specs.declared.Ending.{Ending}
use Rattle.source.specs.Stream.{Stream, ◌▸◌, ends, head, tail, put}

put_back : (s : Stream) → put (head s) (tail s) ≡ s
put_back (p ▸ s) = refl
put_back (ends e) = refl

-- one answer put back
pub put_one : {a : Result Placed Ending} {s t : Stream} → a ≡ head s → t ≡ tail s → put a t ≡ s
put_one {a} {s} {t} e f = (λ i. put (e i) (f i)) ∙ put_back s
