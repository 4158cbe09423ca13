-- What a source still has to give. Assumes nothing.
use Rattle.std.specs.Prelude.{ℕ, suc, Bool, false, ◌==◌, Ok, Err, Result}
use Rattle.text.specs.declared.Placed.{Placed}
use Rattle.source.specs.declared.Ending.{Ending}

-- placed bytes, and then how they end
pub data Stream : Type 0 where
  ◌▸◌ : Placed → Stream → Stream
  ends : Ending → Stream

infixr 50 ◌▸◌
-- the first of a stream, or its ending
abbrev pub head : Stream → Result Placed Ending
head (p ▸ s) = Ok p
head (ends e) = Err e

-- what is left behind the first; an ending stays
abbrev pub tail : Stream → Stream
tail (p ▸ s) = s
tail (ends e) = ends e

-- an answer put back in front
abbrev pub put : Result Placed Ending → Stream → Stream
put (Ok p) s = p ▸ s
put (Err e) s = ends e

-- how many bytes are to come
abbrev pub size : Stream → ℕ
size (p ▸ s) = suc (size s)
size (ends e) = 0

-- whether the first byte is the one given
abbrev pub begins : ℕ → Stream → Bool
begins b (p ▸ s) = p.byte == b
begins b (ends e) = false
