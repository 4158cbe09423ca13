-- Bytes that were taken from a source and put back. Assumes nothing.
use Rattle.source.specs.declared.lookahead.Held.{Held}
use Rattle.source.specs.declared.lookahead.Held.TheVariants.{Nothing, One, Two}
use Rattle.source.specs.declared.lookahead.Lookahead.{Lookahead}
use Rattle.source.specs.Stream.{Stream, ◌▸◌}

-- the bytes in front of a stream
abbrev pub ahead : Held → Stream → Stream
ahead Nothing s = s
ahead (One a) s = a ▸ s
ahead (Two a b) s = a ▸ b ▸ s

-- without the first of them
abbrev pub popped : Held → Held
popped Nothing = Nothing
popped (One a) = Nothing
popped (Two a b) = One b

-- what is left, from what the source below has left
abbrev pub ahead_left : {B : Type 0} → (B → Stream) → Lookahead B → Stream
ahead_left rest l = ahead l.held (rest l.below)
