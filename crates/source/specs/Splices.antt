-- Spliced lines, and the newline at the end. Assumes nothing.
use Rattle.std.specs.Prelude.{ℕ, Bool, true, false, cond, ◌&&◌, Some, None, Option, ◌==◌}
use Rattle.source.specs.declared.Ending.TheVariants.{Whole, Fails}
use Rattle.text.specs.declared.Placed.{Placed}
use Rattle.source.specs.declared.lookahead.Held.{Held}
use Rattle.source.specs.Lookahead.{ahead}
use Rattle.source.specs.Stream.{Stream, ◌▸◌, ends}

-- a backslash directly before a newline
abbrev pub splice : ℕ → ℕ → Bool
splice a b = a == 92 && b == 10

-- such pairs vanish
abbrev pub splices : Stream → Stream
splices (ends e) = ends e
splices (a ▸ ends e) = a ▸ ends e
splices (a ▸ b ▸ s) = elim (splice a.byte b.byte) [ true ↦ splices s | false ↦ a ▸ splices (b ▸ s) ]

-- the line of a byte that leaves its line open: any but a newline
abbrev pub opening : Placed → Option ℕ
opening p = cond (p.byte == 10) None (Some p.line)

-- A stream that ends whole on an open line gets a newline, on the line of its last byte.
-- The first argument is the line of the byte before, where that left its line open.
abbrev pub closed : Option ℕ → Stream → Stream
closed o (p ▸ s) = p ▸ closed (opening p) s
closed None (ends e) = ends e
closed (Some l) (ends Whole) = record { byte = 10; line = l } ▸ ends Whole
closed (Some l) (ends (Fails f)) = ends (Fails f)

-- what the layer makes of a stream
abbrev pub spliced : Stream → Stream
spliced s = closed None (splices s)

-- the same with the bytes that the layer put back, and the line that it left open
abbrev pub spliced_from : Held → Option ℕ → Stream → Stream
spliced_from h o s = closed o (splices (ahead h s))
