-- A stream cut into logical lines. Assumes nothing.
use Rattle.std.specs.Prelude.{ℕ, ◌+◌, true, false, cond, List, [], ◌∷◌, Ok, Err, Result, vec_items, ◌==◌, nat_lt}
use Rattle.source.specs.declared.Ending.{Ending}
use Rattle.text.specs.declared.FaultKind.TheVariants.{LongLine}
use Rattle.text.specs.declared.Placed.{Placed}
use Rattle.source.specs.declared.line.Line.{Line}
use Rattle.text.specs.Placing.{placed}
use Rattle.source.specs.Stream.{Stream, ◌▸◌, ends}
use Rattle.source.specs.Texts.{failing}

-- the placed bytes that a line holds
abbrev pub held : Line → List Placed
held l = placed (vec_items l.bytes) (vec_items l.lines)

-- Logical lines, and then how they end. A line is its bytes and the physical line of its newline;
-- a fault stands in for the whole line that it meets.
pub data Lines : Type 0 where
  line : List Placed → ℕ → Lines → Lines
  stop : Ending → Lines

-- a byte in front of the first line; without a newline behind it there is no line
abbrev pub onto : Placed → Lines → Lines
onto p (line ps n ls) = line (p ∷ ps) n ls
onto p (stop e) = stop e

-- A stream cut at its newlines. A line has at most 4,095 bytes, and one more is a fault on the line of the first.
-- The numbers are how many bytes of the line come before, and the physical line of the first of them.
abbrev pub cutting : ℕ → ℕ → Stream → Lines
cutting n first (ends e) = stop e
cutting n first (p ▸ s) =
    elim (p.byte == 10) [
      | true ↦ line [] p.line (cutting 0 0 s)
      | false ↦ elim (nat_lt n 4095) [ true ↦ onto p (cutting (n + 1) (cond (n == 0) p.line first) s) | false ↦ stop (failing LongLine first) ]
    ]

-- the first line, as an answer, and its bytes; an ending stays
abbrev pub line_head : Lines → Result ℕ Ending
line_head (line ps n ls) = Ok n
line_head (stop e) = Err e

abbrev pub line_bytes : Lines → List Placed
line_bytes (line ps n ls) = ps
line_bytes (stop e) = []

abbrev pub line_tail : Lines → Lines
line_tail (line ps n ls) = ls
line_tail (stop e) = stop e
