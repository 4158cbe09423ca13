-- Trigraph sequences. Assumes nothing.
use Rattle.std.specs.Prelude.{ℕ, cond, ◌&&◌, Some, None, codes, Option, ◌==◌, nat_eq}
use Rattle.std.specs.List.{zip}
use Rattle.std.specs.Map.{lookup}
use Rattle.source.specs.declared.lookahead.Held.{Held}
use Rattle.source.specs.Lookahead.{ahead}
use Rattle.source.specs.Stream.{Stream, ◌▸◌, ends}

-- what ?? and the byte become
abbrev pub replacement : ℕ → Option ℕ
replacement b = lookup (nat_eq b) (zip (codes "=(/)'<!>-") (codes "#[\\]^{|}~"))

-- what three bytes become, where the first two are question marks
abbrev pub trigraph : ℕ → ℕ → ℕ → Option ℕ
trigraph a b c = cond (a == 63 && b == 63) (replacement c) None

-- trigraphs are replaced from the left, each on the line of its first byte
abbrev pub trigraphs : Stream → Stream
trigraphs (ends e) = ends e
trigraphs (a ▸ ends e) = a ▸ ends e
trigraphs (a ▸ b ▸ ends e) = a ▸ b ▸ ends e
trigraphs (a ▸ b ▸ c ▸ s) =
    elim (trigraph a.byte b.byte c.byte) [
      | None ↦ a ▸ trigraphs (b ▸ c ▸ s)
      | Some r ↦ record { byte = r; line = a.line } ▸ trigraphs s
    ]

-- the same with the bytes that the layer put back
abbrev pub trigraphs_from : Held → Stream → Stream
trigraphs_from h s = trigraphs (ahead h s)
