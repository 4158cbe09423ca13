-- What cutting into logical lines does, in words of its subject: by what stands before the next newline. Assumes nothing.
use Rattle.std.specs.Prelude.{◌≡◌, ◌<◌, ◌≤◌, true, List, ◌∷◌, length, ◌==◌}
use Rattle.text.specs.declared.FaultKind.TheVariants.{LongLine}
use Rattle.text.specs.declared.Placed.{Placed}
use Rattle.source.specs.declared.Ending.{Ending}
use Rattle.source.specs.Lines.{line, stop, cutting}
use Rattle.source.specs.Pieces.{◌▸▸◌, OneLine}
use Rattle.source.specs.Stream.{Stream, ◌▸◌, ends}
use Rattle.source.specs.Texts.{failing}

pub record LineByLine : Type 0 where
  -- bytes up to a newline are a line
  pub short : (ps : List Placed) (n : Placed) (s : Stream) → OneLine ps → length ps ≤ 4095 → (n.byte == 10) ≡ true → cutting 0 0 (ps ▸▸ n ▸ s) ≡ line ps n.line (cutting 0 0 s)
  -- more than 4,095 are a fault on the line of the first, whatever follows
  pub long : (p : Placed) (ps : List Placed) (s : Stream) → OneLine (p ∷ ps) → 4095 < length (p ∷ ps) → cutting 0 0 ((p ∷ ps) ▸▸ s) ≡ stop (failing LongLine p.line)
  -- at an ending there is no further line
  pub last : (ps : List Placed) (e : Ending) → OneLine ps → length ps ≤ 4095 → cutting 0 0 (ps ▸▸ ends e) ≡ stop e
