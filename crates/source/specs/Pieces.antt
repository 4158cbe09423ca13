-- What the comment layer does, in words of its subject: a text is a sequence of literals, comments and other bytes,
-- and the layer maps it piece by piece. Assumes nothing.
use Rattle.std.specs.Prelude.{◌≡◌, ℕ, Bool, true, false, ◌&&◌, List, [], ◌∷◌, ◌==◌}
use Rattle.source.specs.declared.Ending.{Ending}
use Rattle.source.specs.declared.Ending.TheVariants.{Whole, Fails}
use Rattle.text.specs.declared.Fault.{Fault}
use Rattle.text.specs.declared.FaultKind.TheVariants.{OpenComment}
use Rattle.text.specs.declared.Placed.{Placed}
use Rattle.text.specs.Bytes.{mark}
use Rattle.source.specs.Comments.{uncommented}
use Rattle.source.specs.Stream.{Stream, ◌▸◌, ends, begins}

-- bytes in front of a stream
abbrev pub ◌▸▸◌ : List Placed → Stream → Stream
[] ▸▸ s = s
(p ∷ ps) ▸▸ s = p ▸ (ps ▸▸ s)

infixr 50 ◌▸▸◌
-- whether a line ends here: before a newline, or at the ending
abbrev pub line_ends : Stream → Bool
line_ends (p ▸ s) = p.byte == 10
line_ends (ends e) = true

-- what stands in a literal behind the mark m that opens it: bytes, and a backslash with the byte that it takes along
pub data Inside (m : ℕ) : List Placed → Type 0 where
  nothing : Inside m []
  plain : {p : Placed} {ps : List Placed} → (p.byte == m) ≡ false → (p.byte == 92) ≡ false → (p.byte == 10) ≡ false → Inside m ps → Inside m (p ∷ ps)
  escape : {p q : Placed} {ps : List Placed} → (p.byte == 92) ≡ true → (p.byte == m) ≡ false → (q.byte == 10) ≡ false → Inside m ps → Inside m (p ∷ q ∷ ps)

-- bytes without a newline
pub data OneLine : List Placed → Type 0 where
  nothing : OneLine []
  and : {p : Placed} {ps : List Placed} → (p.byte == 10) ≡ false → OneLine ps → OneLine (p ∷ ps)

-- bytes in which no star stands directly before a slash
pub data NoClose : List Placed → Type 0 where
  nothing : NoClose []
  one : {p : Placed} → NoClose (p ∷ [])
  and : {p q : Placed} {ps : List Placed} → (p.byte == 42 && q.byte == 47) ≡ false → NoClose (q ∷ ps) → NoClose (p ∷ q ∷ ps)

-- One stream is the other, mapped piece by piece.
pub data Maps : Stream → Stream → Type 0 where
  -- at the ending
  end : {e : Ending} → Maps (ends e) (ends e)
  -- a byte that opens no literal and no comment stays
  other : {p : Placed} {s t : Stream} → mark p.byte ≡ false → (p.byte == 47 && begins 47 s) ≡ false → (p.byte == 47 && begins 42 s) ≡ false → Maps s t → Maps (p ▸ s) (p ▸ t)
  -- a literal stays, up to the mark that closes it
  closed : (m q : Placed) (ps : List Placed) {s t : Stream} → mark m.byte ≡ true → Inside m.byte ps → (q.byte == m.byte) ≡ true → Maps s t → Maps (m ▸ ps ▸▸ q ▸ s) (m ▸ ps ▸▸ q ▸ t)
  -- or up to the end of the line
  unclosed : (m : Placed) (ps : List Placed) (s : Stream) {t : Stream} → mark m.byte ≡ true → Inside m.byte ps → line_ends s ≡ true → Maps s t → Maps (m ▸ ps ▸▸ s) (m ▸ ps ▸▸ t)
  -- also where a backslash stands before the end of the line, and takes nothing along
  backslash : (m b : Placed) (ps : List Placed) (s : Stream) {t : Stream} → mark m.byte ≡ true → Inside m.byte ps → (b.byte == 92) ≡ true → (b.byte == m.byte) ≡ false → line_ends s ≡ true → Maps s t → Maps (m ▸ ps ▸▸ b ▸ s) (m ▸ ps ▸▸ b ▸ t)
  -- a block comment, up to the first star and slash behind its own, becomes a space on the line of its slash
  block : (a b c d : Placed) (ps : List Placed) {s t : Stream} → (a.byte == 47) ≡ true → (b.byte == 42) ≡ true → NoClose ps → (c.byte == 42) ≡ true → (d.byte == 47) ≡ true → Maps s t → Maps (a ▸ b ▸ ps ▸▸ c ▸ d ▸ s) (record { byte = 32; line = a.line } ▸ t)
  -- one that is open at a whole ending is a fault on the line of its slash, at a fault that fault
  open_whole : (a b : Placed) (ps : List Placed) → (a.byte == 47) ≡ true → (b.byte == 42) ≡ true → NoClose ps → Maps (a ▸ b ▸ ps ▸▸ ends Whole) (ends (Fails (record { kind = OpenComment; line = a.line })))
  open_fails : (a b : Placed) (ps : List Placed) (f : Fault) → (a.byte == 47) ≡ true → (b.byte == 42) ≡ true → NoClose ps → Maps (a ▸ b ▸ ps ▸▸ ends (Fails f)) (ends (Fails f))
  -- a line comment vanishes, up to the end of the line
  line : (a b : Placed) (ps : List Placed) (s : Stream) {t : Stream} → (a.byte == 47) ≡ true → (b.byte == 47) ≡ true → OneLine ps → line_ends s ≡ true → Maps s t → Maps (a ▸ b ▸ ps ▸▸ s) t

-- The layer maps every stream piece by piece, and in no other way than that.
pub record PieceByPiece : Type 0 where
  pub maps : (s : Stream) → Maps s (uncommented s)
  pub only : (s t : Stream) → Maps s t → t ≡ uncommented s
