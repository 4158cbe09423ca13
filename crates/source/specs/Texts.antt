-- A text as a stream: bytes placed on their lines. Assumes nothing.
use Rattle.std.specs.Prelude.{◌≡◌, ℕ, ◌+◌, cond, List, [], ◌∷◌, drop, Some, None, Ok, Err, Result, ◌==◌, nat_lt}
use Rattle.std.specs.List.{slice_get}
use Rattle.shelf.specs.Files.{File, at}
use Rattle.shelf.specs.declared.Ending as shelf
use Rattle.shelf.specs.declared.Ending.TheVariants as file
use Rattle.source.specs.declared.Ending.{Ending}
use Rattle.source.specs.declared.Ending.TheVariants.{Whole, Fails}
use Rattle.text.specs.declared.FaultKind.{FaultKind}
use Rattle.text.specs.declared.FaultKind.TheVariants.{BrokenFile, BadByte, LongFile}
use Rattle.source.specs.declared.bottom.FileSource.{FileSource}
use Rattle.source.specs.declared.position.Position.{Position}
use Rattle.text.specs.declared.Placed.{Placed}
use Rattle.text.specs.Bytes.{admitted}
use Rattle.source.specs.Stream.{Stream, ends, head, tail, put}

-- an ending by a fault on a line
abbrev pub failing : FaultKind → ℕ → Ending
failing k line = Fails (record { kind = k; line = line })

-- what the ending of a file is on a line
abbrev pub closing : shelf.Ending → ℕ → Ending
closing file.Whole line = Whole
closing file.Broken line = failing BrokenFile line

-- the line behind a byte
abbrev pub line_behind : ℕ → ℕ → ℕ
line_behind b line = cond (b == 10) (line + 1) line

-- what a byte on a line gives behind n others: one that is not admitted is a fault, and the 65,536th is another in its place
abbrev pub placing : ℕ → ℕ → ℕ → Result Placed Ending
placing n line b =
    cond (nat_lt n 65535) (cond (admitted b) (Ok (record { byte = b; line = line })) (Err (failing BadByte line))) (Err (failing LongFile line))

-- bytes and their ending, with n bytes before them, from a line on
abbrev pub text : ℕ → ℕ → List ℕ → shelf.Ending → Stream
text n line [] e = ends (closing e line)
text n line (b ∷ bs) e = put (placing n line b) (text (n + 1) (line_behind b line) bs e)

-- a text in memory, which ends whole
abbrev pub memory_text : List ℕ → Stream
memory_text bs = text 0 1 bs file.Whole

-- bytes and their ending from a position in them
abbrev pub text_from : Position → List ℕ → shelf.Ending → Stream
text_from p bs e = text p.offset p.line (drop p.offset bs) e

-- a file of a list from a position; a number outside the list reads as an empty file
abbrev pub file_from : Position → List File → ℕ → Stream
file_from p fs n = elim (slice_get fs n) [ None ↦ ends Whole | Some f ↦ text_from p f.bytes f.ending ]

-- what is left of a file that is read
abbrev pub file_left : {S : Type 0} → (S → List File) → FileSource S → Stream
file_left files s = file_from s.position (files s.shelf.now) s.file

-- a file from the first byte on
abbrev pub file_text : List File → ℕ → Stream
file_text fs n = elim (slice_get fs n) [ None ↦ ends Whole | Some f ↦ text 0 1 f.bytes f.ending ]

-- an answer and the position behind it, for whatever text has the reading at the position
abbrev pub Reads : Position → Result ℕ shelf.Ending → Result Placed Ending → Position → Type 0
Reads p i r q =
    (bs : List ℕ) (e : shelf.Ending) → at bs e p.offset ≡ i → (r ≡ head (text_from p bs e)) × (text_from q bs e ≡ tail (text_from p bs e))
