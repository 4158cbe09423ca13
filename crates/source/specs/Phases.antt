-- The phases before tokens, one after another over a whole text. Assumes nothing.
use Rattle.std.specs.Prelude.{List, Some, None, Option}
use Rattle.shelf.specs.Files.{File}
use Rattle.source.specs.declared.Ending.TheVariants.{Fails}
use Rattle.text.specs.declared.Fault.{Fault}
use Rattle.source.specs.declared.bottom.FileSource.{FileSource}
use Rattle.source.specs.declared.comment.Comments.{Comments}
use Rattle.source.specs.declared.splice.Splices.{Splices}
use Rattle.source.specs.declared.trigraph.Trigraphs.{Trigraphs}
use Rattle.source.specs.declared.reader.Pending.{Pending}
use Rattle.source.specs.declared.reader.Reader.{Reader}
use Rattle.source.specs.Comments.{uncommented, uncommented_from}
use Rattle.source.specs.Lines.{Lines, stop, cutting}
use Rattle.source.specs.Splices.{spliced, spliced_from}
use Rattle.source.specs.Stream.{Stream}
use Rattle.source.specs.Texts.{file_from}
use Rattle.source.specs.Trigraphs.{trigraphs, trigraphs_from}

-- trigraphs are replaced, lines spliced, comments taken out, and what that gives is cut into lines
abbrev pub logical_lines : Stream → Lines
logical_lines s = cutting 0 0 (uncommented (spliced (trigraphs s)))

-- the lines left: none behind a fault of the cutting, else those of the stream
abbrev pub lines_from : Option Fault → Stream → Lines
lines_from None s = cutting 0 0 s
lines_from (Some f) s = stop (Fails f)

-- what the layers still have to give, from what the bottom source has left
abbrev pub stream_left : {B : Type 0} → (B → Stream) → Comments (Splices (Trigraphs B)) → Stream
stream_left rest c =
    let s = c.below in
    let t = s.below.below in
    uncommented_from c.pending (spliced_from s.below.held s.unclosed (trigraphs_from t.below.held (rest t.below.below)))

-- the lines left of a reader
abbrev pub lines_left : {B : Type 0} → (B → Stream) → Reader B → Lines
lines_left rest r = lines_from r.stopped (stream_left rest r.layers)

-- the lines left of a reading that was put down, from the files of its shelf
abbrev pub pending_lines : List File → Pending → Lines
pending_lines fs p =
    let l = p.layers in
    lines_from p.stopped (uncommented_from l.comments (spliced_from l.splices l.unclosed (trigraphs_from l.trigraphs (file_from p.position fs p.file))))

-- the shelf that a reader reads from
abbrev pub shelf_read : {S : Type 0} → Reader (FileSource S) → S
shelf_read r = r.layers.below.below.below.below.below.shelf.now
