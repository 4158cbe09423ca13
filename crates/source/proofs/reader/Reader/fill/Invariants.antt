use Rattle.std.proofs.Common.{◌≡◌, None}
use Rattle.source.specs.Lines.{held}
use Rattle.source.specs.Phases.{stream_left, lines_left}
use Rattle.source.specs.Stream.{size}
use Rattle.source.proofs.Cutting.{With}
use Rattle.source.proofs.reader.Reader.fill.Given as goal

abbrev pub invariant-loop-placed : goal.invariant-loop-placed
invariant-loop-placed g l =
    (l.self.stopped ≡ None) × With (held l.line) (stream_left g.B.Source.rest l.self.layers) (lines_left g.B.Source.rest l.initial.self)

abbrev pub decreases-loop-placed : goal.decreases-loop-placed
decreases-loop-placed g l = size (stream_left g.B.Source.rest l.self.layers)
