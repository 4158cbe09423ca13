use Rattle.std.proofs.Common.{◌≡◌}
use Rattle.source.specs.Lookahead.{ahead}
use Rattle.source.specs.Splices.{spliced_from}
use Rattle.source.specs.Stream.{size}
use Rattle.source.proofs.splice.SplicesSource.take.Given as goal

abbrev pub invariant-loop-first : goal.invariant-loop-first
invariant-loop-first g l =
    spliced_from l.self.below.held l.self.unclosed (g.B.Source.rest l.self.below.below) ≡ spliced_from l.initial.self.below.held l.initial.self.unclosed (g.B.Source.rest l.initial.self.below.below)

abbrev pub decreases-loop-first : goal.decreases-loop-first
decreases-loop-first g l = size (ahead l.self.below.held (g.B.Source.rest l.self.below.below))
