use Rattle.std.proofs.Common.{◌≡◌, None}
use Rattle.source.specs.Stream.{size}
use Rattle.source.specs.Comments.{uncommented_from}
use Rattle.source.proofs.comment.CommentsSource.take.Given as goal

abbrev pub invariant-loop-placed : goal.invariant-loop-placed
invariant-loop-placed g l =
    (l.self.pending.queued ≡ None) × (uncommented_from l.self.pending (g.B.Source.rest l.self.below) ≡ uncommented_from l.initial.self.pending (g.B.Source.rest l.initial.self.below))

abbrev pub decreases-loop-placed : goal.decreases-loop-placed
decreases-loop-placed g l = size (g.B.Source.rest l.self.below)
