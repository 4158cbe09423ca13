use Rattle.std.proofs.Common.{◌≡◌, ◌+◌, ◌≤◌, ◌++◌, length}
use Rattle.item.specs.Tables.{held}
use Rattle.invocation.specs.Fronts.{waiting, Dropped}
use Rattle.invocation.proofs.Gathering.{Continues}
use Rattle.invocation.proofs.arguments.Arguments.gather.Given as goal

abbrev pub invariant-loop-ended : goal.invariant-loop-ended
invariant-loop-ended g l =
    let within = held l.self.inside in
    Continues (waiting l.initial.w ++ g.R.Run.rest l.initial.run) within l.depth (waiting l.w ++ g.R.Run.rest l.run) × Dropped (length within) (waiting l.initial.w) (g.R.Run.rest l.initial.run) (waiting l.w) (g.R.Run.rest l.run) × (g.R.Run.end l.run ≡ g.R.Run.end l.initial.run) × (l.depth ≤ length within)

abbrev pub decreases-loop-ended : goal.decreases-loop-ended
decreases-loop-ended g l = length (waiting l.w) + length (g.R.Run.rest l.run)
