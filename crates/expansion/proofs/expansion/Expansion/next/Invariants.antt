use Rattle.std.proofs.Common.{◌≡◌, ◌+◌, ◌≤◌, [], length}
use Rattle.item.specs.Tables.{held}
use Rattle.replacement.specs.Meaning.{end_of}
use Rattle.invocation.specs.Fronts.{waiting}
use Rattle.steps.specs.Contexts.{macros, file_of}
use Rattle.expansion.specs.States.{state_of, expanding_from}
use Rattle.expansion.proofs.Falling.{weight}
use Rattle.expansion.proofs.expansion.Expansion.next.Given as goal

-- what is to come is what was to come at first
abbrev pub invariant-loop-run : goal.invariant-loop-run
invariant-loop-run g l =
    let end = end_of (g.R.Run.end l.initial.run) in
    let from = expanding_from (macros l.initial.context) (file_of l.initial.context) end in
    (from (state_of l.initial.self (g.R.Run.rest l.initial.run)) ≡ from (state_of l.self (g.R.Run.rest l.run))) × (held l.self.handed ≡ []) × (g.R.Run.end l.run ≡ g.R.Run.end l.initial.run) × (length (g.R.Run.rest l.run) ≤ length (g.R.Run.rest l.initial.run))

abbrev pub decreases-loop-run : goal.decreases-loop-run
decreases-loop-run g l =
    weight (length (g.R.Run.rest l.initial.run)) l.self.left (length (waiting l.self.level.w) + length (g.R.Run.rest l.run))
