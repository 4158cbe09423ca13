use Rattle.token.specs.Views.{view_tokens}
use Rattle.invocation.specs.Runs.{unhidden}
use Rattle.expansion.proofs.Counts.{count}
use Rattle.replace.proofs.Plan.end_run.Given as goal

-- the expansion stands behind the plan, its definitions and its run
abbrev pub decreases-loop-ending : goal.decreases-loop-ending
decreases-loop-ending l = count l.context l.run.ending l.self.1.1.1.0 (unhidden (view_tokens l.run.tokens))
