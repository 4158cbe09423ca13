use Rattle.token.specs.Views.{view_tokens}
use Rattle.invocation.specs.Runs.{unhidden}
use Rattle.expansion.proofs.Counts.{count_falls}
use Rattle.replace.proofs.Plan.end_run.Goals as goal

pub loop-ending-smaller : goal.loop-ending-smaller
loop-ending-smaller c =
    count_falls c.new-context.result c.loop-ending.run.ending c.next.new.run.ending c.loop-ending.self.1.1.1.0 c.next.new.self (unhidden (view_tokens c.loop-ending.run.tokens)) (unhidden (view_tokens c.next.new.run.tokens)) c.in_default.ensures.answer c.in_default.ensures.same
