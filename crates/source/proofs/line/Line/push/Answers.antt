use Rattle.std.proofs.Common.{arith}
use Rattle.std.proofs.lemmas.Grind.{common_steps}
use Rattle.source.proofs.Placing.{placed-push, bytes-placed, lines_placed}
use Rattle.source.proofs.line.Line.push.Goals as goal

pub invariant_of-self : goal.invariant_of-self
invariant_of-self c = grind (arith, common_steps, bytes-placed, lines_placed)

pub returns-clause-after : goal.returns-clause-after
returns-clause-after c = grind (arith, common_steps, placed-push)
