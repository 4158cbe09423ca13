use Rattle.std.proofs.Common.{length, ap, arith, length-take}
use Rattle.steps.proofs.context.Context.new.Goals as goal

pub invariant_of-result : goal.invariant_of-result
invariant_of-result c = omega (arith, ap length c.slice_of.ensures, length-take 63 c.args.file.now)
