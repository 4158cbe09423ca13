use Rattle.std.proofs.Common.{length}
use Rattle.item.specs.Tables.{held, shown}
use Rattle.operators.proofs.Turned.{Holds}
use Rattle.operators.proofs.join.join_all.Given as goal

abbrev pub invariant-loop-part : goal.invariant-loop-part
invariant-loop-part l = Holds l.line (held l.pieces) l.operand (held l.joined) (shown l.parts)

abbrev pub decreases-loop-part : goal.decreases-loop-part
decreases-loop-part l = length (shown l.parts)
