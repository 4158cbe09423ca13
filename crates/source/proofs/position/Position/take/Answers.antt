use Rattle.std.proofs.Common.{rules, refl, ap, Err}
use Rattle.source.proofs.Positions.{at_end, at_fault, at_byte}
use Rattle.source.proofs.position.Position.take.Goals as goal

pub returns-in-Err : goal.returns-in-Err
returns-in-Err c = at_end c.args.self.now _ _ _ c.in-Err.is (ap Err c.closing.ensures)

pub returns-in_err-placed : goal.returns-in_err-placed
returns-in_err-placed c = at_fault c.args.self.now _ _ _ _ c.in-Ok.is c.in_err-placed.ensures (search rules)

pub returns : goal.returns
returns c = at_byte c.args.self.now _ _ _ _ _ c.in-Ok.is c.in_ok-placed.ensures refl c.line_behind.ensures
