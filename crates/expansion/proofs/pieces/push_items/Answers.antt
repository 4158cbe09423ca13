use Rattle.std.proofs.Common.{arith}
use Rattle.std.proofs.lemmas.Grind.{common_steps}
use Rattle.item.proofs.Held.{fits}
use Rattle.expansion.proofs.pieces.push_items.Goals as goal

pub returns-clause-room : goal.returns-clause-room
returns-clause-room c = grind (arith, common_steps, fits c.loop-item.pieces)
