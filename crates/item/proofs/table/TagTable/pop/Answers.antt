use Rattle.item.proofs.Held.{held-pop}
use Rattle.item.proofs.table.TagTable.pop.Goals as goal

pub returns : goal.returns
returns g c = held-pop c.args.self.now _ _ c.pop.ensures c.pop-last.ensures.rest
