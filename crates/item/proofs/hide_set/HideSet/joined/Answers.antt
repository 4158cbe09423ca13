use Rattle.item.proofs.Sets.{in_either}
use Rattle.item.proofs.hide_set.HideSet.joined.Goals as goal

pub returns : goal.returns
returns c = in_either _ c.args.self c.args.other c.either_bits.ensures c.either_bits-2.ensures
