use Rattle.item.proofs.Sets.{in_both}
use Rattle.item.proofs.hide_set.HideSet.shared.Goals as goal

pub returns : goal.returns
returns c = in_both _ c.args.self c.args.other c.both_bits.ensures c.both_bits-2.ensures
