use Rattle.item.proofs.Sets.{in_low_more, in_high_more}
use Rattle.item.proofs.hide_set.HideSet.with.Goals as goal

pub returns-then-slot-lt-HALF : goal.returns-then-slot-lt-HALF
returns-then-slot-lt-HALF c =
    in_low_more c.args.self c.args.slot _ _ c.if-slot-lt-HALF.true c.either_bits.ensures c.single_bit.ensures

pub returns-else-slot-lt-HALF : goal.returns-else-slot-lt-HALF
returns-else-slot-lt-HALF c =
    in_high_more c.args.self c.args.slot _ _ c.if-slot-lt-HALF.false c.either_bits-else-slot-lt-HALF.ensures c.single_bit-else-slot-lt-HALF.ensures
