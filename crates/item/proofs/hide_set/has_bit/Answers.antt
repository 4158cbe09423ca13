use Rattle.std.proofs.Common.{sym, ◌∙◌}
use Rattle.std.proofs.lemmas.Bool.{le-ltb}
use Rattle.item.proofs.Bits.{bit_past}
use Rattle.item.proofs.hide_set.has_bit.Goals as goal

pub returns-else-place-lt-HALF : goal.returns-else-place-lt-HALF
returns-else-place-lt-HALF c =
    le-ltb _ _ c.if-place-lt-HALF.false ∙ sym (bit_past c.args.bits 128 _ c.ranges.bits.fits c.if-place-lt-HALF.false)
