use Rattle.std.proofs.Common.{◌∙◌}
use Rattle.std.proofs.lemmas.Nat.{one_shl}
use Rattle.std.proofs.lemmas.Bool.{cond_below}
use Rattle.item.proofs.hide_set.single_bit.Goals as goal

pub returns-then-place-lt-HALF : goal.returns-then-place-lt-HALF
returns-then-place-lt-HALF c =
    let h = c.if-place-lt-HALF.true in one_shl c.args.place 128 h ∙ cond_below c.args.place 128 _ 0 h
