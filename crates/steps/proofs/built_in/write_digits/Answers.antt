use Rattle.std.proofs.Common.{◌++◌, length, sym, ap, ◌∙◌, arith}
use Rattle.std.proofs.lemmas.Fmt.{length-decimal-le}
use Rattle.steps.proofs.Digits.{digits-decimal}
use Rattle.steps.proofs.built_in.write_digits.Goals as goal

pub add_digits-requires : goal.add_digits-requires
add_digits-requires c =
    omega (arith, ap length c.requires, length-decimal-le 10 c.args.number (omega arith) (omega (arith, c.ranges.number.fits)) (omega (arith, c.ranges.number.fits)))

pub returns : goal.returns
returns c =
    c.add_digits.ensures ∙ (λ i. c.requires i ++ sym (digits-decimal c.args.number c.ranges.number.fits) i)
