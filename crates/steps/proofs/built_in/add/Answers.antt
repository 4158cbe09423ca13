use Rattle.std.proofs.Common.{◌∙◌, arith, length-append}
use Rattle.std.proofs.lemmas.Bool.{cond-true, le-leb}
use Rattle.operators.specs.Spellings.{spelt}
use Rattle.steps.proofs.built_in.add.Goals as goal

pub returns : goal.returns
returns c =
    c.add-fits.ensures.added ∙ cond-true _ _ _ (c.add-fits.ensures.room ∙ le-leb _ 1023 (omega (arith, length-append (spelt c.args.spelling.now) c.args.more.now)))
