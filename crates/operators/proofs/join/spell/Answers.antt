use Rattle.std.proofs.Common.{◌++◌, sym, ◌∙◌, arith}
use Rattle.std.proofs.lemmas.Bool.Decides.{nat_tests}
use Rattle.std.proofs.lemmas.Grind.{common_steps}
use Rattle.operators.proofs.Spelt.{no_token}
use Rattle.operators.proofs.join.spell.Goals as goal

pub returns-in_err-ok-clause-kind : goal.returns-in_err-ok-clause-kind
returns-in_err-ok-clause-kind c =
    let long = no_token (c.args.left.spelling.now ++ c.args.right.spelling.now) (grind (arith, common_steps, nat_tests)) in c.from_residual.ensures ∙ sym long

pub returns-in_err-ok-2-clause-kind : goal.returns-in_err-ok-2-clause-kind
returns-in_err-ok-2-clause-kind c =
    let long = no_token (c.args.left.spelling.now ++ c.args.right.spelling.now) (grind (arith, common_steps, nat_tests)) in c.from_residual-in_err-ok-2.ensures ∙ sym long
