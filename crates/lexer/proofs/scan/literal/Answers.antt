use Rattle.std.proofs.Common.{sym, arith}
use Rattle.lexer.proofs.Lengths.{literal_bound}
use Rattle.lexer.proofs.scan.literal.Goals as goal

pub overflow_add-result : goal.overflow_add-result
overflow_add-result c = omega (arith, c.requires, (literal_bound _ _ c.args.bytes.now _ (sym c.in_ok-len.ensures)).1)

pub overflow_add-result-in_default-2 : goal.overflow_add-result-in_default-2
overflow_add-result-in_default-2 c =
    omega (arith, c.requires, (literal_bound _ _ c.args.bytes.now _ (sym c.in_ok-len.ensures)).1)
