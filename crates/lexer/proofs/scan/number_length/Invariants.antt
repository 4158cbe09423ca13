use Rattle.std.proofs.Common.{◌≡◌, ◌+◌, false, drop}
use Rattle.lexer.specs.Cutting.{number_length}
use Rattle.lexer.proofs.scan.number_length.Given as goal

abbrev pub invariant-loop-len : goal.invariant-loop-len
invariant-loop-len l = number_length false l.bytes ≡ l.len + number_length l.after_exponent (drop l.len l.bytes)
