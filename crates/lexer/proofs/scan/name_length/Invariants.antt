use Rattle.std.proofs.Common.{◌≡◌, ◌+◌, drop}
use Rattle.lexer.specs.Cutting.{name_length}
use Rattle.lexer.proofs.scan.name_length.Given as goal

abbrev pub invariant-loop-len : goal.invariant-loop-len
invariant-loop-len l = name_length l.bytes ≡ l.len + name_length (drop l.len l.bytes)
