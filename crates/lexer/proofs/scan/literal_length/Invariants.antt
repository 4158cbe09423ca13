use Rattle.std.proofs.Common.{◌≡◌, ◌+◌, false, drop}
use Rattle.std.specs.Option.{option_map}
use Rattle.lexer.specs.Cutting.{literal_length}
use Rattle.lexer.proofs.scan.literal_length.Given as goal

abbrev pub invariant-loop-at : goal.invariant-loop-at
invariant-loop-at l = literal_length l.mark false l.bytes ≡ option_map (λ n. l.at + n) (literal_length l.mark l.escaped (drop l.at l.bytes))
