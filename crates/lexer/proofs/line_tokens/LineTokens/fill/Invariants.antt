use Rattle.std.proofs.Common.{◌-◌, length}
use Rattle.token.specs.Tables.{table_tokens}
use Rattle.lexer.proofs.Sofar.{Sofar}
use Rattle.lexer.proofs.line_tokens.LineTokens.fill.Given as goal

abbrev pub invariant-loop-at : goal.invariant-loop-at
invariant-loop-at l = Sofar l.bytes l.lines l.at l.marked (table_tokens l.self.table)

abbrev pub decreases-loop-at : goal.decreases-loop-at
decreases-loop-at l = length l.bytes - l.at
