use Rattle.source.specs.Phases.{lines_left}
use Rattle.lexer.proofs.Counts.{count}
use Rattle.replace.proofs.list.Given as goal

abbrev pub decreases-loop-ending : goal.decreases-loop-ending
decreases-loop-ending g l = count (lines_left g.B.Source.rest l.reader)
