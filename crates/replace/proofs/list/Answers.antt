use Rattle.source.specs.Phases.{lines_left}
use Rattle.lexer.proofs.Counts.{count_falls}
use Rattle.replace.proofs.list.Goals as goal

pub loop-ending-smaller : goal.loop-ending-smaller
loop-ending-smaller g c =
    let rest = g.B.Source.rest in
    let next = c.in_default.ensures in
    count_falls (lines_left rest c.loop-ending.reader) (lines_left rest c.next_tokens.new.reader) _ next.answer next.after
