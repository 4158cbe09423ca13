use Rattle.std.proofs.Common.{Err, sym, ap, ◌∙◌}
use Rattle.source.specs.Phases.{lines_left}
use Rattle.lexer.specs.Cutting.{cut_line}
use Rattle.lexer.proofs.Examples.{worked}
use Rattle.lexer.proofs.Lines.{line_tokens, line_fault}
use Rattle.lexer.proofs.phases.next_tokens.Goals as goal

pub returns-in-Ok : goal.returns-in-Ok
returns-in-Ok g c =
    let read = c.next_line-next.ensures in
    let k = line_tokens (lines_left g.B.Source.rest c.args.reader.now) _ (ap cut_line (sym read.bytes) ∙ c.in-Ok.ensures.tokens) in
    record { answer = read.answer ∙ k.0; tokens = k.1; after = read.after; worked = worked }

pub returns-in-Err : goal.returns-in-Err
returns-in-Err g c =
    let read = c.next_line-next.ensures in
    let cut = c.in-Err.ensures.tokens in
    let k = line_fault (lines_left g.B.Source.rest c.args.reader.now) _ (ap cut_line (sym read.bytes) ∙ cut.0) in
    record { answer = ap Err c.ended_by.ensures ∙ k.0; tokens = cut.1 ∙ k.1; after = read.after; worked = worked }
