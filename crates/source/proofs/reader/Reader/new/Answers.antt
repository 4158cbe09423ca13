use Rattle.source.proofs.LineByLine.{line_by_line}
use Rattle.source.proofs.reader.Reader.new.Goals as goal

pub returns-clause-cut : goal.returns-clause-cut
returns-clause-cut g c = line_by_line
