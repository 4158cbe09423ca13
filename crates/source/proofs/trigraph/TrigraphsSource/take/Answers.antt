use Rattle.source.proofs.Streams.{put_one}
use Rattle.source.proofs.Marks.{not_mark}
use Rattle.source.proofs.trigraph.TrigraphsSource.take.Goals as goal

pub returns-in_err-first-clause-after : goal.returns-in_err-first-clause-after
returns-in_err-first-clause-after g c =
    let end = c.in_err-first.ensures in
    rw (end.after, ← put_one end.answer end.after)

pub returns-then-first-eq63 : goal.returns-then-first-eq63
returns-then-first-eq63 g c =
    let first = c.in_ok-first.ensures in
    rw (← put_one first.answer first.after) c.take_behind.ensures

pub returns-else-first-eq63-clause-after : goal.returns-else-first-eq63-clause-after
returns-else-first-eq63-clause-after g c =
    let first = c.in_ok-first.ensures in
    let other = c.if-first-eq63.false in
    rw (← put_one first.answer first.after, not_mark)
