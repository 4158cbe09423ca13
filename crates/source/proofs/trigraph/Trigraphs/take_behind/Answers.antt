use Rattle.source.proofs.Streams.{put_one}
use Rattle.source.proofs.trigraph.Trigraphs.take_behind.Goals as goal

pub returns-in_default-clause-after : goal.returns-in_default-clause-after
returns-in_default-clause-after g c =
    let end = c.in_default.ensures in
    rw (end.after, ← put_one end.answer end.after)

pub returns-in_default-next-clause-after : goal.returns-in_default-next-clause-after
returns-in_default-next-clause-after g c =
    let second = c.in-Ok.ensures in
    let end = c.in_default-next.ensures in
    rw (c.put_back.ensures, end.after, ← put_one second.answer second.after, ← put_one end.answer end.after)

pub returns-in-Some-clause-after : goal.returns-in-Some-clause-after
returns-in-Some-clause-after g c =
    let second = c.in-Ok.ensures in
    let third = c.in-Ok-next.ensures in
    rw (← put_one second.answer second.after, ← put_one third.answer third.after, ← c.in-Some.ensures)

pub returns-in-None-clause-after : goal.returns-in-None-clause-after
returns-in-None-clause-after g c =
    let second = c.in-Ok.ensures in
    let third = c.in-Ok-next.ensures in
    rw (c.put_back_two.ensures, ← put_one second.answer second.after, ← put_one third.answer third.after, ← c.in-None.ensures)
