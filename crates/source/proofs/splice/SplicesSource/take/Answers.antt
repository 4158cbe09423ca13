use Rattle.source.proofs.Splicing.{not_backslash, no_newline, gone}
use Rattle.source.proofs.Streams.{put_one}
use Rattle.source.proofs.splice.SplicesSource.take.Goals as goal
use Rattle.source.proofs.splice.SplicesSource.take.Goals.{then-first-ne92-via-then-first-ne92, then-first-ne92-via-else-first-ne92+then-not-skip}

pub returns-in-Err-clause-after : goal.returns-in-Err-clause-after
returns-in-Err-clause-after g c =
    let end = c.in-Err.ensures in
    rw (← c.loop-first.invariant, c.end.ensures.below, end.after, ← put_one end.answer end.after) c.end.ensures.after

pub returns-then-first-ne92-clause-after : goal.returns-then-first-ne92-clause-after
returns-then-first-ne92-clause-after g c =
    let first = c.in-Ok.ensures in
    elim c.then-first-ne92.branch [
      | then-first-ne92-via-then-first-ne92 w ↦
          let other = w.if-first-ne92.true in
          rw (← c.loop-first.invariant, c.open_line-self.ensures, w.self-is, ← put_one first.answer first.after, not_backslash)
      | then-first-ne92-via-else-first-ne92+then-not-skip w ↦
          let skip = w.if-not-skip.ensures in
          let other = skip.answer in
          rw (← c.loop-first.invariant, c.open_line-self.ensures, w.self-is, skip.after, ← put_one first.answer first.after, no_newline)
    ]

pub loop-first-preserved : goal.loop-first-preserved
loop-first-preserved g c =
    let first = c.in-Ok.ensures in
    let skip = c.if-not-skip.ensures in
    let backslash = c.if-first-ne92.false in
    let newline = skip.answer in
    rw (← c.loop-first.invariant, skip.after, ← put_one first.answer first.after, gone)
