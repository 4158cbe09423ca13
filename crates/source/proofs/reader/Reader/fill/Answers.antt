use Rattle.std.proofs.Common.{refl, sym, ◌∙◌, arith}
use Rattle.std.proofs.lemmas.Bool.{eq-eqb, ne_eqb}
use Rattle.std.proofs.lemmas.List.{length_push}
use Rattle.std.proofs.lemmas.Result.{err_from_is_err_and}
use Rattle.source.proofs.Cutting.{newline, more, limit, onto_line, onto-stop, onto-push, first_line-push, first_line_at}
use Rattle.source.proofs.Streams.{put_one}
use Rattle.source.proofs.reader.Reader.fill.Goals as goal

pub returns-in_err-placed-clause-answer : goal.returns-in_err-placed-clause-answer
returns-in_err-placed-clause-answer g c =
    let end = c.in_err-placed.ensures in
    let p = err_from_is_err_and c.from_residual.result c.from_residual.ensures.1 in
    rw (p.1, p.2, ← c.loop-placed.invariant.1, ← put_one end.answer end.after, onto-stop)

pub returns-in_err-placed-clause-after : goal.returns-in_err-placed-clause-after
returns-in_err-placed-clause-after g c =
    let l = c.loop-placed in
    let end = c.in_err-placed.ensures in
    rw (← l.invariant.1, l.invariant.0, end.after, ← put_one end.answer end.after, onto-stop)

pub returns-then-placed-eq10 : goal.returns-then-placed-eq10
returns-then-placed-eq10 g c =
    let l = c.loop-placed in
    let first = c.in_ok-placed.ensures in
    let ends = eq-eqb _ 10 c.if-placed-eq10.true in
    rw (← l.invariant.1, l.invariant.0, ← put_one first.answer first.after, newline, onto_line) (record { answer = refl; bytes = refl; after = refl })

pub returns-then-is_err : goal.returns-then-is_err
returns-then-is_err g c =
    let l = c.loop-placed in
    let first = c.in_ok-placed.ensures in
    let other = ne_eqb _ 10 c.if-placed-eq10.false in
    let full = sym c.push.ensures.room ∙ c.if-is_err.ensures.negation in
    let same = rw c.if-is_err.ensures.negation at c.push.ensures.after in
    rw (← l.invariant.1, ← put_one first.answer first.after, limit, onto-stop, first_line_at, c.stop.ensures.answer, c.stop.ensures.after, c.at.ensures, c.lines.ensures.value, same)
    (record { answer = refl; bytes = tt; after = refl })

pub loop-placed-smaller : goal.loop-placed-smaller
loop-placed-smaller g c =
    let first = c.in_ok-placed.ensures in
    rw (← put_one first.answer first.after) (omega arith)

pub loop-placed-preserved : goal.loop-placed-preserved
loop-placed-preserved g c =
    let l = c.loop-placed in
    let first = c.in_ok-placed.ensures in
    let other = ne_eqb _ 10 c.if-placed-eq10.false in
    let room = sym c.push.ensures.room ∙ c.if-is_err.ensures.negation in
    let pushed = rw c.if-is_err.ensures.negation at c.push.ensures.after in
    (l.invariant.0, rw (← l.invariant.1, pushed, length_push, first_line-push, onto-push, ← put_one first.answer first.after, more))
