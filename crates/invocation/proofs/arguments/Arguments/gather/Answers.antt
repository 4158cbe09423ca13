use Rattle.std.proofs.Common.{◌∙◌, arith}
use Rattle.std.proofs.lemmas.Result.{err_from_is_err_and}
use Rattle.item.specs.Tables.{held}
use Rattle.invocation.specs.Fronts.{waiting}
use Rattle.invocation.proofs.Held.{few}
use Rattle.invocation.proofs.Turning.{turn_ended, turn_full, turn_more, turn_less}
use Rattle.invocation.proofs.arguments.Arguments.gather.Goals as goal

pub returns-in-Some : goal.returns-in-Some
returns-in-Some g c =
    let inv = c.loop-ended.invariant in
    let front = c.front_bracket-bracket.ensures in
    let turn = turn_ended (waiting c.args.w.now) (g.R.Run.rest c.args.run.now) (held c.loop-ended.self.inside) c.loop-ended.depth (waiting c.loop-ended.w) _ _ _ front.same.0 front.answer inv.0 inv.1 c.in-Some.ended c.in-Some.ensures in
    record { gathered = turn.0; dropped = turn.1; same = front.same.1 ∙ inv.2 }

pub returns-in_err-move_front : goal.returns-in_err-move_front
returns-in_err-move_front g c =
    let p = err_from_is_err_and c.from_residual.result c.from_residual.ensures.1 in
    let inv = c.loop-ended.invariant in
    let front = c.front_bracket-bracket.ensures in
    let moved = c.in_err-move_front.ensures in
    let turn = turn_full (waiting c.args.w.now) (g.R.Run.rest c.args.run.now) (held c.loop-ended.self.inside) c.loop-ended.depth (waiting c.loop-ended.w) _ _ _ front.same.0 front.answer inv.0 inv.1 c.in_default.ensures _ _ _ moved.room moved.moved moved.dropped in
    rw (p.1, p.2) (record { gathered = turn.0; dropped = turn.1; same = moved.same ∙ front.same.1 ∙ inv.2 })

pub depth_behind-depth-requires : goal.depth_behind-depth-requires
depth_behind-depth-requires g c = omega (arith, few c.loop-ended.self.inside)

pub loop-ended-preserved : goal.loop-ended-preserved
loop-ended-preserved g c =
    let inv = c.loop-ended.invariant in
    let front = c.front_bracket-bracket.ensures in
    let moved = c.in_ok-move_front.ensures in
    let turn = turn_more (waiting c.args.w.now) (g.R.Run.rest c.args.run.now) (held c.loop-ended.self.inside) c.loop-ended.depth (waiting c.loop-ended.w) _ _ _ front.same.0 front.answer inv.0 inv.1 c.in_default.ensures _ _ _ _ moved.moved moved.dropped c.depth_behind-depth.ensures inv.3 in
    (turn.0, turn.1, moved.same ∙ front.same.1 ∙ inv.2, turn.2)

pub loop-ended-smaller : goal.loop-ended-smaller
loop-ended-smaller g c =
    let inv = c.loop-ended.invariant in
    let front = c.front_bracket-bracket.ensures in
    turn_less (waiting c.args.w.now) (g.R.Run.rest c.args.run.now) (held c.loop-ended.self.inside) c.loop-ended.depth (waiting c.loop-ended.w) _ _ _ front.same.0 front.answer inv.0 inv.1 c.in_default.ensures (held c.move_front.new.to) _ _ c.in_ok-move_front.ensures.dropped
