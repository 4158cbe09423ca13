use Rattle.std.proofs.Common.{refl, ◌∙◌}
use Rattle.item.specs.Tables.{held}
use Rattle.invocation.specs.Fronts.{waiting}
use Rattle.steps.specs.Contexts.{macros, file_of}
use Rattle.steps.specs.Handing.{placed_at, built_in_kind, built_in_spelling}
use Rattle.steps.proofs.Pushed.{onto-placed, handed_front, handed_name, handed_built_in}
use Rattle.steps.proofs.hand.hand_on.Goals as goal

pub returns-in-Front : goal.returns-in-Front
returns-in-Front g c =
    let m = c.move_front.ensures in
    let h = handed_front (macros c.args.context) (file_of c.args.context) (held c.args.to.now) _ (waiting c.args.w.now) (g.R.Run.rest c.args.run.now) _ _ _ c.args.handed c.in-Front.is m.room m.moved m.dropped in
    record { room = h.0.room; moved = h.0.moved; dropped = h.1; same = m.same }

pub returns-in-Name : goal.returns-in-Name
returns-in-Name g c =
    let h = handed_name (macros c.args.context) (file_of c.args.context) (held c.args.to.now) _ (waiting c.args.w.now) (g.R.Run.rest c.args.run.now) _ _ _ c.args.handed c.in-Name.slot c.in-Name.name c.in-Name.is c.hand_name.ensures refl refl in
    record { room = h.0.room; moved = h.0.moved; dropped = h.1; same = refl }

pub returns-in-BuiltIn : goal.returns-in-BuiltIn
returns-in-BuiltIn g c =
    let ms = macros c.args.context in
    let file = file_of c.args.context in
    let to = held c.args.to.now in
    let b = c.in-BuiltIn.built_in in
    let n = c.in-BuiltIn.name in
    let pushed = c.push.ensures in
    let item = c.item_at.ensures ∙ (λ i. placed_at n (c.built_in_kind.ensures i) ((c.bytes.ensures ∙ c.write_built_in.ensures) i)) in
    let h = handed_built_in ms file to _ (waiting c.args.w.now) (g.R.Run.rest c.args.run.now) _ _ _ c.args.handed b n c.in-BuiltIn.is (onto-placed ms to _ n (built_in_kind b) (built_in_spelling file n.line b) _ _ item pushed.room pushed.tokens) refl refl in
    record { room = h.0.room; moved = h.0.moved; dropped = h.1; same = refl }
