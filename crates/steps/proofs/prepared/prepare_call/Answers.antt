use Rattle.std.proofs.Common.{ap, ◌∙◌, rules}
use Rattle.definitions.proofs.Stored.{slot-within}
use Rattle.invocation.specs.Calls.{inside, arguments_in}
use Rattle.invocation.specs.Fronts.{waiting}
use Rattle.invocation.proofs.Held.{fits}
use Rattle.steps.specs.Calling.{fault_at, open_fault}
use Rattle.steps.specs.Contexts.{macros}
use Rattle.steps.proofs.Called.{calling_open, calling_count, calling_closed}
use Rattle.steps.proofs.prepared.prepare_call.Goals as goal

pub returns-in-Err-Open-clause-step : goal.returns-in-Err-Open-clause-step
returns-in-Err-Open-clause-step g c =
    let ms = macros c.args.context in
    let run = c.args.run.now in
    let all = c.gather.new.self in
    let gathered = c.in-Err-Open.ensures in
    calling_open ms (g.R.Run.end run) c.args.slot c.args.name c.args.left.now (waiting c.args.w.now) (g.R.Run.rest run) _ _ (inside all) (fits all.inside) gathered.dropped (arguments_in ms all) c.open_fault.result (rw c.in-Err-Open.field-0-is at (gathered.gathered ms)) (c.open_fault.ensures ∙ ap (λ e. open_fault e c.args.name.line) (c.ending.ensures ∙ gathered.same))

pub returns-in-Err-Full-clause-step : goal.returns-in-Err-Full-clause-step
returns-in-Err-Full-clause-step g c =
    let full = rw c.in-Err-Full.field-0-is at (c.in-Err-Full.ensures.gathered (macros c.args.context)) in search rules

pub returns-in-Err-clause-step : goal.returns-in-Err-clause-step
returns-in-Err-clause-step g c =
    let ms = macros c.args.context in
    let run = c.args.run.now in
    let all = c.gather.new.self in
    let gathered = c.in-Ok.ensures in
    calling_count ms (g.R.Run.end run) c.args.slot c.args.name c.args.left.now (waiting c.args.w.now) (g.R.Run.rest run) _ _ (inside all) (fits all.inside) gathered.dropped c.in-Ok.close (gathered.gathered ms) _ _ c.drop_front.ensures.dropped (arguments_in ms c.part.new.arguments) c.at-in-Err.result c.in-Err.ensures.parts (c.at-in-Err.ensures ∙ ap (λ k. fault_at k c.args.name.line) c.in-Err.ensures.fault)

pub returns-in_default-clause-step : goal.returns-in_default-clause-step
returns-in_default-clause-step g c =
    let ms = macros c.args.context in
    let run = c.args.run.now in
    let w = waiting c.args.w.now in
    let rest = g.R.Run.rest run in
    let all = c.gather.new.self in
    let gathered = c.in-Ok.ensures in
    let call = c.call_of-call in
    calling_closed ms (g.R.Run.end run) c.args.slot c.args.name c.args.left.now w rest _ _ (inside all) (fits all.inside) gathered.dropped c.in-Ok.close (gathered.gathered ms) _ _ c.drop_front.ensures.dropped (arguments_in ms c.part.new.arguments) call.result c.counted.new.left c.counted.result c.hidden_by.result c.in_default.ensures.parts (λ v. slot-within c.args.context.definitions.now.force v c.args.slot) c.hidden_by.ensures call.ensures.place call.ensures.hides c.counted.ensures.answer c.counted.ensures.less
