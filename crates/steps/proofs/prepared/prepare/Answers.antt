use Rattle.std.proofs.Common.{◌++◌, sym, refl, ap, ◌∙◌}
use Rattle.std.specs.List.{slice_get}
use Rattle.definitions.proofs.Stored.{slot-within}
use Rattle.invocation.specs.Calls.{arguments_in}
use Rattle.invocation.specs.Fronts.{bracket, waiting}
use Rattle.replacement.specs.Meaning.{end_of}
use Rattle.steps.specs.Contexts.{macros, file_of}
use Rattle.steps.proofs.Leading.{dropped_from, dropped_to}
use Rattle.steps.proofs.Preparing.{prepared_plain, falling_plain, prepared_built_in, falling_built_in, prepared_object, falling_object, prepared_name, falling_name, prepared_call, falling_call}
use Rattle.steps.proofs.Stepping.{fronted}
use Rattle.steps.proofs.prepared.prepare.Goals as goal

pub returns-in-End : goal.returns-in-End
returns-in-End g c =
    let ms = macros c.args.context in
    let file = file_of c.args.context in
    let run = c.args.run.now in
    let end = end_of (g.R.Run.end run) in
    let w = waiting c.args.w.now in
    let first = c.in-End.ensures in
    record {
      step = (fronted ms file end (w ++ g.R.Run.rest run) _ first.answer, refl);
      falls = tt;
      same = first.same.1;
    }

pub returns-in-Plain : goal.returns-in-Plain
returns-in-Plain g c =
    let ms = macros c.args.context in
    let file = file_of c.args.context in
    let run = c.args.run.now in
    let rest = g.R.Run.rest run in
    let end = end_of (g.R.Run.end run) in
    let w = waiting c.args.w.now in
    let first = c.in-Plain.ensures in
    let front = fronted ms file end (w ++ rest) _ first.answer in
    record {
      step = prepared_plain ms file end (arguments_in ms c.args.arguments.now) c.args.left.now w rest (g.R.Run.rest c.front_class.new.run) first.same.0 front;
      falls = falling_plain ms file end (arguments_in ms c.args.arguments.now) c.args.left.now w rest (g.R.Run.rest c.front_class.new.run) first.same.0 front;
      same = first.same.1;
    }

pub returns-in-BuiltIn : goal.returns-in-BuiltIn
returns-in-BuiltIn g c =
    let ms = macros c.args.context in
    let file = file_of c.args.context in
    let run = c.args.run.now in
    let rest = g.R.Run.rest run in
    let end = end_of (g.R.Run.end run) in
    let w = waiting c.args.w.now in
    let first = c.in-BuiltIn.ensures in
    let front = fronted ms file end (w ++ rest) _ first.answer in
    let args = arguments_in ms c.args.arguments.now in
    let dropped = dropped_from 1 w rest _ _ _ first.same.0 c.drop_front.ensures.dropped in
    let counted = c.counted.ensures in
    record {
      step = prepared_built_in ms file end args c.args.left.now w rest _ _ dropped c.in-BuiltIn.built_in c.in-BuiltIn.name front c.counted.new.left c.counted.result counted.answer counted.less;
      falls = falling_built_in ms file end args c.args.left.now w rest _ _ dropped c.in-BuiltIn.built_in c.in-BuiltIn.name front c.counted.new.left c.counted.result counted.answer counted.less;
      same = c.drop_front.ensures.same ∙ first.same.1;
    }

pub returns-in-Object : goal.returns-in-Object
returns-in-Object g c =
    let ms = macros c.args.context in
    let file = file_of c.args.context in
    let run = c.args.run.now in
    let rest = g.R.Run.rest run in
    let end = end_of (g.R.Run.end run) in
    let w = waiting c.args.w.now in
    let first = c.in-Object.ensures in
    let front = fronted ms file end (w ++ rest) _ first.answer in
    let args = arguments_in ms c.args.arguments.now in
    let dropped = dropped_from 1 w rest _ _ _ first.same.0 c.drop_front-in-Object.ensures.dropped in
    let counted = c.counted-in-Object in
    let call = c.call_of-call in
    let within = slot-within c.args.context.definitions.now.force front.x.token.spelling c.in-Object.slot front.named.slot in
    record {
      step = prepared_object ms file end args c.args.left.now w rest _ _ dropped c.in-Object.slot c.in-Object.name front call.result counted.new.left counted.result counted.ensures.answer counted.ensures.less within call.ensures.place call.ensures.hides;
      falls = falling_object ms file end args c.args.left.now w rest _ _ dropped c.in-Object.slot c.in-Object.name front call.result counted.new.left counted.result counted.ensures.answer counted.ensures.less;
      same = c.drop_front-in-Object.ensures.same ∙ first.same.1;
    }

pub returns-else-is_called : goal.returns-else-is_called
returns-else-is_called g c =
    let ms = macros c.args.context in
    let file = file_of c.args.context in
    let run = c.args.run.now in
    let rest = g.R.Run.rest run in
    let end = end_of (g.R.Run.end run) in
    let w = waiting c.args.w.now in
    let first = c.in-Function.ensures in
    let front = fronted ms file end (w ++ rest) _ first.answer in
    let args = arguments_in ms c.args.arguments.now in
    let behind = c.front_bracket.ensures in
    let w₁ = waiting c.drop_front-in-Function.new.w in
    let dropped = dropped_to 1 w rest w₁ _ _ behind.same.0 (dropped_from 1 w rest _ _ _ first.same.0 c.drop_front-in-Function.ensures.dropped) in
    let answer = behind.answer ∙ ap (λ r. bracket (slice_get (w₁ ++ r) 0)) (sym behind.same.0) in
    record {
      step = prepared_name ms file end args c.args.left.now w rest w₁ _ dropped c.in-Function.slot c.in-Function.name front c.front_bracket.result answer c.if-is_called.ensures;
      falls = falling_name ms file end args c.args.left.now w rest w₁ _ dropped c.in-Function.slot c.in-Function.name front c.front_bracket.result answer;
      same = behind.same.1 ∙ c.drop_front-in-Function.ensures.same ∙ first.same.1;
    }

pub returns-then-is_called : goal.returns-then-is_called
returns-then-is_called g c =
    let ms = macros c.args.context in
    let file = file_of c.args.context in
    let run = c.args.run.now in
    let rest = g.R.Run.rest run in
    let end = end_of (g.R.Run.end run) in
    let w = waiting c.args.w.now in
    let first = c.in-Function.ensures in
    let front = fronted ms file end (w ++ rest) _ first.answer in
    let call = c.prepare_call in
    let args = arguments_in ms call.new.arguments in
    let behind = c.front_bracket.ensures in
    let w₁ = waiting c.drop_front-in-Function.new.w in
    let dropped = dropped_to 1 w rest w₁ _ _ behind.same.0 (dropped_from 1 w rest _ _ _ first.same.0 c.drop_front-in-Function.ensures.dropped) in
    let answer = behind.answer ∙ ap (λ r. bracket (slice_get (w₁ ++ r) 0)) (sym behind.same.0) in
    let same = c.drop_front-then-is_called.ensures.same ∙ behind.same.1 ∙ c.drop_front-in-Function.ensures.same ∙ first.same.1 in
    record {
      step = prepared_call ms file end args c.args.left.now w rest w₁ _ dropped c.in-Function.slot c.in-Function.name front c.front_bracket.result answer _ _ c.drop_front-then-is_called.ensures.dropped _ call.result c.if-is_called.ensures _ (ap end_of same) call.ensures.step;
      falls = falling_call ms file end args c.args.left.now w rest w₁ _ dropped c.in-Function.slot c.in-Function.name front c.front_bracket.result answer _ _ c.drop_front-then-is_called.ensures.dropped _ call.result call.ensures.falls;
      same = call.ensures.same ∙ same;
    }
