use Rattle.std.proofs.Common.{◌≡◌, false, suc, ◌+◌, true, cond, [], ◌++◌, length, reverse, sym, refl, ap, ◌∙◌, arith}
use Rattle.std.proofs.lemmas.Bool.{not-false}
use Rattle.std.proofs.lemmas.Result.{err_from_is_err_and}
use Rattle.std.specs.List.{slice_get}
use Rattle.std.specs.Option.{option_map}
use Rattle.text.specs.Faults.{fault_number}
use Rattle.token.specs.Tables.{referred}
use Rattle.token.specs.Views.{view_tokens}
use Rattle.definitions.specs.Blocks.{spellings}
use Rattle.replacement.specs.Replacing.{built}
use Rattle.item.specs.Tables.{held, shown}
use Rattle.source.specs.declared.Ending.TheVariants.{Fails}
use Rattle.replacement.specs.Items.{giving, whole, over}
use Rattle.replacement.specs.Laws.{expanding}
use Rattle.replacement.specs.Meaning.{items_of, end_of}
use Rattle.replacement.proofs.Turns.{levels_modest}
use Rattle.invocation.specs.Calls.{arguments_in}
use Rattle.invocation.specs.Fronts.{waiting}
use Rattle.operators.specs.Pieces.{pieces_of}
use Rattle.steps.specs.Contexts.{macros, file_of}
use Rattle.steps.specs.Handing.{handed_items, taken}
use Rattle.steps.specs.Steps.{State, Failing, behind}
use Rattle.expansion.specs.States.{waiting_in, arguments_of, expander, pieces_for}
use Rattle.expansion.proofs.Added.{table_within}
use Rattle.expansion.proofs.Building.{Ready, ready_other, ready_expanded, built_unexpanded, built_fault, built_more, built-limited, behind_one, behind_two, skipped}
use Rattle.expansion.proofs.Expanding.{not_over, waiting_few, falls_replaced, falls_handed, step_ended, step_handed, step_replaced, step_unplaced, step_failed, argument_ended, argument_failed, argument_over, more_handed}
use Rattle.expansion.proofs.Falling.{result_falls}
use Rattle.expansion.proofs.Substituting.{pieces_are, argument_same, added_same}
use Rattle.expansion.proofs.Turning.{prepend, from}
use Rattle.expansion.proofs.Results.{fewer, by_pieces, placed-before, not_placed}
use Rattle.expansion.proofs.build.+build_expand_argument_replace.Goals as goal
use Rattle.expansion.proofs.build.+build_expand_argument_replace.Goals.{build-in-Expanded+in_ok-left, build-in_default-part}

pub replace-returns-in-Ok : goal.replace-returns-in-Ok
replace-returns-in-Ok t c =
    let ms = macros c.args.context in
    let e = expander c.args.context c.args.below.now in
    let args = arguments_of c.args.context c.args.level.now in
    let m = slice_get ms c.args.call.slot in
    let given = c.in_ok-left.ensures.pieces in
    let h = c.in-Ok.ensures ms in
    record {
      result = λ next run. placed-before ms c.args.call next (waiting_in c.args.context c.args.level.now) run _ (pieces_for e args c.args.call c.args.left m) (by_pieces ms c.args.call e args c.args.left m) (pieces_of ms (held c.build.new.level.pieces)) _ given _ _ (ap (λ x. items_of ms (waiting x)) c.in_ok-left.ensures.same) h.0 h.1 h.2;
      fewer = omega (arith, fewer e (levels_modest ms (file_of c.args.context) (length c.args.below.now)) args c.args.call c.args.left m, ap (λ o. o.left) given);
    }

pub replace-returns-in-Err : goal.replace-returns-in-Err
replace-returns-in-Err t c =
    let ms = macros c.args.context in
    let e = expander c.args.context c.args.below.now in
    let args = arguments_of c.args.context c.args.level.now in
    let m = slice_get ms c.args.call.slot in
    let given = c.in_ok-left.ensures.pieces in
    record {
      result = λ next run.
          let h = not_placed ms c.args.call next (waiting_in c.args.context c.args.level.now) run _ (pieces_for e args c.args.call c.args.left m) (by_pieces ms c.args.call e args c.args.left m) (pieces_of ms (held c.build.new.level.pieces)) _ given _ (items_of ms (waiting c.place_result.new.w)) (ap (λ x. items_of ms (waiting x)) c.in_ok-left.ensures.same) c.in-Err.kind (c.in-Err.ensures ms) in
          (h.0, h.1 ∙ ap (λ f. end_of (Fails f)) (sym c.at.ensures));
      fewer = tt;
    }

pub expand_argument-returns-in_err-prepare : goal.expand_argument-returns-in_err-prepare
expand_argument-returns-in_err-prepare t c =
    let ms = macros c.args.context in
    let file = file_of c.args.context in
    let n = length c.in-Some.below.now in
    let s : State = record { left = c.loop-handed.left; w = waiting c.loop-handed.level.w; run = shown c.loop-handed.run.items } in
    let u : State = record { left = c.prepare.new.left; w = waiting c.prepare.new.w; run = shown c.prepare.new.run.items } in
    let p = err_from_is_err_and c.from_residual.result c.from_residual.ensures.1 in
    let f = c.in_err-prepare.field-0.0 in
    let fails : Failing (from ms file n whole s) f = step_failed ms file n whole s u (arguments_in ms c.prepare.new.arguments) f c.in_err-prepare.ensures.step in
    let deep : length c.args.scratch.now ≡ suc n = omega (arith, c.in-Some.ensures.cases.1) in
    rw (p.1, p.2)
    (argument_failed ms file n (length c.args.scratch.now) c.args.line c.args.left (waiting c.clear.new.self) (shown c.args.argument) (items_of ms (held c.loop-handed.to)) s deep (ap reverse c.clear.ensures) c.loop-handed.invariant.0 f (not_over ms c.loop-handed.to) fails)

pub expand_argument-returns-in-End : goal.expand_argument-returns-in-End
expand_argument-returns-in-End t c =
    let ms = macros c.args.context in
    let file = file_of c.args.context in
    let n = length c.in-Some.below.now in
    let s : State = record { left = c.loop-handed.left; w = waiting c.loop-handed.level.w; run = shown c.loop-handed.run.items } in
    let u : State = record { left = c.prepare.new.left; w = waiting c.prepare.new.w; run = shown c.prepare.new.run.items } in
    let deep : length c.args.scratch.now ≡ suc n = omega (arith, c.in-Some.ensures.cases.1) in
    argument_ended ms file n (length c.args.scratch.now) c.args.line c.args.left (waiting c.clear.new.self) (shown c.args.argument) (items_of ms (held c.loop-handed.to)) s deep (ap reverse c.clear.ensures) c.loop-handed.invariant.0 c.prepare.new.left (not_over ms c.loop-handed.to) (step_ended ms file n whole s u (arguments_in ms c.prepare.new.arguments) c.in_ok-prepare.field-0 c.in_ok-prepare.ensures.step c.in-End.is)

pub expand_argument-returns-then-is_err : goal.expand_argument-returns-then-is_err
expand_argument-returns-then-is_err t c =
    let ms = macros c.args.context in
    let file = file_of c.args.context in
    let n = length c.in-Some.below.now in
    let s : State = record { left = c.loop-handed.left; w = waiting c.loop-handed.level.w; run = shown c.loop-handed.run.items } in
    let u : State = record { left = c.prepare.new.left; w = waiting c.prepare.new.w; run = shown c.prepare.new.run.items } in
    let h = c.in-Hand.handed in
    let is = handed_items ms file (u.w ++ u.run) h in
    let deep : length c.args.scratch.now ≡ suc n = omega (arith, c.in-Some.ensures.cases.1) in
    let big : over (items_of ms (held c.loop-handed.to) ++ is) ≡ true = not-false _ (sym c.hand_on-pushed.ensures.room ∙ c.if-is_err.ensures.negation) in
    let v : State = behind u (taken h) u.left in
    let steps = step_handed ms file n whole s u (arguments_in ms c.prepare.new.arguments) c.in_ok-prepare.field-0 h v.w v.run c.in_ok-prepare.ensures.step c.in-Hand.is (record { first = refl; then = refl }) in
    argument_over ms file n (length c.args.scratch.now) c.args.line c.args.left (waiting c.clear.new.self) (shown c.args.argument) (items_of ms (held c.loop-handed.to)) s deep (ap reverse c.clear.ensures) c.loop-handed.invariant.0 is v steps big ∙ ap (λ f. end_of (Fails f)) (sym c.at-then-is_err.ensures)

pub expand_argument-loop-handed-preserved-else-is_err : goal.expand_argument-loop-handed-preserved-else-is_err
expand_argument-loop-handed-preserved-else-is_err t c =
    let ms = macros c.args.context in
    let file = file_of c.args.context in
    let n = length c.in-Some.below.now in
    let s : State = record { left = c.loop-handed.left; w = waiting c.loop-handed.level.w; run = shown c.loop-handed.run.items } in
    let u : State = record { left = c.prepare.new.left; w = waiting c.prepare.new.w; run = shown c.prepare.new.run.items } in
    let h = c.in-Hand.handed in
    let is = handed_items ms file (u.w ++ u.run) h in
    let drops = c.hand_on-pushed.ensures.dropped c.if-is_err.ensures.negation in
    let v : State = record { left = u.left; w = waiting c.hand_on-pushed.new.w; run = shown c.hand_on-pushed.new.run.items } in
    let steps = step_handed ms file n whole s u (arguments_in ms c.prepare.new.arguments) c.in_ok-prepare.field-0 h v.w v.run c.in_ok-prepare.ensures.step c.in-Hand.is drops in
    let moves : items_of ms (held c.hand_on-pushed.new.to) ≡ items_of ms (held c.loop-handed.to) ++ is = c.hand_on-pushed.ensures.moved ∙ ap (λ b. items_of ms (held c.loop-handed.to) ++ cond b is []) c.if-is_err.ensures.negation in
    (more_handed ms file n whole _ (items_of ms (held c.loop-handed.to)) is (items_of ms (held c.hand_on-pushed.new.to)) s v c.loop-handed.invariant.0 steps moves, omega (arith, c.loop-handed.invariant.1, falls_handed s u c.in_ok-prepare.field-0 h v.w v.run c.in_ok-prepare.ensures.falls c.in-Hand.is drops), c.loop-handed.invariant.2)

pub expand_argument-returns-in_err-left-in-Replace : goal.expand_argument-returns-in_err-left-in-Replace
expand_argument-returns-in_err-left-in-Replace t c =
    let ms = macros c.args.context in
    let file = file_of c.args.context in
    let n = length c.in-Some.below.now in
    let s : State = record { left = c.loop-handed.left; w = waiting c.loop-handed.level.w; run = shown c.loop-handed.run.items } in
    let u : State = record { left = c.prepare.new.left; w = waiting c.prepare.new.w; run = shown c.prepare.new.run.items } in
    let p = err_from_is_err_and c.from_residual-in_err-left-in-Replace.result c.from_residual-in_err-left-in-Replace.ensures.1 in
    let f = c.in_err-left-in-Replace.field-0.0 in
    let deep : length c.args.scratch.now ≡ suc n = omega (arith, c.in-Some.ensures.cases.1) in
    let fails : Failing (from ms file n whole s) f = step_unplaced ms file n whole s u (arguments_in ms c.prepare.new.arguments) c.in_ok-prepare.field-0 c.in-Replace.call (length c.loop-handed.below) f c.in_ok-prepare.ensures.step c.in-Replace.is c.loop-handed.invariant.2 (c.in_err-left-in-Replace.ensures.result (expanding ms file n whole) (items_of ms u.run)) in
    rw (p.1, p.2)
    (argument_failed ms file n (length c.args.scratch.now) c.args.line c.args.left (waiting c.clear.new.self) (shown c.args.argument) (items_of ms (held c.loop-handed.to)) s deep (ap reverse c.clear.ensures) c.loop-handed.invariant.0 f (not_over ms c.loop-handed.to) fails)

pub expand_argument-loop-handed-smaller : goal.expand_argument-loop-handed-smaller
expand_argument-loop-handed-smaller t c =
    let s : State = record { left = c.loop-handed.left; w = waiting c.loop-handed.level.w; run = shown c.loop-handed.run.items } in
    let u : State = record { left = c.prepare.new.left; w = waiting c.prepare.new.w; run = shown c.prepare.new.run.items } in
    let falls = falls_replaced s u c.in_ok-prepare.field-0 c.in-Replace.call c.in_ok-prepare.ensures.falls c.in-Replace.is in
    result_falls (length (shown c.args.argument)) c.loop-handed.left c.prepare.new.left c.in_ok-left-in-Replace.left (length (waiting c.replace.new.level.w)) (length (shown c.prepare.new.run.items)) (length (waiting c.loop-handed.level.w) + length (shown c.loop-handed.run.items)) c.in_ok-left-in-Replace.ensures.fewer falls.0 (waiting_few c.replace.new.level.w) (omega (arith, falls.1, c.loop-handed.invariant.1))

pub expand_argument-loop-handed-preserved : goal.expand_argument-loop-handed-preserved
expand_argument-loop-handed-preserved t c =
    let ms = macros c.args.context in
    let file = file_of c.args.context in
    let n = length c.in-Some.below.now in
    let s : State = record { left = c.loop-handed.left; w = waiting c.loop-handed.level.w; run = shown c.loop-handed.run.items } in
    let u : State = record { left = c.prepare.new.left; w = waiting c.prepare.new.w; run = shown c.prepare.new.run.items } in
    let steps = step_replaced ms file n whole s u (arguments_in ms c.prepare.new.arguments) c.in_ok-prepare.field-0 c.in-Replace.call (length c.loop-handed.below) c.in_ok-left-in-Replace.left (waiting c.replace.new.level.w) c.in_ok-prepare.ensures.step c.in-Replace.is c.loop-handed.invariant.2 (c.in_ok-left-in-Replace.ensures.result (expanding ms file n whole) (items_of ms u.run)) in
    let falls = falls_replaced s u c.in_ok-prepare.field-0 c.in-Replace.call c.in_ok-prepare.ensures.falls c.in-Replace.is in
    (c.loop-handed.invariant.0 ∙ ap (prepend (items_of ms (held c.loop-handed.to))) steps, omega (arith, falls.1, c.loop-handed.invariant.1), omega (arith, c.replace.auto.below, c.loop-handed.invariant.2))

pub build-returns-in_err-left-clause-pieces : goal.build-returns-in_err-left-clause-pieces
build-returns-in_err-left-clause-pieces t c =
    let ms = macros c.args.context in
    let file = file_of c.args.context in
    let line = c.args.call.name.line in
    let e = expander c.args.context c.args.below.now in
    let args = arguments_of c.args.context c.args.level.now in
    let d = c.in-Some.definition in
    let ps = option_map (λ v. spellings (view_tokens v)) d.parameters in
    let b = built e line ps args false c.args.left (view_tokens d.list) in
    let qs = pieces_of ms (held c.loop-token.level.pieces) in
    let inv = c.loop-token.invariant in
    let token = referred c.in-Some-next.token in
    let u = option_map referred c.get.result in
    let steps = c.in-Some-next.ensures.steps in
    let here = ap (λ l. slice_get l 0) (sym steps) in
    let beside = c.get.ensures ∙ ap (λ l. slice_get l 1) (sym steps) in
    let all : c.len.result ≡ length args = c.len.ensures ms ∙ ap (λ a. length (arguments_in ms a)) inv.3 in
    let k = c.in-Expanded.index in
    let f = c.in_err-left.field-0.0 in
    let q = err_from_is_err_and c.from_residual.result c.from_residual.ensures.1 in
    let same = argument_same ms file (length c.loop-token.below) (length c.args.below.now) line c.loop-token.left k (items_of ms (shown c.get-in-Expanded.result)) args (arguments_in ms c.loop-token.level.arguments) inv.4 (c.get-in-Expanded.ensures ms) (ap (arguments_in ms) inv.3) in
    rw (q.1, q.2)
    (ap (λ o. o.ending) (pieces_are e args c.args.call c.args.left (slice_get ms c.args.call.slot) d c.in-Some.ensures) ∙ built_unexpanded e line ps args b qs c.loop-token.left (view_tokens c.loop-token.rest) c.loop-token.joins inv.0 token u c.len.result c.part_of-part.result here beside all c.part_of-part.ensures k (fault_number f.kind) f.line c.in-Expanded.is (table_within ms c.loop-token.level.pieces inv.1) (ap (λ o. o.ending) (sym same) ∙ c.in_err-left.ensures))

pub build-returns-in-Err-clause-pieces : goal.build-returns-in-Err-clause-pieces
build-returns-in-Err-clause-pieces g c =
    let ms = macros c.args.context in
    let file = file_of c.args.context in
    let line = c.args.call.name.line in
    let e = expander c.args.context c.args.below.now in
    let args = arguments_of c.args.context c.args.level.now in
    let d = c.in-Some.definition in
    let ps = option_map (λ v. spellings (view_tokens v)) d.parameters in
    let b = built e line ps args false c.args.left (view_tokens d.list) in
    let qs = pieces_of ms (held c.loop-token.level.pieces) in
    let inv = c.loop-token.invariant in
    let t = referred c.in-Some-next.token in
    let u = option_map referred c.get.result in
    let steps = c.in-Some-next.ensures.steps in
    let here = ap (λ l. slice_get l 0) (sym steps) in
    let beside = c.get.ensures ∙ ap (λ l. slice_get l 1) (sym steps) in
    let all : c.len.result ≡ length args = c.len.ensures ms ∙ ap (λ a. length (arguments_in ms a)) inv.3 in
    let p = c.match-part.part in
    let is = items_of ms (held c.match-part.level.expanded) in
    let is-part : p ≡ c.part_of-part.result = elim c.match-part.branch [ build-in-Expanded+in_ok-left w ↦ w.part-is ∙ sym w.in-Expanded.is | build-in_default-part w ↦ w.part-is ] in
    let ready : Ready e line args is c.loop-token.left c.match-part.left p = elim c.match-part.branch [
      | build-in-Expanded+in_ok-left w ↦ ready_expanded e line args is c.loop-token.left c.match-part.left p w.in-Expanded.index w.part-is (sym (argument_same ms file (length c.loop-token.below) (length c.args.below.now) line c.loop-token.left w.in-Expanded.index (items_of ms (shown w.get-in-Expanded.result)) args (arguments_in ms c.loop-token.level.arguments) inv.4 (w.get-in-Expanded.ensures ms) (ap (arguments_in ms) inv.3)) ∙ w.in_ok-left.ensures ∙ (λ j. giving (items_of ms (held ((sym w.level-is j).expanded))) (sym w.left-is j)))
      | build-in_default-part w ↦ ready_other e line args is c.loop-token.left c.match-part.left p (λ k h. w.in_default-part.not-Expanded k (sym w.part-is ∙ h)) w.left-is
    ] in
    let arguments : c.match-part.level.arguments ≡ c.loop-token.level.arguments = elim c.match-part.branch [ build-in-Expanded+in_ok-left w ↦ ap (λ l. l.arguments) w.level-is | build-in_default-part w ↦ ap (λ l. l.arguments) w.level-is ] in
    let pieces : c.match-part.level.pieces ≡ c.loop-token.level.pieces = elim c.match-part.branch [ build-in-Expanded+in_ok-left w ↦ ap (λ l. l.pieces) w.level-is | build-in_default-part w ↦ ap (λ l. l.pieces) w.level-is ] in
    let same = added_same line args (arguments_in ms c.match-part.level.arguments) is t p qs (pieces_of ms (held c.match-part.level.pieces)) c.match-part.left (ap (arguments_in ms) (arguments ∙ inv.3)) (ap (λ x. pieces_of ms (held x)) pieces) in
    let k = c.in-Err.kind in
    ap (λ o. o.ending) (pieces_are e args c.args.call c.args.left (slice_get ms c.args.call.slot) d c.in-Some.ensures) ∙ built_fault e line ps args b qs c.loop-token.left (view_tokens c.loop-token.rest) c.loop-token.joins inv.0 t u c.len.result p here beside all (is-part ∙ c.part_of-part.ensures) is c.match-part.left ready (fault_number k) line (ap (λ o. o.ending) same ∙ c.in-Err.ensures.added ms c.match-part.left) ∙ ap (λ f. end_of (Fails f)) (sym c.at.ensures)

pub build-loop-token-preserved-then-is_literal : goal.build-loop-token-preserved-then-is_literal
build-loop-token-preserved-then-is_literal g c =
    let ms = macros c.args.context in
    let file = file_of c.args.context in
    let line = c.args.call.name.line in
    let e = expander c.args.context c.args.below.now in
    let args = arguments_of c.args.context c.args.level.now in
    let d = c.in-Some.definition in
    let ps = option_map (λ v. spellings (view_tokens v)) d.parameters in
    let b = built e line ps args false c.args.left (view_tokens d.list) in
    let qs = pieces_of ms (held c.loop-token.level.pieces) in
    let inv = c.loop-token.invariant in
    let t = referred c.in-Some-next.token in
    let u = option_map referred c.get.result in
    let steps = c.in-Some-next.ensures.steps in
    let here = ap (λ l. slice_get l 0) (sym steps) in
    let beside = c.get.ensures ∙ ap (λ l. slice_get l 1) (sym steps) in
    let all : c.len.result ≡ length args = c.len.ensures ms ∙ ap (λ a. length (arguments_in ms a)) inv.3 in
    let p = c.match-part.part in
    let is = items_of ms (held c.match-part.level.expanded) in
    let is-part : p ≡ c.part_of-part.result = elim c.match-part.branch [ build-in-Expanded+in_ok-left w ↦ w.part-is ∙ sym w.in-Expanded.is | build-in_default-part w ↦ w.part-is ] in
    let ready : Ready e line args is c.loop-token.left c.match-part.left p = elim c.match-part.branch [
      | build-in-Expanded+in_ok-left w ↦ ready_expanded e line args is c.loop-token.left c.match-part.left p w.in-Expanded.index w.part-is (sym (argument_same ms file (length c.loop-token.below) (length c.args.below.now) line c.loop-token.left w.in-Expanded.index (items_of ms (shown w.get-in-Expanded.result)) args (arguments_in ms c.loop-token.level.arguments) inv.4 (w.get-in-Expanded.ensures ms) (ap (arguments_in ms) inv.3)) ∙ w.in_ok-left.ensures ∙ (λ j. giving (items_of ms (held ((sym w.level-is j).expanded))) (sym w.left-is j)))
      | build-in_default-part w ↦ ready_other e line args is c.loop-token.left c.match-part.left p (λ k h. w.in_default-part.not-Expanded k (sym w.part-is ∙ h)) w.left-is
    ] in
    let arguments : c.match-part.level.arguments ≡ c.loop-token.level.arguments = elim c.match-part.branch [ build-in-Expanded+in_ok-left w ↦ ap (λ l. l.arguments) w.level-is | build-in_default-part w ↦ ap (λ l. l.arguments) w.level-is ] in
    let pieces : c.match-part.level.pieces ≡ c.loop-token.level.pieces = elim c.match-part.branch [ build-in-Expanded+in_ok-left w ↦ ap (λ l. l.pieces) w.level-is | build-in_default-part w ↦ ap (λ l. l.pieces) w.level-is ] in
    let same = added_same line args (arguments_in ms c.match-part.level.arguments) is t p qs (pieces_of ms (held c.match-part.level.pieces)) c.match-part.left (ap (arguments_in ms) (arguments ∙ inv.3)) (ap (λ x. pieces_of ms (held x)) pieces) in
    let w : c.match-part.level.w ≡ c.loop-token.level.w = elim c.match-part.branch [ build-in-Expanded+in_ok-left w ↦ ap (λ l. l.w) w.level-is | build-in_default-part w ↦ ap (λ l. l.w) w.level-is ] in
    let rest = skipped _ c.next.new.self c.next-then-is_literal.new.self c.next-then-is_literal.ensures.steps ∙ behind_two p (view_tokens c.loop-token.rest) _ t steps (sym c.is_literal.ensures ∙ c.if-is_literal.true) in (
      built_more e line ps args b qs c.loop-token.left (view_tokens c.loop-token.rest) c.loop-token.joins inv.0 t u c.len.result p here beside all (is-part ∙ c.part_of-part.ensures) is c.match-part.left ready (pieces_of ms (held c.add_part.new.pieces)) c.is_join-joins.result (view_tokens c.next-then-is_literal.new.self) (same ∙ c.in_default-add_part.ensures.added ms c.match-part.left) c.is_join-joins.ensures rest,
      c.in_default-add_part.ensures.sized,
      w ∙ inv.2,
      arguments ∙ inv.3,
      c.match-part.auto.below ∙ inv.4,
    )

pub build-loop-token-preserved : goal.build-loop-token-preserved
build-loop-token-preserved g c =
    let ms = macros c.args.context in
    let file = file_of c.args.context in
    let line = c.args.call.name.line in
    let e = expander c.args.context c.args.below.now in
    let args = arguments_of c.args.context c.args.level.now in
    let d = c.in-Some.definition in
    let ps = option_map (λ v. spellings (view_tokens v)) d.parameters in
    let b = built e line ps args false c.args.left (view_tokens d.list) in
    let qs = pieces_of ms (held c.loop-token.level.pieces) in
    let inv = c.loop-token.invariant in
    let t = referred c.in-Some-next.token in
    let u = option_map referred c.get.result in
    let steps = c.in-Some-next.ensures.steps in
    let here = ap (λ l. slice_get l 0) (sym steps) in
    let beside = c.get.ensures ∙ ap (λ l. slice_get l 1) (sym steps) in
    let all : c.len.result ≡ length args = c.len.ensures ms ∙ ap (λ a. length (arguments_in ms a)) inv.3 in
    let p = c.match-part.part in
    let is = items_of ms (held c.match-part.level.expanded) in
    let is-part : p ≡ c.part_of-part.result = elim c.match-part.branch [ build-in-Expanded+in_ok-left w ↦ w.part-is ∙ sym w.in-Expanded.is | build-in_default-part w ↦ w.part-is ] in
    let ready : Ready e line args is c.loop-token.left c.match-part.left p = elim c.match-part.branch [
      | build-in-Expanded+in_ok-left w ↦ ready_expanded e line args is c.loop-token.left c.match-part.left p w.in-Expanded.index w.part-is (sym (argument_same ms file (length c.loop-token.below) (length c.args.below.now) line c.loop-token.left w.in-Expanded.index (items_of ms (shown w.get-in-Expanded.result)) args (arguments_in ms c.loop-token.level.arguments) inv.4 (w.get-in-Expanded.ensures ms) (ap (arguments_in ms) inv.3)) ∙ w.in_ok-left.ensures ∙ (λ j. giving (items_of ms (held ((sym w.level-is j).expanded))) (sym w.left-is j)))
      | build-in_default-part w ↦ ready_other e line args is c.loop-token.left c.match-part.left p (λ k h. w.in_default-part.not-Expanded k (sym w.part-is ∙ h)) w.left-is
    ] in
    let arguments : c.match-part.level.arguments ≡ c.loop-token.level.arguments = elim c.match-part.branch [ build-in-Expanded+in_ok-left w ↦ ap (λ l. l.arguments) w.level-is | build-in_default-part w ↦ ap (λ l. l.arguments) w.level-is ] in
    let pieces : c.match-part.level.pieces ≡ c.loop-token.level.pieces = elim c.match-part.branch [ build-in-Expanded+in_ok-left w ↦ ap (λ l. l.pieces) w.level-is | build-in_default-part w ↦ ap (λ l. l.pieces) w.level-is ] in
    let same = added_same line args (arguments_in ms c.match-part.level.arguments) is t p qs (pieces_of ms (held c.match-part.level.pieces)) c.match-part.left (ap (arguments_in ms) (arguments ∙ inv.3)) (ap (λ x. pieces_of ms (held x)) pieces) in
    let w : c.match-part.level.w ≡ c.loop-token.level.w = elim c.match-part.branch [ build-in-Expanded+in_ok-left w ↦ ap (λ l. l.w) w.level-is | build-in_default-part w ↦ ap (λ l. l.w) w.level-is ] in
    let rest = behind_one p (view_tokens c.loop-token.rest) _ t steps (sym c.is_literal.ensures ∙ c.if-is_literal.false) in (
      built_more e line ps args b qs c.loop-token.left (view_tokens c.loop-token.rest) c.loop-token.joins inv.0 t u c.len.result p here beside all (is-part ∙ c.part_of-part.ensures) is c.match-part.left ready (pieces_of ms (held c.add_part.new.pieces)) c.is_join-joins.result (view_tokens c.next.new.self) (same ∙ c.in_default-add_part.ensures.added ms c.match-part.left) c.is_join-joins.ensures rest,
      c.in_default-add_part.ensures.sized,
      w ∙ inv.2,
      arguments ∙ inv.3,
      c.match-part.auto.below ∙ inv.4,
    )

pub build-returns-clause-pieces : goal.build-returns-clause-pieces
build-returns-clause-pieces t c =
    let ms = macros c.args.context in
    let file = file_of c.args.context in
    let line = c.args.call.name.line in
    let e = expander c.args.context c.args.below.now in
    let args = arguments_of c.args.context c.args.level.now in
    let d = c.in-Some.definition in
    let ps = option_map (λ v. spellings (view_tokens v)) d.parameters in
    let b = built e line ps args false c.args.left (view_tokens d.list) in
    let qs = pieces_of ms (held c.loop-token.level.pieces) in
    let inv = c.loop-token.invariant in
    pieces_are e args c.args.call c.args.left (slice_get ms c.args.call.slot) d c.in-Some.ensures ∙ built-limited e line ps args b qs c.loop-token.left (view_tokens c.loop-token.rest) c.loop-token.joins inv.0 (ap (λ l. slice_get l 0) (sym c.in_default-next.ensures.steps.0)) (table_within ms c.loop-token.level.pieces inv.1)
