use Rattle.std.proofs.Common.{◌≡◌, ◌+◌, length, is_ok, Ok, Err, subst, sym, refl, ap, ◌∙◌, arith}
use Rattle.std.proofs.lemmas.Result.{err_from_is_err_and}
use Rattle.item.specs.Tables.{held}
use Rattle.replacement.specs.Meaning.{end_of}
use Rattle.invocation.specs.Calls.{arguments_in}
use Rattle.invocation.specs.Fronts.{waiting}
use Rattle.steps.specs.Contexts.{macros, file_of}
use Rattle.steps.specs.Steps.{State, Preparing}
use Rattle.expansion.specs.States.{state_of}
use Rattle.expansion.proofs.Advanced.{Stepped, ends_run, fails_run, fails_before, goes_before, hands_on, goes_on, too_long_run}
use Rattle.expansion.proofs.Expanding.{size_handed, waiting_few, falls_replaced, falls_handed}
use Rattle.expansion.proofs.Falling.{hand_falls, result_falls}
use Rattle.expansion.proofs.expansion.Expansion.next.Given.{Over}
use Rattle.expansion.proofs.expansion.Expansion.next.Goals as goal
use Rattle.expansion.proofs.expansion.Expansion.next.Goals.{In_ok-prepare}

-- the step that has been prepared
abbrev stepped : (g : Over) (c : In_ok-prepare g) → Stepped (macros c.args.context) (file_of c.args.context) (end_of (g.R.Run.end c.args.run.now)) (state_of c.args.self.now (g.R.Run.rest c.args.run.now))
stepped g c =
    let ms = macros c.args.context in
    let s = state_of c.loop-run.self (g.R.Run.rest c.loop-run.run) in
    let u : State = record { left = c.prepare.new.left; w = waiting c.prepare.new.w; run = g.R.Run.rest c.prepare.new.run } in
    let args = arguments_in ms c.prepare.new.arguments in
    record {
      s = s;
      u = u;
      args = args;
      p = c.in_ok-prepare.field-0;
      same = c.loop-run.invariant.0;
      step = subst (λ e. Preparing ms (file_of c.args.context) (end_of e) s u args (Ok c.in_ok-prepare.field-0)) c.loop-run.invariant.2 c.in_ok-prepare.ensures.step;
    }

pub returns-in_err-prepare-clause-answer : goal.returns-in_err-prepare-clause-answer
returns-in_err-prepare-clause-answer g c =
    let ms = macros c.args.context in
    let file = file_of c.args.context in
    let s = state_of c.loop-run.self (g.R.Run.rest c.loop-run.run) in
    let u : State = record { left = c.prepare.new.left; w = waiting c.prepare.new.w; run = g.R.Run.rest c.prepare.new.run } in
    let args = arguments_in ms c.prepare.new.arguments in
    let q = err_from_is_err_and c.from_residual.result c.from_residual.ensures.1 in
    let f = c.in_err-prepare.field-0.0 in
    let step = subst (λ e. Preparing ms file (end_of e) s u args (Err f)) c.loop-run.invariant.2 c.in_err-prepare.ensures.step in
    rw (q.1, q.2)
    (fails_run ms file (end_of (g.R.Run.end c.args.run.now)) (state_of c.args.self.now (g.R.Run.rest c.args.run.now)) s u args c.loop-run.invariant.0 f step u (held c.loop-run.self.handed))

pub returns-in-End-clause-answer : goal.returns-in-End-clause-answer
returns-in-End-clause-answer g c =
    let r = stepped g (goal.at.returns-in-End-clause-answer g c).In_ok-prepare in
    ends_run r c.in-End.is c.ending.result (ap end_of (sym (c.ending.ensures ∙ c.in_ok-prepare.ensures.same ∙ c.loop-run.invariant.2))) r.u (held c.loop-run.self.handed) refl

pub returns-then-holds_token-clause-answer : goal.returns-then-holds_token-clause-answer
returns-then-holds_token-clause-answer g c =
    let r = stepped g (goal.at.returns-then-holds_token-clause-answer g c).In_ok-prepare in
    let fits = c.hand_on-pushed in
    let yes = c.if-is_err.ensures.negation in
    hands_on r c.in-Hand.handed c.in-Hand.is (held c.loop-run.self.handed) c.loop-run.invariant.1 (is_ok fits.result) (held fits.new.to) (waiting fits.new.w) (g.R.Run.rest fits.new.run) c.holds_token.result fits.ensures.moved yes (fits.ensures.dropped yes) c.holds_token.ensures c.if-holds_token.true

pub loop-run-smaller-else-holds_token : goal.loop-run-smaller-else-holds_token
loop-run-smaller-else-holds_token g c =
    let r = stepped g (goal.at.loop-run-smaller-else-holds_token g c).In_ok-prepare in
    let fits = c.hand_on-pushed in
    let falls = size_handed r.s r.u r.p c.in-Hand.handed (waiting fits.new.w) (g.R.Run.rest fits.new.run) c.in_ok-prepare.ensures.falls c.in-Hand.is (fits.ensures.dropped c.if-is_err.ensures.negation) in
    hand_falls (length (g.R.Run.rest c.args.run.now)) r.s.left r.u.left (length (waiting fits.new.w) + length (g.R.Run.rest fits.new.run)) (length r.s.w + length r.s.run) falls.0 falls.1

pub loop-run-preserved-else-holds_token : goal.loop-run-preserved-else-holds_token
loop-run-preserved-else-holds_token g c =
    let r = stepped g (goal.at.loop-run-preserved-else-holds_token g c).In_ok-prepare in
    let inv = c.loop-run.invariant in
    let h = c.in-Hand.handed in
    let fits = c.hand_on-pushed in
    let yes = c.if-is_err.ensures.negation in
    let drops = fits.ensures.dropped yes in
    let more = goes_on r h c.in-Hand.is (held c.loop-run.self.handed) inv.1 (is_ok fits.result) (held fits.new.to) (waiting fits.new.w) (g.R.Run.rest fits.new.run) c.holds_token.result fits.ensures.moved yes drops c.holds_token.ensures c.if-holds_token.false in
    (more.0, more.1, fits.ensures.same ∙ c.in_ok-prepare.ensures.same ∙ inv.2, omega (arith, inv.3, falls_handed r.s r.u r.p h (waiting fits.new.w) (g.R.Run.rest fits.new.run) c.in_ok-prepare.ensures.falls c.in-Hand.is drops))

pub returns-in_err-self-in-Replace-clause-answer : goal.returns-in_err-self-in-Replace-clause-answer
returns-in_err-self-in-Replace-clause-answer g c =
    let r = stepped g (goal.at.returns-in_err-self-in-Replace-clause-answer g c).In_ok-prepare in
    let below = c.as_mut_slice in
    let deep : length below.result.now ≡ 16 = omega (arith, ap length below.ensures.value, c.loop-run.self.deep, c.loop-run.self.below.ok.0) in
    let q = err_from_is_err_and c.from_residual-in_err-self-in-Replace.result c.from_residual-in_err-self-in-Replace.ensures.1 in
    let w = waiting c.replace.new.level.w in
    rw (q.1, q.2)
    (fails_before r c.in-Replace.call c.in-Replace.is (length below.result.now) deep w c.in_err-self-in-Replace.field-0.0 c.in_err-self-in-Replace.ensures.result (record { left = r.u.left; w = w; run = r.u.run }) (held c.loop-run.self.handed))

pub loop-run-smaller : goal.loop-run-smaller
loop-run-smaller g c =
    let r = stepped g (goal.at.loop-run-smaller g c).In_ok-prepare in
    let falls = falls_replaced r.s r.u r.p c.in-Replace.call c.in_ok-prepare.ensures.falls c.in-Replace.is in
    result_falls (length (g.R.Run.rest c.args.run.now)) r.s.left r.u.left c.in_ok-self-in-Replace.field-0 (length (waiting c.replace.new.level.w)) (length r.u.run) (length r.s.w + length r.s.run) c.in_ok-self-in-Replace.ensures.fewer falls.0 (waiting_few c.replace.new.level.w) (omega (arith, falls.1, c.loop-run.invariant.3))

pub loop-run-preserved : goal.loop-run-preserved
loop-run-preserved g c =
    let r = stepped g (goal.at.loop-run-preserved g c).In_ok-prepare in
    let inv = c.loop-run.invariant in
    let below = c.as_mut_slice in
    let deep : length below.result.now ≡ 16 = omega (arith, ap length below.ensures.value, c.loop-run.self.deep, c.loop-run.self.below.ok.0) in
    let falls = falls_replaced r.s r.u r.p c.in-Replace.call c.in_ok-prepare.ensures.falls c.in-Replace.is in (
      goes_before r c.in-Replace.call c.in-Replace.is (length below.result.now) deep (waiting c.replace.new.level.w) c.in_ok-self-in-Replace.field-0 c.in_ok-self-in-Replace.ensures.result,
      inv.1,
      c.in_ok-prepare.ensures.same ∙ inv.2,
      omega (arith, falls.1, inv.3),
    )

pub returns-then-is_err-clause-answer : goal.returns-then-is_err-clause-answer
returns-then-is_err-clause-answer g c =
    let r = stepped g (goal.at.returns-then-is_err-clause-answer g c).In_ok-prepare in
    let fits = c.hand_on-pushed in
    rw c.into.ensures
    (too_long_run r c.in-Hand.handed c.in-Hand.is (held c.loop-run.self.handed) c.loop-run.invariant.1 (is_ok fits.result) fits.ensures.room c.if-is_err.ensures.negation c.at.result (ap (λ f. f.kind) c.at.ensures) (record { left = r.u.left; w = waiting fits.new.w; run = g.R.Run.rest c.line_of-line.new.run }) (held fits.new.to))
