use Rattle.std.proofs.Common.{◌≡◌, ◌+◌, ◌-◌, ◌<◌, ◌≤◌, length, get_or, take, drop, Ok, sym, ap, ◌∙◌, subst, arith, length-drop}
use Rattle.std.proofs.ResultArms.{chosen}
use Rattle.std.proofs.lemmas.List.{length-take-le}
use Rattle.std.proofs.lemmas.Bool.{and_from, lt-ltb, le-leb}
use Rattle.std.proofs.lemmas.Result.{err_from_is_err_and}
use Rattle.token.specs.Tables.{table_tokens}
use Rattle.token.specs.Views.{spelled}
use Rattle.lexer.specs.Cutting.{scan}
use Rattle.lexer.specs.Scanning.{measured}
use Rattle.lexer.proofs.Sofar.{Sofar, measured-rest, at_end_lem, after-white, at_fault, bounds, after-token}
use Rattle.lexer.proofs.line_tokens.LineTokens.fill.Goals as goal
use Rattle.lexer.proofs.line_tokens.LineTokens.fill.Goals.{In_ok-kind}

-- what was measured at `at`
measured_at : (c : In_ok-kind) → measured (scan (drop c.loop-at.at c.args.bytes.now)) (get_or c.args.lines.now c.loop-at.at 0) ≡ Ok (c.in_ok-kind.kind, c.in_ok-kind.len)
measured_at c = measured-rest c.args.bytes.now c.loop-at.at _ _ c.in_ok-kind.ensures

fits_at : (c : In_ok-kind) → (0 < c.in_ok-kind.len) × (c.loop-at.at + c.in_ok-kind.len ≤ length c.args.bytes.now)
fits_at c =
    bounds c.args.bytes.now c.args.lines.now c.requires.beside _ _ _ c.loop-at.invariant c.loop-at-test.true (sym c.if-is_white.ensures) _ _ (measured_at c)

pub loop-at-preserved-then-is_white : goal.loop-at-preserved-then-is_white
loop-at-preserved-then-is_white c =
    after-white c.args.bytes.now c.args.lines.now c.requires.beside _ _ _ c.loop-at.invariant c.loop-at-test.true (sym c.if-is_white.ensures)

pub returns-in_err-kind : goal.returns-in_err-kind
returns-in_err-kind c =
    let bytes = c.args.bytes.now in
    let lines = c.args.lines.now in
    let at = c.loop-at.at in
    let p = err_from_is_err_and c.from_residual.result c.from_residual.ensures.1 in
    let is = measured-rest bytes at _ _ c.in_err-kind.ensures in
    rw (p.1, p.2) (at_fault bytes lines c.requires.beside at _ _ c.loop-at.invariant c.loop-at-test.true (sym c.if-is_white.ensures) _ is)

pub overflow_add-at-else-is_white : goal.overflow_add-at-else-is_white
overflow_add-at-else-is_white c = omega (arith, c.requires.short, (fits_at (goal.at.overflow_add-at-else-is_white c).In_ok-kind).1)

pub slice_bounds-push-end : goal.slice_bounds-push-end
slice_bounds-push-end c = (fits_at (goal.at.slice_bounds-push-end c).In_ok-kind).1

pub overflow_add-at-else-is_white-2 : goal.overflow_add-at-else-is_white-2
overflow_add-at-else-is_white-2 c = omega (arith, c.requires.short, (fits_at (goal.at.overflow_add-at-else-is_white-2 c).In_ok-kind).1)

pub loop-at-smaller : goal.loop-at-smaller
loop-at-smaller c = let fits = fits_at (goal.at.loop-at-smaller c).In_ok-kind in omega (arith, fits.0, fits.1)

pub loop-at-preserved : goal.loop-at-preserved
loop-at-preserved c =
    let bytes = c.args.bytes.now in
    let lines = c.args.lines.now in
    let at = c.loop-at.at in
    let len = c.in_ok-kind.len in
    let inv = c.loop-at.invariant in
    let self = c.loop-at.self in
    let in_continue = (goal.at.loop-at-preserved c).In_ok-kind in
    let fits = fits_at in_continue in
    let clipped : (at + len) - at ≡ len = omega arith in
    let size = length-take-le ((at + len) - at) (drop at bytes) (omega (arith, length-drop at bytes)) in
    let few : length (table_tokens self.table) < 4095 = omega (arith, inv.few, fits.0, fits.1, c.requires.short) in
    let short : spelled (table_tokens self.table) + length (take ((at + len) - at) (drop at bytes)) ≤ 4095 = omega (arith, inv.short, fits.1, c.requires.short, size) in
    let room = and_from _ _ (lt-ltb _ _ few) (le-leb _ _ short) in
    let pushed = chosen _ _ _ _ c.push-fits.ensures.tokens (c.push-fits.ensures.room ∙ room) in
    let spelling = ap (λ n. take n (drop at bytes)) clipped in
    subst (Sofar bytes lines (at + len) _) (sym pushed)
    (after-token bytes lines c.requires.beside at _ _ inv c.loop-at-test.true (sym c.if-is_white.ensures) _ len (measured_at in_continue) _ (λ i. record { kind = c.in_ok-kind.kind; spelling = spelling i; line = get_or lines at 0; marked = c.loop-at.marked }))

pub returns : goal.returns
returns c = at_end_lem c.args.bytes.now c.args.lines.now c.requires.beside _ _ _ c.loop-at.invariant c.loop-at-test.false
