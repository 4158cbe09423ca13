use Rattle.std.proofs.Common.{◌≡◌, ◌+◌, ◌%◌, ◌/◌, [], ◌∷◌, ◌++◌, length, decimal, sym, ap, ◌∙◌, append_assoc, length-append, arith, ◌<◌}
use Rattle.std.proofs.lemmas.Fmt.{decimal_digit, decimal_step}
use Rattle.std.proofs.lemmas.List.{length_push}
use Rattle.operators.specs.Spellings.{spelt}
use Rattle.steps.proofs.built_in.+add_digits.Goals as goal

pub add-requires : goal.add-requires
add-requires t c = omega (arith, c.requires, ap length (decimal_digit c.args.number (omega arith)))

pub add_digits-requires : goal.add_digits-requires
add_digits-requires t c =
    let n = c.args.number in
    let longer = ap length (decimal_step n (omega arith) (omega (arith, c.ranges.number.fits))) ∙ length_push (decimal (n / 10)) (48 + n % 10) in
    (omega arith, omega (arith, c.requires, longer))

pub add-requires-else-number-lt10 : goal.add-requires-else-number-lt10
add-requires-else-number-lt10 t c =
    let n = c.args.number in
    let longer = ap length (decimal_step n (omega arith) (omega (arith, c.ranges.number.fits))) ∙ length_push (decimal (n / 10)) (48 + n % 10) in
    omega (arith, c.requires, longer, ap length c.add_digits.ensures, length-append (spelt c.args.spelling.now) (decimal (n / 10)))

pub returns-then-number-lt10 : goal.returns-then-number-lt10
returns-then-number-lt10 t c =
    let small : c.args.number < 10 = omega arith in
    let same : c.args.number % 10 ≡ c.args.number = omega arith in
    c.add.ensures ∙ ap (λ d. spelt c.args.spelling.now ++ d ∷ []) (c.digit.ensures ∙ ap (λ d. 48 + d) same) ∙ ap (λ ds. spelt c.args.spelling.now ++ ds) (sym (decimal_digit c.args.number small))

pub returns-else-number-lt10 : goal.returns-else-number-lt10
returns-else-number-lt10 t c =
    let n = c.args.number in
    let before = spelt c.args.spelling.now in
    let step = decimal_step n (omega arith) (omega (arith, c.ranges.number.fits)) in
    c.add-else-number-lt10.ensures ∙ (λ i. c.add_digits.ensures i ++ c.digit-else-number-lt10.ensures i ∷ []) ∙ append_assoc before (decimal (n / 10)) ((48 + n % 10) ∷ []) ∙ ap (λ ds. before ++ ds) (sym step)
