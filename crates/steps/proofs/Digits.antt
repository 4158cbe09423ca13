-- The digits of a line. Assumes nothing.
use Rattle.std.proofs.Common.{◌≡◌, ℕ, zero, suc, ◌+◌, ◌/◌, ◌%◌, ◌^◌, ◌<◌, ◌≤◌, ltb, List, [], ◌∷◌, ◌++◌, decimal, sym, ap, ◌∙◌, append_assoc, append-nil, arith}
use Rattle.std.proofs.lemmas.Bool.{cond-true, cond-false, lt-ltb, le-ltb}
use Rattle.std.proofs.lemmas.Fmt.{decimal_by_steps}
use Rattle.replacement.specs.Replacing.{digits}

-- enough steps, and at least one, give the digits in front of others
abbrev Written : ℕ → List ℕ → Type 0
Written n ds = (g : ℕ) (more : List ℕ) → 0 < g → n < 10 ^ g → digits g n more ≡ ds ++ more

one : (n : ℕ) → n < 10 → Written n ((48 + n) ∷ [])
one n h zero more some fits = absurd (omega arith)
one n h (suc g) more some fits =
    let same : n % 10 ≡ n = omega arith in
    cond-true (ltb n 10) _ _ (lt-ltb n 10 h) ∙ ap (λ d. (48 + d) ∷ more) same

further : (n : ℕ) (ds : List ℕ) → 10 ≤ n → Written (n / 10) ds → Written n (ds ++ (48 + n % 10) ∷ [])
further n ds h rest zero more some fits = absurd (omega arith)
further n ds h rest (suc zero) more some fits = absurd (omega arith)
further n ds h rest (suc (suc g)) more some fits =
    let less : n / 10 < 10 ^ suc g = omega arith in
    cond-false (ltb n 10) _ _ (le-ltb n 10 h) ∙ rest (suc g) ((48 + n % 10) ∷ more) (omega arith) less ∙ sym (append_assoc ds ((48 + n % 10) ∷ []) more)

pub digits-decimal : (n : ℕ) → n < 2 ^ 32 → digits 10 n [] ≡ decimal n
digits-decimal n small = decimal_by_steps Written one further n (omega arith) 10 [] (omega arith) (omega arith) ∙ append-nil (decimal n)
