-- Expanded arguments and their limits. Assumes nothing.
use Rattle.std.proofs.Common.{◌≡◌, ℕ, true, false, cond, List, [], ◌++◌, ap, ◌∙◌, arith}
use Rattle.std.proofs.lemmas.List.{append-nil, length-append}
use Rattle.std.proofs.lemmas.Bool.Decides.{nat_tests}
use Rattle.text.specs.declared.Fault.{Fault}
use Rattle.source.specs.declared.Ending.TheVariants.{Fails}
use Rattle.replacement.specs.Items.{Item, Outcome, giving, failing, whole, fault, over, limited}
use Rattle.replacement.specs.Meaning.{end_of}
use Rattle.operators.proofs.Sized.{item_bytes-append}
use Rattle.steps.specs.Steps.{Failing}
use Rattle.expansion.proofs.Turning.{prepend}

-- where the tokens fit, an expansion that ends whole behind them is they alone
pub limited_whole : (line left : ℕ) (is : List Item) (o p : Outcome Item) → over is ≡ false → o ≡ prepend is p → p ≡ record { items = []; ending = whole; left = left } → limited line o ≡ giving is left
limited_whole line left is o p fits before end =
    let all : o ≡ giving is left = before ∙ ap (prepend is) end ∙ (λ i. record { items = append-nil is i; ending = whole; left = left }) in
    ap (limited line) all ∙ ap (λ b. cond b (failing 64 line left) (giving is left)) fits

-- and one that has nothing but a fault behind them ends with that
pub limited_fault : (line : ℕ) (is : List Item) (o p : Outcome Item) (f : Fault) → over is ≡ false → o ≡ prepend is p → Failing p f → (limited line o).ending ≡ end_of (Fails f)
limited_fault line is o p f fits before end =
    let some : over o.items ≡ false = ap over (ap (λ x. x.items) before ∙ ap (λ x. is ++ x) end.0 ∙ append-nil is) ∙ fits in
    ap (λ b. (cond b (failing 64 line o.left) o).ending) some ∙ ap (λ x. x.ending) before ∙ end.1

-- once over, longer lists are over too
over_longer : (is js : List Item) → over is ≡ true → over (is ++ js) ≡ true
over_longer is js h = grind (arith, nat_tests, length-append is js, item_bytes-append is js)

-- too many tokens are fault 64, whatever follows
pub limited-over : (line : ℕ) (is : List Item) (o p : Outcome Item) → over is ≡ true → o ≡ prepend is p → (limited line o).ending ≡ fault 64 line
limited-over line is o p big before =
    let many : over o.items ≡ true = ap over (ap (λ x. x.items) before) ∙ over_longer is p.items big in
    ap (λ b. (cond b (failing 64 line o.left) o).ending) many
