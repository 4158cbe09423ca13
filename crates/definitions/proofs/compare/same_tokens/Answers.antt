use Rattle.std.proofs.Common.{◌≡◌, false, nat_eq, ◌∙◌, rules, tests, arith}
use Rattle.std.specs.List.{zip}
use Rattle.std.proofs.lemmas.Bool.Decides.{nat_tests}
use Rattle.std.proofs.lemmas.Iterator.{YieldsList-from_zip}
use Rattle.std.proofs.lemmas.Iterator.Search.{all_from_yields_List}
use Rattle.std.proofs.lemmas.Iterator.Consumers.{YieldsList-from_first}
use Rattle.token.specs.Tables.{referred}
use Rattle.token.specs.Views.{view_tokens}
use Rattle.definitions.specs.Layout.{same_token}
use Rattle.definitions.proofs.Same.{tokens_same, tokens_apart}
use Rattle.definitions.proofs.compare.same_tokens.Goals as goal

pub returns-then-len : goal.returns-then-len
returns-then-len c =
    let xs = view_tokens c.args.left in
    let ys = view_tokens c.args.right in
    all_from_yields_List {all = zip xs ys} (λ p. same_token p.0 p.1) c.all.new.self _ _ c.all.ensures.ran (YieldsList-from_zip (YieldsList-from_first referred view_tokens xs cc) (YieldsList-from_first referred view_tokens ys cc)) (λ x b q k. search (rules, tests)) ∙ tokens_same xs ys (omega arith)

pub returns-else-len : goal.returns-else-len
returns-else-len c =
    let differ : nat_eq c.len.result c.len-2.result ≡ false = grind (arith, nat_tests) in
    differ ∙ tokens_apart (view_tokens c.args.left) (view_tokens c.args.right) (λ e. omega arith)
