use Rattle.std.proofs.Common.{◌≡◌, codes, refl, position, rules, tests}
use Rattle.std.proofs.lemmas.Iterator.Search.{position_from_yields_List}
use Rattle.std.proofs.lemmas.Iterator.Consumers.{YieldsList-from_first}
use Rattle.token.specs.Tables.{referred}
use Rattle.token.specs.Views.{view_tokens}
use Rattle.definition.specs.Definitions.{spells}
use Rattle.definition.proofs.Parting.{behind_found}
use Rattle.definition.proofs.read.parted.Goals as goal

pub returns-in_err-end : goal.returns-in_err-end
returns-in_err-end c =
    let at : c.position.result ≡ position (λ t. spells t (codes ")")) (view_tokens c.args.tokens) = position_from_yields_List (λ t. spells t (codes ")")) c.position.new.self _ _ c.position.ensures.ran (YieldsList-from_first referred view_tokens _ refl) (λ x b q k. search (rules, tests)) in search rules

pub returns : goal.returns
returns c =
    let at : c.position.result ≡ position (λ t. spells t (codes ")")) (view_tokens c.args.tokens) = position_from_yields_List (λ t. spells t (codes ")")) c.position.new.self _ _ c.position.ensures.ran (YieldsList-from_first referred view_tokens _ refl) (λ x b q k. search (rules, tests)) in
    let ran = c.position.ensures.ran in
    let rest = behind_found _ c.args.tokens c.position.new.self ran.0 ran.1 _ c.in_ok-end.end ran.3 ran.5 c.in_ok-end.was in search rules
