use Rattle.std.proofs.Common.{not, refl, rules, tests}
use Rattle.std.proofs.lemmas.Iterator.Search.{all_from_yields_List}
use Rattle.std.proofs.lemmas.Iterator.Consumers.{YieldsList-from_first}
use Rattle.token.specs.Tables.{referred}
use Rattle.token.specs.Views.{view_tokens}
use Rattle.definition.specs.Definitions.{spells, variable}
use Rattle.definition.proofs.list.is_plain.Goals as goal

pub returns : goal.returns
returns c =
    all_from_yields_List (λ t. not (spells t variable)) c.all.new.self _ _ c.all.ensures.ran (YieldsList-from_first referred view_tokens _ refl) (λ x b q k. search (rules, tests))
