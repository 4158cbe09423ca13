use Rattle.std.proofs.Common.{rules, tests}
use Rattle.std.proofs.lemmas.Iterator.Consumers.{YieldsList-from_first}
use Rattle.std.proofs.lemmas.Iterator.Search.{all_from_yields_List}
use Rattle.item.specs.Tables.{shown, referred_to}
use Rattle.operators.specs.Sets.{is_plain}
use Rattle.operators.proofs.place.are_plain.Goals as goal

pub returns : goal.returns
returns c =
    all_from_yields_List (λ x. is_plain x.tag) c.all.new.self _ _ c.all.ensures.ran (YieldsList-from_first referred_to shown _ c.view.ensures) (λ x b q k. search (rules, tests))
