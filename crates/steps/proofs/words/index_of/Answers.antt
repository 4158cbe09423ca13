use Rattle.std.proofs.Common.{refl, ◌∙◌, rules, tests}
use Rattle.std.specs.Str.{bytes_eq}
use Rattle.std.proofs.lemmas.Iterator.Search.{position_from_yields_List}
use Rattle.std.proofs.lemmas.Iterator.Consumers.{YieldsList-from_first}
use Rattle.token.specs.Tables.{referred}
use Rattle.token.specs.Views.{view_tokens}
use Rattle.definitions.proofs.Finding.{position-index}
use Rattle.steps.proofs.words.index_of.Goals as goal

pub returns : goal.returns
returns c =
    position_from_yields_List (λ t. bytes_eq c.args.word.now t.spelling) c.position.new.self _ _ c.position.ensures.ran (YieldsList-from_first referred view_tokens _ refl) (λ x b q k. search (rules, tests)) ∙ position-index (λ t. t.spelling) c.args.word.now (view_tokens c.args.tokens)
