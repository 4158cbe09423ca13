use Rattle.std.proofs.Common.{ℕ, List, Bor, refl, rules, tests}
use Rattle.std.specs.Str.{bytes_eq}
use Rattle.std.proofs.lemmas.Iterator.Search.{any_from_yields_List}
use Rattle.std.proofs.lemmas.Iterator.Consumers.{YieldsList-from_first}
use Rattle.definition.specs.Meaning.{names_of}
use Rattle.definition.proofs.parameters.has_parameter.Goals as goal

pub returns : goal.returns
returns c =
    any_from_yields_List (bytes_eq c.args.word.now) c.any.new.self _ _ c.any.ensures.ran (YieldsList-from_first (λ (w : Bor (List ℕ)). w.now) names_of _ refl) (λ x b q k. search (rules, tests))
