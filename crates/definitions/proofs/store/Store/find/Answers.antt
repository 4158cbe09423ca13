use Rattle.std.proofs.Common.{vec_items, ◌∙◌, rules, tests}
use Rattle.std.specs.Str.{bytes_eq}
use Rattle.std.proofs.lemmas.Iterator.{YieldsList-from_slice}
use Rattle.std.proofs.lemmas.Iterator.Search.{position_from_yields_List}
use Rattle.token.specs.Tables.{table_tokens}
use Rattle.definitions.specs.Blocks.{macro_at}
use Rattle.definitions.proofs.Finding.{slot_at}
use Rattle.definitions.proofs.store.Store.find.Goals as goal

pub returns-clause-slot : goal.returns-clause-slot
returns-clause-slot c =
    let ts = table_tokens c.args.self.now.tokens in
    let es = vec_items c.args.self.now.entries in
    position_from_yields_List (λ e. bytes_eq c.args.name.now (macro_at ts e).name) c.position.new.self _ _ c.position.ensures.ran (YieldsList-from_slice es cc) (λ x b q k. search (rules, tests)) ∙ slot_at c.args.name.now ts es
