use Rattle.std.proofs.Common.{◌≡◌, ◌++◌, length, map, drop, sym, ap, ◌∙◌, subst}
use Rattle.token.specs.Tables.{table_tokens}
use Rattle.token.specs.Views.{view_tokens}
use Rattle.definitions.specs.Blocks.{macro_at, placed}
use Rattle.definitions.specs.InForce.{fit, without}
use Rattle.definitions.specs.Stores.{store_macros}
use Rattle.definitions.proofs.Blocks.{few_at}
use Rattle.definitions.proofs.Macros.{taken-fits}
use Rattle.definitions.proofs.Stored.{store_fits}
use Rattle.definitions.proofs.store.Store.take_others.Goals as goal

pub copy-requires-clause-few : goal.copy-requires-clause-few
copy-requires-clause-few c =
    let from = c.args.from.now in
    let items = c.deref-entry-items.ensures.value in
    few_at 0 c.deref-entry-items.result.now _ c.loop-entry.entry-index _ (ap (λ es. placed 0 es (length (table_tokens from.tokens))) items ∙ from.dense) c.loop-entry-test.true

pub copy-requires-clause-fits : goal.copy-requires-clause-fits
copy-requires-clause-fits c =
    let n = c.args.name.now in
    let ts = view_tokens c.tokens-tokens.result in
    let i = c.loop-entry.entry-index in
    let have = store_macros c.loop-entry.self in
    let items = c.deref-entry-items.ensures.value in
    let inv = subst (λ es. have ++ without n (map (macro_at ts) (drop i es)) ≡ without n (map (macro_at ts) es)) (sym items) c.loop-entry.invariant in
    let all = (λ j. fit (map (macro_at (c.tokens-tokens.ensures j)) (items j))) ∙ store_fits c.args.from.now in
    taken-fits n ts c.deref-entry-items.result.now i have inv _ c.loop-entry-test.true c.if-not-is_named.ensures all
