use Rattle.std.proofs.Common.{◌++◌, length, sym, refl, ap, ◌∙◌, subst, arith}
use Rattle.token.specs.Tables.{table_tokens}
use Rattle.token.specs.Views.{view_tokens}
use Rattle.definitions.specs.Blocks.{block}
use Rattle.definitions.specs.Layout.{Holds}
use Rattle.definitions.proofs.Stored.{block_held, list-fits, store_push, dense_push, listed_push}
use Rattle.definitions.proofs.store.Store.copy.Goals as goal

pub lay_tokens-requires : goal.lay_tokens-requires
lay_tokens-requires c =
    let held = block_held c.args.self.now (block (view_tokens c.args.tokens) c.args.entry) c.args.entry.parameters c.requires.few c.requires.fits in
    subst (λ b. Holds c.args.self.now.tokens b) (sym c.block_of-block.ensures) held

pub invariant_of-self-clause-short : goal.invariant_of-self-clause-short
invariant_of-self-clause-short c =
    let k = c.len-2.ensures ∙ ap (λ m. length m.list) c.macro_at.ensures in
    omega (arith, list-fits c.args.self.now (block (view_tokens c.args.tokens) c.args.entry) c.args.entry.parameters c.requires.few c.requires.fits, k)

pub invariant_of-self-clause-dense : goal.invariant_of-self-clause-dense
invariant_of-self-clause-dense c =
    let start = c.len-start.ensures ∙ ap length c.tokens.ensures in
    let laid_as = c.lay_tokens.ensures ∙ ap (λ b. table_tokens c.args.self.now.tokens ++ b) c.block_of-block.ensures in
    let len = c.len.ensures ∙ ap length c.block_of-block.ensures in
    dense_push c.args.self.now (block (view_tokens c.args.tokens) c.args.entry) c.args.entry.parameters c.requires.few c.requires.fits _ laid_as _ start len refl _ c.push_reserved.ensures.items

pub invariant_of-self-clause-listed : goal.invariant_of-self-clause-listed
invariant_of-self-clause-listed c =
    let start = c.len-start.ensures ∙ ap length c.tokens.ensures in
    let laid_as = c.lay_tokens.ensures ∙ ap (λ b. table_tokens c.args.self.now.tokens ++ b) c.block_of-block.ensures in
    let len = c.len.ensures ∙ ap length c.block_of-block.ensures in
    listed_push c.args.self.now (block (view_tokens c.args.tokens) c.args.entry) c.args.entry.parameters c.requires.few c.requires.fits _ laid_as _ start len refl _ c.push_reserved.ensures.items _ (c.len-2.ensures ∙ ap (λ m. length m.list) c.macro_at.ensures)

pub returns : goal.returns
returns c =
    let start = c.len-start.ensures ∙ ap length c.tokens.ensures in
    let laid_as = c.lay_tokens.ensures ∙ ap (λ b. table_tokens c.args.self.now.tokens ++ b) c.block_of-block.ensures in
    let len = c.len.ensures ∙ ap length c.block_of-block.ensures in
    store_push c.args.self.now (block (view_tokens c.args.tokens) c.args.entry) c.args.entry.parameters c.requires.few c.requires.fits (table_tokens c.lay_tokens.new.table) laid_as _ start len refl _ c.push_reserved.ensures.items
