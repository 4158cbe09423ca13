use Rattle.std.proofs.Common.{vec_items, refl}
use Rattle.token.specs.Tables.{table_tokens}
use Rattle.definitions.specs.Meaning.{stored_macro}
use Rattle.definitions.specs.Stores.{store_macros}
use Rattle.definitions.proofs.Hinting.{noted_more}
use Rattle.definitions.proofs.Stored.{entry_slot}
use Rattle.definitions.proofs.hints.Hints.note_all.Goals as goal

pub loop-slot-preserved : goal.loop-slot-preserved
loop-slot-preserved c =
    let store = c.args.store.now in
    let i = c.loop-slot.slot in
    let stored = c.macro_at.result in
    let here = entry_slot (table_tokens store.tokens) _ (vec_items store.entries) _ i _ (stored_macro stored) c.tokens-tokens.ensures c.deref-entry-items.ensures.value c.loop-slot-test.true c.macro_at.ensures in
    noted_more c.loop-slot.self.cells c.put.new.self.cells stored.name.now _ c.put.ensures.here c.put.ensures.others (store_macros store) i (stored_macro stored) here refl c.loop-slot.invariant
