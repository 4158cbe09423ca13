use Rattle.std.proofs.Common.{◌≡◌, ◌++◌, map, drop, vec_items}
use Rattle.token.specs.Views.{view_tokens}
use Rattle.definitions.specs.Blocks.{macro_at}
use Rattle.definitions.specs.InForce.{without}
use Rattle.definitions.specs.Stores.{store_macros}
use Rattle.definitions.proofs.store.Store.take_others.Given as goal

-- the definitions so far, and what stays of those that are left, make up what stays of all
abbrev pub invariant-loop-entry : goal.invariant-loop-entry
invariant-loop-entry l = store_macros l.self ++ without l.name (map (macro_at (view_tokens l.tokens)) (drop l.entry-index (vec_items l.from.entries))) ≡ without l.name (map (macro_at (view_tokens l.tokens)) (vec_items l.from.entries))
