-- The definitions that a store holds. Assumes nothing.
use Rattle.std.specs.Prelude.{ℕ, List, map, vec_items}
use Rattle.token.specs.Tables.{table_tokens}
use Rattle.definition.specs.Definitions.{Macro}
use Rattle.definitions.specs.declared.store.Store.{Store}
use Rattle.definitions.specs.Blocks.{macro_at}

abbrev pub store_macros : Store → List Macro
store_macros s = map (macro_at (table_tokens s.tokens)) (vec_items s.entries)

abbrev pub store_names : Store → List (List ℕ)
store_names s = map (λ m. m.name) (store_macros s)
