-- What the definitions in force are. Assumes nothing.
use Rattle.std.specs.Prelude.{List}
use Rattle.std.specs.Option.{option_map}
use Rattle.token.specs.Views.{view_tokens}
use Rattle.definition.specs.Definitions.{Macro}
use Rattle.definitions.specs.declared.definitions.Definitions.{Definitions}
use Rattle.definitions.specs.declared.Macro.{Macro as Stored}
use Rattle.definitions.specs.Blocks.{spellings}
use Rattle.definitions.specs.Stores.{store_macros}

abbrev pub in_force : Definitions → List Macro
in_force d = store_macros d.force

abbrev pub stored_macro : Stored → Macro
stored_macro m = record { name = m.name.now; parameters = option_map (λ v. spellings (view_tokens v)) m.parameters; list = view_tokens m.list }
