-- What replacement looks up. Assumes nothing.
use Rattle.std.specs.Prelude.{ℕ, List}
use Rattle.definition.specs.Definitions.{Macro}
use Rattle.definitions.specs.Meaning.{in_force}
use Rattle.steps.specs.declared.context.Context.{Context}

abbrev pub macros : Context → List Macro
macros c = in_force c.definitions.now

abbrev pub file_of : Context → List ℕ
file_of c = c.file.now
