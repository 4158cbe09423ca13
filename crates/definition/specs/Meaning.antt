-- What a definition that was read stands for. Assumes nothing.
use Rattle.std.specs.Prelude.{ℕ, List, Some, None, Option}
use Rattle.token.specs.declared.tokens.Tokens.{Tokens}
use Rattle.token.specs.Views.{view_tokens}
use Rattle.definition.specs.declared.Definition.{Definition}
use Rattle.definition.specs.declared.parameters.ParameterNames.{ParameterNames}
use Rattle.definition.specs.Definitions.{Macro, Parted, parameters}
use Rattle.definition.specs.Parameters.{words}

-- the names in a view of what stands between the parentheses
abbrev pub parameter_names : Option Tokens → Option (List (List ℕ))
parameter_names None = None
parameter_names (Some v) = parameters (view_tokens v)

abbrev pub macro_of : Definition → Macro
macro_of d = record { name = d.name.now; parameters = parameter_names d.parameters; list = view_tokens d.list }

-- the names that are still to come
abbrev pub names_of : ParameterNames → List (List ℕ)
names_of ns = words (view_tokens ns.0)

-- what two views show, as parts
abbrev pub shown_parts : Tokens × Tokens → Parted
shown_parts (inside, behind) = record { inside = view_tokens inside; behind = view_tokens behind }
