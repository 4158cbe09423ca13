use Rattle.std.proofs.Common.{◌≡◌, ◌++◌}
use Rattle.std.specs.Option.{option_map}
use Rattle.token.specs.Tables.{table_tokens}
use Rattle.definition.specs.Meaning.{names_of}
use Rattle.definitions.specs.Layout.{name_tokens, parameter_tokens}
use Rattle.definitions.proofs.lay.lay_parameters.Given as goal

-- what the table holds and what is left are the same as at the start
abbrev pub invariant-loop-name : goal.invariant-loop-name
invariant-loop-name l = table_tokens l.table ++ name_tokens (names_of l.name-iterator) ≡ table_tokens l.initial.table ++ parameter_tokens (option_map names_of l.names)
