use Rattle.std.proofs.Common.{◌≡◌, ◌++◌}
use Rattle.token.specs.Tables.{table_tokens}
use Rattle.token.specs.Views.{view_tokens}
use Rattle.definitions.proofs.lay.lay_tokens.Given as goal

-- what the table holds and what is left are the same as at the start
abbrev pub invariant-loop-token : goal.invariant-loop-token
invariant-loop-token l = table_tokens l.table ++ view_tokens l.token-iterator ≡ table_tokens l.initial.table ++ view_tokens l.tokens
