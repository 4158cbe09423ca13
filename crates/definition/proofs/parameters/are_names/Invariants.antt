use Rattle.std.proofs.Common.{◌≡◌, is_some}
use Rattle.token.specs.Views.{view_tokens}
use Rattle.definition.specs.Definitions.{names}
use Rattle.definition.proofs.parameters.are_names.Given as goal

abbrev pub invariant-loop-name : goal.invariant-loop-name
invariant-loop-name l = is_some (names (view_tokens l.initial.tokens)) ≡ is_some (names (view_tokens l.tokens))
