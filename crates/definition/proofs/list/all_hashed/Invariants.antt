use Rattle.std.proofs.Common.{◌≡◌}
use Rattle.token.specs.Views.{view_tokens}
use Rattle.definition.specs.Definitions.{hashed}
use Rattle.definition.specs.Parameters.{words}
use Rattle.definition.proofs.list.all_hashed.Given as goal

abbrev pub invariant-loop-token : goal.invariant-loop-token
invariant-loop-token l = hashed (words (view_tokens l.inside)) (view_tokens l.initial.list) ≡ hashed (words (view_tokens l.inside)) (view_tokens l.list)
