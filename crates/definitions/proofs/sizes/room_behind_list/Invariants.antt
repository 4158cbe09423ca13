use Rattle.std.proofs.Common.{◌≡◌}
use Rattle.token.specs.Views.{view_tokens, spelled}
use Rattle.definitions.specs.Layout.{left}
use Rattle.definitions.proofs.sizes.room_behind_list.Given as goal

abbrev pub invariant-loop-token : goal.invariant-loop-token
invariant-loop-token l = left l.room (spelled (view_tokens l.list)) ≡ left l.left (spelled (view_tokens l.token-iterator))
