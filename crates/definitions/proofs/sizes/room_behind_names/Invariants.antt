use Rattle.std.proofs.Common.{◌≡◌}
use Rattle.std.specs.Option.{option_map}
use Rattle.definition.specs.Meaning.{names_of}
use Rattle.definitions.specs.InForce.{words_size, parameters_size}
use Rattle.definitions.specs.Layout.{left}
use Rattle.definitions.proofs.sizes.room_behind_names.Given as goal

abbrev pub invariant-loop-name : goal.invariant-loop-name
invariant-loop-name l = left l.room (parameters_size (option_map names_of l.names)) ≡ left l.left (words_size (names_of l.name-iterator))
