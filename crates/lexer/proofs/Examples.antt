-- The worked examples compute. Assumes nothing.
use Rattle.std.proofs.Common.{refl}
use Rattle.lexer.specs.Worked.{Worked}

pub worked : Worked
worked = record { trigraph = refl; splice = refl; name = refl; comment = refl; longest = refl; number = refl; digraph = refl }
