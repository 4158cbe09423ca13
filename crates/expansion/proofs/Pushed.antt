-- Pieces at the end of a table. Assumes nothing.
use Rattle.std.proofs.Common.{◌≡◌, false, List, [], ◌∷◌, ◌++◌, arith, length-append}
use Rattle.std.proofs.lemmas.Bool.Decides.{nat_tests}
use Rattle.item.specs.Tagged.{Tagged, fit}
use Rattle.item.proofs.Beside.{bytes-append}
use Rattle.operators.specs.declared.Role.{Role}

-- where one more piece is too much, so is that with others behind it
pub too_many : (a b whole : List (Tagged Role)) (x : Tagged Role) → a ++ x ∷ b ≡ whole → fit (a ++ x ∷ []) ≡ false → fit whole ≡ false
too_many a b whole x e h =
    rw (← e) (grind (arith, nat_tests, length-append a (x ∷ []), length-append a (x ∷ b), bytes-append a (x ∷ []), bytes-append a (x ∷ b)))
