-- Runs that stand in tables. Assumes nothing.
use Rattle.std.specs.Prelude.{List, map}
use Rattle.item.specs.declared.hide_set.HideSet.{HideSet}
use Rattle.item.specs.Sets.{empty_set}
use Rattle.item.specs.Tagged.{Tagged}
use Rattle.token.specs.Tokens.{Token}

-- tokens as they are read hide nothing
abbrev pub unhidden : List Token → List (Tagged HideSet)
unhidden ts = map (λ t. record { token = t; tag = empty_set }) ts
