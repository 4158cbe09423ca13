-- Tokens with the sets that they hide. Assumes nothing.
use Rattle.std.specs.Prelude.{Bool, true, false, List, map}
use Rattle.std.specs.List.{list_all}
use Rattle.item.specs.declared.hide_set.HideSet.{HideSet}
use Rattle.item.specs.Sets.{empty_set}
use Rattle.item.specs.Tagged.{Tagged}
use Rattle.operators.specs.declared.Role.{Role}
use Rattle.operators.specs.declared.Role.TheVariants.{Plain, Join, Nothing}

abbrev pub role_set : Role → HideSet
role_set (Plain h) = h
role_set Join = empty_set
role_set Nothing = empty_set

-- the same tokens, each with the set of what stands beside it
abbrev pub with_set : {T : Type 0} → (T → HideSet) → Tagged T → Tagged HideSet
with_set f x = record { token = x.token; tag = f x.tag }

abbrev pub with_sets : {T : Type 0} → (T → HideSet) → List (Tagged T) → List (Tagged HideSet)
with_sets f xs = map (with_set f) xs

abbrev pub is_plain : Role → Bool
is_plain (Plain h) = true
is_plain Join = false
is_plain Nothing = false

-- whether all pieces are tokens, so that there is nothing to join
abbrev pub all_plain : List (Tagged Role) → Bool
all_plain xs = list_all (λ x. is_plain x.tag) xs
