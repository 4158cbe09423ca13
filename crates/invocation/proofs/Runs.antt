-- Tokens as they are read, as a run. Assumes nothing.
use Rattle.std.proofs.Common.{◌≡◌, List, Some, sym, ap, ◌∙◌}
use Rattle.std.specs.List.{slice_get}
use Rattle.std.specs.Option.{option_map}
use Rattle.item.specs.declared.hide_set.HideSet.{HideSet}
use Rattle.item.specs.Sets.{empty_set}
use Rattle.token.specs.Tokens.{Token}
use Rattle.invocation.specs.Runs.{unhidden}
use Rattle.invocation.proofs.Lists.{nth-map}

pub first_unhidden : (ts : List Token) (t : Token) (h : HideSet) → Some t ≡ slice_get ts 0 → h ≡ empty_set → Some (record { token = t; tag = h }) ≡ slice_get (unhidden ts) 0
first_unhidden ts t h e f =
    ap (λ s. Some (record { token = t; tag = s })) f ∙ ap (option_map (λ u. record { token = u; tag = empty_set })) e ∙ sym (nth-map _ ts 0)
