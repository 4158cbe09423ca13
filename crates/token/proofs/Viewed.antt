-- The token that a view shows at an index. Assumes nothing.
use Rattle.std.proofs.Common.{◌≡◌, ℕ, ◌<◌, List, map, length, get_or, Some, sym, ap, ◌∙◌}
use lib.ListN.{length-map}
use Rattle.std.proofs.lemmas.List.{get_or-map}
use Rattle.std.proofs.lemmas.Option.{slice_get-get_or}
use Rattle.std.specs.List.{slice_get}
use Rattle.token.specs.declared.record.Record.{Record}
use Rattle.token.specs.Limited.{record_token}

pub shown : (text : List ℕ) (rs : List Record) (i : ℕ) (d : Record) → i < length rs → Some (record_token text (get_or rs i d)) ≡ slice_get (map (record_token text) rs) i
shown text rs i d h =
    let within : i < length (map (record_token text) rs) = simp length-map h in
    ap Some (sym (get_or-map (record_token text) rs i d (record_token text d) h)) ∙ sym (slice_get-get_or (map (record_token text) rs) i (record_token text d) within)
