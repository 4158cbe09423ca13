-- What tables of tagged tokens hold. Assumes nothing.
use Rattle.std.specs.Prelude.{List, vec_items}
use Rattle.token.specs.Tables.{table_tokens, referred}
use Rattle.token.specs.Views.{view_tokens}
use Rattle.item.specs.declared.table.TagTable.{TagTable}
use Rattle.item.specs.declared.view.TagView.{TagView}
use Rattle.item.specs.declared.TagRef.{TagRef}
use Rattle.item.specs.Tagged.{Tagged, beside}

abbrev pub held : {T : Type 0} → TagTable T → List (Tagged T)
held t = beside (table_tokens t.tokens) (vec_items t.tags)

abbrev pub shown : {T : Type 0} → TagView T → List (Tagged T)
shown v = beside (view_tokens v.tokens) v.tags.now

abbrev pub referred_to : {T : Type 0} → TagRef T → Tagged T
referred_to r = record { token = referred r.token; tag = r.tag }
