-- What tables hold stays within their limits. Assumes nothing.
use Rattle.std.proofs.Common.{◌≡◌, ◌≤◌, true, length, vec_items, arith}
use Rattle.std.proofs.lemmas.Bool.{and_from, le-leb}
use Rattle.token.specs.Tables.{table_tokens}
use Rattle.token.proofs.Filled as filled
use Rattle.item.specs.declared.table.TagTable.{TagTable}
use Rattle.item.specs.Tables.{held}
use Rattle.item.specs.Tagged.{bytes, fit}
use Rattle.item.proofs.Beside.{bytes-beside}
use Rattle.item.proofs.Held as table

module _ {T : Type 0} (t : TagTable T) where
  pub few : length (held t) ≤ 1024
  few = omega (arith, table.count t, filled.few t.tokens)

  short : bytes (held t) ≤ 16384
  short =
      omega (arith, bytes-beside (table_tokens t.tokens) (vec_items t.tags) (table.even t), filled.short t.tokens)

  pub fits : fit (held t) ≡ true
  fits = and_from _ _ (le-leb _ _ few) (le-leb _ _ short)
