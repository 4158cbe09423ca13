use Rattle.std.proofs.Common.{◌≡◌, map, take, vec_items}
use Rattle.shelf.specs.Makes.{file_of, table_files}
use Rattle.shelf.proofs.catalog.Catalog.from_table.Given as goal

-- the files of the entries so far
abbrev pub invariant-loop-entry : goal.invariant-loop-entry
invariant-loop-entry l = map file_of (vec_items l.files) ≡ table_files l.text (take l.entry-index l.table)
