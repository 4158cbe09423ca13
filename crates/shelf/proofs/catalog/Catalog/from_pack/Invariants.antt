use Rattle.std.proofs.Common.{◌≡◌, ◌++◌, map, length, vec_items}
use Rattle.shelf.specs.Makes.{file_of, pack_files}
use Rattle.shelf.proofs.catalog.Catalog.from_pack.Given as goal

-- the files so far, and those of the rest of the pack, make up the files
abbrev pub invariant-loop-file : goal.invariant-loop-file
invariant-loop-file l = map file_of (vec_items l.files) ++ pack_files l.rest ≡ pack_files l.pack

abbrev pub decreases-loop-file : goal.decreases-loop-file
decreases-loop-file l = length l.rest
