-- The files of a table and of a pack. Assumes nothing.
use Rattle.std.specs.Prelude.{ℕ, zero, suc, ◌+◌, ◌*◌, Bool, cond, ◌&&◌, List, [], ◌∷◌, map, length, take, drop, Some, None, vec_items, Option, nat_le}
use Rattle.std.specs.Borrow.{Bor}
use Rattle.std.specs.List.{filter}
use Rattle.text.specs.declared.Extent.{Extent}
use Rattle.shelf.specs.declared.Ending.TheVariants.{Whole, Broken}
use Rattle.shelf.specs.declared.table.Entry.{Entry}
use Rattle.shelf.specs.declared.catalog.StoredFile.{StoredFile}
use Rattle.shelf.specs.declared.catalog.Catalog.{Catalog}
use Rattle.shelf.specs.Files.{File}

-- the file that a catalog keeps
abbrev pub file_of : StoredFile → File
file_of f = record { name = f.name.now; bytes = f.content.now; ending = f.ending }

-- the files of a catalog
abbrev pub catalog_files : Catalog → List File
catalog_files c = map file_of (vec_items c.files)

-- the bytes of an extent, as far as the text goes
abbrev pub part : List ℕ → Extent → List ℕ
part text e = take e.len (drop e.start text)

-- whether an extent stays within the text
abbrev pub fits : List ℕ → Extent → Bool
fits text e = nat_le (e.start + e.len) (length text)

-- the file of an entry: content that runs past the text breaks off there
abbrev pub entry_file : List ℕ → Entry → File
entry_file text e = record { name = part text e.name; bytes = part text e.content; ending = cond (fits text e.content) Whole Broken }

-- the files of a table, without the entries whose names run past the text
abbrev pub table_files : List ℕ → List Entry → List File
table_files text es = map (entry_file text) (filter (λ e. fits text e.name) es)

-- the first record of a pack, and the bytes behind it
pub record Record : Type 0 where
  pub file : File
  pub rest : List ℕ

-- the record of a file that is read from a pack, and of what lies behind it
abbrev pub record_of : StoredFile × Bor (List ℕ) → Record
record_of p = record { file = file_of p.0; rest = p.1.now }

-- behind the name: the content's length in two bytes, high first, and the content, which may be cut
abbrev pub headed : List ℕ → List ℕ → Option Record
headed name [] = None
headed name (high ∷ []) = None
headed name (high ∷ low ∷ bytes) =
    let n = high * 256 + low in
    Some (record { file = record { name = name; bytes = take n bytes; ending = cond (nat_le n (length bytes)) Whole Broken }; rest = drop n bytes })

-- a record begins with the length of its name, 1 to 63
abbrev pub first_record : List ℕ → Option Record
first_record [] = None
first_record (n ∷ bytes) = cond (nat_le 1 n && nat_le n 63) (headed (take n bytes) (drop n bytes)) None

-- the files of at most g records, until there is no further record
abbrev pub packed : ℕ → List ℕ → List File
packed zero bytes = []
packed (suc g) bytes = elim (first_record bytes) [ None ↦ [] | Some r ↦ r.file ∷ packed g r.rest ]

-- a pack has fewer records than bytes
abbrev pub pack_files : List ℕ → List File
pack_files pack = packed (length pack) pack
