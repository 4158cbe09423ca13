use Rattle.std.proofs.Common.{rules}
use Rattle.std.specs.Str.{bytes_eq}
use Rattle.std.proofs.lemmas.Iterator.{YieldsList-from_slice}
use Rattle.std.proofs.lemmas.Iterator.Search.{position_from_yields_List}
use Rattle.shelf.specs.Makes.{file_of}
use Rattle.shelf.proofs.Catalogs.{position-map}
use Rattle.shelf.proofs.catalog.first_named.Goals as goal

pub returns : goal.returns
returns c =
    rw (position-map file_of (λ f. bytes_eq f.name c.args.name.now) c.args.files.now)
    (position_from_yields_List _ _ _ _ c.position.ensures.ran (YieldsList-from_slice c.args.files.now cc) (λ x b q h. search rules))
