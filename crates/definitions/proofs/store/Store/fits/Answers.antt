use Rattle.std.proofs.Common.{refl, ◌∙◌}
use Rattle.definition.specs.Meaning.{macro_of}
use Rattle.definitions.proofs.Stored.{fit_store}
use Rattle.definitions.proofs.store.Store.fits.Goals as goal

pub returns-then-fits_counts : goal.returns-then-fits_counts
returns-then-fits_counts c =
    fit_store c.args.self.now (macro_of c.args.definition) _ _ _ _ _ c.len.ensures c.len-2.ensures c.bytes.ensures c.if-fits_counts.ensures c.fits_bytes.ensures

pub returns-else-fits_counts : goal.returns-else-fits_counts
returns-else-fits_counts c =
    c.if-fits_counts.false ∙ fit_store c.args.self.now (macro_of c.args.definition) _ _ _ _ _ c.len.ensures c.len-2.ensures refl c.if-fits_counts.ensures refl
