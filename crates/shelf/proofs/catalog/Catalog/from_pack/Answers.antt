use Rattle.std.proofs.Common.{rules}
use Rattle.std.proofs.lemmas.Grind.{common_steps}
use Rattle.shelf.proofs.Packs.{shorter, pack_some}
use Rattle.shelf.proofs.catalog.Catalog.from_pack.Goals as goal

pub loop-file-smaller : goal.loop-file-smaller
loop-file-smaller c = shorter c.loop-file.rest.now _ c.in-Some.ensures

pub loop-file-preserved : goal.loop-file-preserved
loop-file-preserved c = rw c.in_ok-push.ensures.items (let e = pack_some c.loop-file.rest.now _ c.in-Some.ensures in search (rules, common_steps))
