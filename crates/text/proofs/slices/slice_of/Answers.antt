use Rattle.text.proofs.Clipped.{clipped}
use Rattle.text.proofs.slices.slice_of.Goals as goal

pub returns : goal.returns
returns g c = clipped c.args.items.now c.args.start c.args.len _ _ c.clip-start.ensures c.clip-len.ensures
