use Rattle.std.proofs.Common.{sym, ◌∙◌}
use Rattle.item.proofs.Beside.{length-beside}
use Rattle.item.proofs.view.TagView.len.Goals as goal

pub returns : goal.returns
returns g c = c.len.ensures ∙ sym (length-beside _ c.args.self.now.tags.now c.args.self.now.even)
