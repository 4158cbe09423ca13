use Rattle.token.specs.Views.{view_tokens}
use Rattle.item.proofs.Beside.{beside-part}
use Rattle.item.proofs.view.TagView.part.Goals as goal

pub returns : goal.returns
returns g c =
    let view = c.args.self.now in
    beside-part (view_tokens view.tokens) _ view.tags.now _ c.args.start c.args.len c.part.ensures c.slice_of.ensures
