use Rattle.std.proofs.Common.{◌∙◌}
use Rattle.token.specs.Views.{view_tokens}
use Rattle.definitions.proofs.Laying.{room}
use Rattle.definitions.proofs.lay.lay_tokens.Goals as goal

pub unwrap-requires : goal.unwrap-requires
unwrap-requires c =
    c.push.ensures.room ∙ room c.args.table.now c.loop-token.table (view_tokens c.args.tokens) c.requires _ _ _ c.in-Some.ensures.steps c.loop-token.invariant
