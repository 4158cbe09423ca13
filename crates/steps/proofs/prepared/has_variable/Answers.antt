use Rattle.std.proofs.Common.{is_some, ap, ◌∙◌}
use Rattle.token.specs.Views.{view_tokens}
use Rattle.definition.specs.Definitions.{variable}
use Rattle.definitions.specs.Blocks.{spellings}
use Rattle.steps.proofs.Called.{some_member}
use Rattle.steps.proofs.prepared.has_variable.Goals as goal

pub returns : goal.returns
returns c =
    c.is_some.ensures ∙ ap is_some c.index_of.ensures ∙ some_member variable (spellings (view_tokens c.args.parameters))
