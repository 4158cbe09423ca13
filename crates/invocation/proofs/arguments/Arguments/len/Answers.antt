use Rattle.std.proofs.Common.{sym, ◌∙◌}
use lib.ListN.{length-map}
use Rattle.invocation.proofs.arguments.Arguments.len.Goals as goal

pub returns : goal.returns
returns c = λ ms. c.len.ensures ∙ c.args.self.now.extents.ok.0 ∙ sym (length-map _ _)
