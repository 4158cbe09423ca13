use Rattle.std.proofs.Common.{◌∙◌}
use Rattle.item.specs.Tables.{held}
use Rattle.invocation.specs.Fronts.{waiting}
use Rattle.invocation.proofs.Lists.{last_first}
use Rattle.invocation.proofs.Waiting.{front_waiting, front_at_hand}
use Rattle.invocation.proofs.input.front.Goals as goal

pub returns-in-Some : goal.returns-in-Some
returns-in-Some g c =
    front_waiting (waiting c.args.w.now) _ _ (c.in-Some.ensures ∙ last_first (held c.args.w.now))

pub returns-in-None : goal.returns-in-None
returns-in-None g c =
    c.first.ensures ∙ front_at_hand (waiting c.args.w.now) _ (c.in-None.ensures ∙ last_first (held c.args.w.now))
