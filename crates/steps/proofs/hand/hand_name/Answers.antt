use Rattle.token.specs.declared.Kind.TheVariants.{Identifier}
use Rattle.item.specs.Tables.{held}
use Rattle.definitions.specs.Meaning.{stored_macro}
use Rattle.steps.specs.Contexts.{macros}
use Rattle.steps.proofs.Pushed.{onto-placed, onto_named, onto_unnamed}
use Rattle.steps.proofs.hand.hand_name.Goals as goal

pub returns-in-Some : goal.returns-in-Some
returns-in-Some c =
    let ms = macros c.args.context in
    let to = held c.args.to.now in
    let pushed = c.push.ensures in
    onto_named ms to _ c.args.slot c.args.name (stored_macro c.in-Some.definition) _ c.in-Some.ensures (onto-placed ms to _ c.args.name Identifier _ _ _ c.item_at.ensures pushed.room pushed.tokens)

pub returns-in-None : goal.returns-in-None
returns-in-None c = onto_unnamed (macros c.args.context) c.args.to.now c.args.slot c.args.name c.in-None.ensures
