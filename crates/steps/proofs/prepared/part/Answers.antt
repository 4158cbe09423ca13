use Rattle.std.proofs.Common.{Some, None, sym, ap, ◌∙◌}
use lib.ListN.{length-map}
use Rattle.std.specs.Option.{option_map}
use Rattle.token.specs.Views.{view_tokens}
use Rattle.definitions.specs.Blocks.{spellings}
use Rattle.definitions.specs.Meaning.{stored_macro}
use Rattle.invocation.specs.Calls.{inside}
use Rattle.replacement.specs.Meaning.{items_of}
use Rattle.replacement.specs.Replacing.{arguments}
use Rattle.steps.specs.Calling.{arguments_of}
use Rattle.steps.specs.Contexts.{macros}
use Rattle.steps.proofs.prepared.part.Goals as goal

pub returns-clause-parts : goal.returns-clause-parts
returns-clause-parts c =
    let ms = macros c.args.context in
    let is = items_of ms (inside c.args.arguments.now) in
    let words = spellings (view_tokens c.in_ok-parameters.parameters) in
    ap (λ o. arguments_of o is) (sym c.get.ensures ∙ ap (option_map stored_macro) c.in_ok-definition.ensures.ok_part) ∙ ap (λ o. elim (option_map (λ v. spellings (view_tokens v)) o) [ None ↦ None | Some ps ↦ arguments ps is ]) c.in_ok-parameters.ensures.ok_part ∙ c.part.ensures.parts ms words (length-map _ _ ∙ sym c.len.ensures) (sym c.has_variable.ensures)
