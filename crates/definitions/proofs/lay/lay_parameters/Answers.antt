use Rattle.std.proofs.Common.{◌∷◌, sym, ap, ◌∙◌}
use Rattle.std.specs.Option.{option_map}
use Rattle.token.specs.Tables.{referred}
use Rattle.definition.specs.Meaning.{names_of}
use Rattle.definitions.specs.Layout.{name_tokens, parameter_tokens}
use Rattle.definitions.proofs.Laying.{room}
use Rattle.definitions.proofs.lay.lay_parameters.Goals as goal

pub unwrap-requires : goal.unwrap-requires
unwrap-requires c =
    let more = name_tokens (names_of c.next.new.self) in
    let first = ap name_tokens c.in-Some.ensures.steps ∙ ap (λ t. t ∷ more) (sym c.name_token.ensures) in
    c.push.ensures.room ∙ room c.args.table.now c.loop-name.table (parameter_tokens (option_map names_of c.args.names)) c.requires (referred c.name_token.result) _ _ first c.loop-name.invariant
