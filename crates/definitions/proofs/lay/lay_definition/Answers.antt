use Rattle.std.proofs.Common.{◌≡◌, [], ◌∷◌, ◌++◌, sym, ap, ◌∙◌, append_assoc, rules}
use Rattle.std.proofs.lemmas.List.{append-nil}
use Rattle.token.specs.Tables.{table_tokens}
use Rattle.definition.specs.Meaning.{macro_of}
use Rattle.definitions.specs.Layout.{name_token, parameter_tokens, laid}
use Rattle.definitions.proofs.Laying.{held_behind}
use Rattle.definitions.proofs.lay.lay_definition.Goals as goal

pub lay_parameters-count-requires : goal.lay_parameters-count-requires
lay_parameters-count-requires c =
    let m = macro_of c.args.definition in
    let named : table_tokens c.push.new.self ≡ table_tokens c.args.table.now ++ name_token m.name ∷ [] = search rules in
    held_behind c.args.table.now c.push.new.self (laid m) c.requires (name_token m.name ∷ []) _ m.list named (ap (λ o. name_token m.name ∷ parameter_tokens o ++ m.list) (sym c.parameter_names.ensures))

pub lay_tokens-requires : goal.lay_tokens-requires
lay_tokens-requires c =
    let m = macro_of c.args.definition in
    let named : table_tokens c.push.new.self ≡ table_tokens c.args.table.now ++ name_token m.name ∷ [] = search rules in
    let both = c.lay_parameters-count.ensures.tokens ∙ (λ i. named i ++ parameter_tokens (c.parameter_names.ensures i)) ∙ append_assoc (table_tokens c.args.table.now) (name_token m.name ∷ []) (parameter_tokens m.parameters) in
    held_behind c.args.table.now c.lay_parameters-count.new.table (laid m) c.requires (name_token m.name ∷ parameter_tokens m.parameters) m.list [] both (ap (λ l. name_token m.name ∷ parameter_tokens m.parameters ++ l) (sym (append-nil m.list)))
