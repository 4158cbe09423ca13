use Rattle.std.proofs.Common.{◌≡◌, ◌-◌, [], ◌∷◌, ◌++◌, length, sym, ap, ◌∙◌, arith, length-append}
use Rattle.std.specs.Option.{option_map}
use Rattle.token.specs.Tables.{table_tokens}
use Rattle.definition.specs.Meaning.{macro_of}
use Rattle.definitions.specs.Layout.{laid}
use Rattle.definitions.specs.Stores.{store_macros}
use Rattle.definitions.proofs.Blocks.{laid_macro}
use Rattle.definitions.proofs.Stored.{few-parameters, laid-fits, block_held, list-fits, store_push, dense_push, listed_push}
use Rattle.definitions.proofs.store.Store.append.Goals as goal

pub lay_definition-parameters-requires : goal.lay_definition-parameters-requires
lay_definition-parameters-requires c =
    let m = macro_of c.args.definition in
    block_held c.args.self.now (laid m) (option_map length m.parameters) (few-parameters c.args.definition.parameters) (laid-fits (store_macros c.args.self.now) m c.requires)

pub invariant_of-self-clause-short : goal.invariant_of-self-clause-short
invariant_of-self-clause-short c =
    let m = macro_of c.args.definition in
    let k = c.len-2.ensures ∙ sym (ap (λ o. length o.list) (laid_macro m)) in
    omega (arith, list-fits c.args.self.now (laid m) (option_map length m.parameters) (few-parameters c.args.definition.parameters) (laid-fits (store_macros c.args.self.now) m c.requires), k)

pub invariant_of-self-clause-dense : goal.invariant_of-self-clause-dense
invariant_of-self-clause-dense c =
    let s = c.args.self.now in
    let m = macro_of c.args.definition in
    let start = c.len-start.ensures ∙ ap length c.tokens.ensures in
    let laid_as = c.lay_definition-parameters.ensures in
    let len : c.len.result - c.len-start.result ≡ length (laid m) = omega (arith, length-append (table_tokens s.tokens) (laid m), ap length laid_as.tokens, ap length c.tokens.ensures, ap length c.tokens-2.ensures) in
    dense_push s (laid m) (option_map length m.parameters) (few-parameters c.args.definition.parameters) (laid-fits (store_macros s) m c.requires) _ laid_as.tokens _ start len laid_as.count _ c.push_reserved.ensures.items

pub invariant_of-self-clause-listed : goal.invariant_of-self-clause-listed
invariant_of-self-clause-listed c =
    let s = c.args.self.now in
    let m = macro_of c.args.definition in
    let start = c.len-start.ensures ∙ ap length c.tokens.ensures in
    let laid_as = c.lay_definition-parameters.ensures in
    let len : c.len.result - c.len-start.result ≡ length (laid m) = omega (arith, length-append (table_tokens s.tokens) (laid m), ap length laid_as.tokens, ap length c.tokens.ensures, ap length c.tokens-2.ensures) in
    listed_push s (laid m) (option_map length m.parameters) (few-parameters c.args.definition.parameters) (laid-fits (store_macros s) m c.requires) _ laid_as.tokens _ start len laid_as.count _ c.push_reserved.ensures.items _ (c.len-2.ensures ∙ sym (ap (λ o. length o.list) (laid_macro m)))

pub returns : goal.returns
returns c =
    let s = c.args.self.now in
    let m = macro_of c.args.definition in
    let ts = table_tokens c.lay_definition-parameters.new.table in
    let more = c.lay_definition-parameters.ensures.tokens in
    let len : c.len.result - c.len-start.result ≡ length (laid m) = omega (arith, length-append (table_tokens s.tokens) (laid m), ap length more, ap length c.tokens.ensures, ap length c.tokens-2.ensures) in
    store_push s (laid m) (option_map length m.parameters) (few-parameters c.args.definition.parameters) (laid-fits (store_macros s) m c.requires) ts more _ (c.len-start.ensures ∙ ap length c.tokens.ensures) len c.lay_definition-parameters.ensures.count _ c.push_reserved.ensures.items ∙ ap (λ o. store_macros s ++ o ∷ []) (laid_macro m)
