use Rattle.std.proofs.Common.{Some, sym, ap, ◌∙◌}
use Rattle.std.specs.Option.{option_map}
use Rattle.definition.specs.Meaning.{macro_of}
use Rattle.definitions.specs.InForce.{same}
use Rattle.definitions.specs.Meaning.{in_force}
use Rattle.definitions.proofs.Macros.{found_none, found_some}
use Rattle.definitions.proofs.definitions.Definitions.is_known.Goals as goal

pub returns-in_err-find : goal.returns-in_err-find
returns-in_err-find c =
    let found = found_none c.args.definition.name.now (in_force c.args.self.now) (sym c.find.ensures.slot ∙ c.in_err-find.was) in
    c.from_residual.ensures ∙ ap (option_map (λ o. same o (macro_of c.args.definition))) (sym found)

pub returns-in_err-stored : goal.returns-in_err-stored
returns-in_err-stored c =
    let found = found_some c.args.definition.name.now (in_force c.args.self.now) _ (sym c.find.ensures.slot ∙ c.in_ok-find.was) in
    c.from_residual-in_err-stored.ensures ∙ ap (option_map (λ o. same o (macro_of c.args.definition))) (c.in_err-stored.ensures ∙ sym found)

pub returns : goal.returns
returns c =
    let found = found_some c.args.definition.name.now (in_force c.args.self.now) _ (sym c.find.ensures.slot ∙ c.in_ok-find.was) in
    ap Some c.same_macro.ensures ∙ ap (option_map (λ o. same o (macro_of c.args.definition))) (c.in_ok-stored.ensures ∙ sym found)
