use Rattle.std.proofs.Common.{sym, ◌∙◌}
use Rattle.definitions.specs.Meaning.{in_force}
use Rattle.definitions.proofs.Hinting.{hint_none, hint_right}
use Rattle.definitions.proofs.definitions.Definitions.find.Goals as goal

pub returns-in_err-guess-clause-slot : goal.returns-in_err-guess-clause-slot
returns-in_err-guess-clause-slot c =
    let d = c.args.self.now in
    c.from_residual.ensures ∙ hint_none d.hints.cells c.args.name.now (in_force d) d.noted (sym c.get.ensures ∙ c.in_err-guess.was)

pub returns-then-is_named-clause-slot : goal.returns-then-is_named-clause-slot
returns-then-is_named-clause-slot c = hint_right c.args.name.now (in_force c.args.self.now) _ c.args.self.now.unlike c.if-is_named.ensures
