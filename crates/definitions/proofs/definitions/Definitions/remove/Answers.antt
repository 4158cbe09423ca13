use Rattle.std.proofs.Common.{map, is_some, sym, ap, ◌∙◌}
use Rattle.definitions.specs.Hints.{distinct}
use Rattle.definitions.specs.Meaning.{in_force}
use Rattle.definitions.specs.Stores.{store_names}
use Rattle.definitions.proofs.Hinting.{unlike_without}
use Rattle.definitions.proofs.Macros.{without_none}
use Rattle.definitions.proofs.definitions.Definitions.remove.Goals as goal

pub returns-then-is_none : goal.returns-then-is_none
returns-then-is_none c =
    sym (without_none c.args.name.now (in_force c.args.self.now) (ap is_some (sym c.find.ensures.slot) ∙ c.if-is_none.ensures))

pub invariant_of-self : goal.invariant_of-self
invariant_of-self c =
    let d = c.args.self.now in
    let unlike = ap (λ s. distinct (store_names s)) c.swap.ensures.x_after ∙ ap (λ l. distinct (map (λ m. m.name) l)) c.take_others.ensures ∙ unlike_without c.args.name.now (in_force d) d.unlike in
    record { unlike = unlike; noted = c.note_all.ensures }
