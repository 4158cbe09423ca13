use Rattle.std.proofs.Common.{refl}
use Rattle.definition.specs.Meaning.{macro_of}
use Rattle.definitions.specs.Meaning.{in_force}
use Rattle.definitions.specs.Stores.{store_macros}
use Rattle.definitions.proofs.Hinting.{unlike_push, noted_push}
use Rattle.definitions.proofs.definitions.Definitions.add.Goals as goal

pub invariant_of-self-2 : goal.invariant_of-self-2
invariant_of-self-2 c =
    let d = c.args.self.now in
    let os = store_macros c.append.new.self in
    let m = macro_of c.args.definition in
    record {
      unlike = unlike_push (in_force d) os m c.append.ensures d.unlike c.requires;
      noted = noted_push d.hints.cells c.put.new.self.cells c.args.definition.name.now _ c.put.ensures.here c.put.ensures.others (in_force d) os m c.append.ensures refl d.noted;
    }
