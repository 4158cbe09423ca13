use Rattle.definition.specs.Meaning.{macro_of}
use Rattle.definitions.specs.InForce.{same}
use Rattle.definitions.specs.Meaning.{in_force}
use Rattle.definitions.proofs.Macros.{slot_none}
use Rattle.definitions.proofs.definitions.Definitions.define.Goals as goal

pub add-requires : goal.add-requires
add-requires c = slot_none (λ o. same o (macro_of c.args.definition)) c.args.definition.name.now (in_force c.args.self.now) c.in-None.ensures
