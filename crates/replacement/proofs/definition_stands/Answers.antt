use Rattle.replacement.proofs.Computed.{worked}
use Rattle.replacement.proofs.Parting.{parting}
use Rattle.replacement.proofs.Settled.{all_settled}
use Rattle.replacement.proofs.Unbounded.{unbounded}
use Rattle.replacement.proofs.Unchanged.{unchanged}
use Rattle.replacement.proofs.definition_stands.Goals as goal

pub returns : goal.returns
returns c = record { worked = worked; unbounded = unbounded; unchanged = unchanged; settled = all_settled; parting = parting }
