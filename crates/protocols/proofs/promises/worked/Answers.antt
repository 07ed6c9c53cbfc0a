-- `protocols::promises::worked` meets its contract.
use Rattle.protocols.proofs.Laws.Worked.{worked}
use Rattle.protocols.proofs.promises.worked.Goals as goal

pub returns : goal.returns
returns c = worked
