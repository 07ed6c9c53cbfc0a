-- `protocols::promises::delivers` meets its contract.
use Rattle.protocols.proofs.Laws.Deliveries.{delivers}
use Rattle.protocols.proofs.promises.delivers.Goals as goal

pub returns : goal.returns
returns c = delivers
