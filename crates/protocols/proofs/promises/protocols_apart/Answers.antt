-- `protocols::promises::protocols_apart` meets its contract.
use Rattle.protocols.proofs.Laws.Apart.{protocols_apart}
use Rattle.protocols.proofs.promises.protocols_apart.Goals as goal

pub returns : goal.returns
returns c = protocols_apart
