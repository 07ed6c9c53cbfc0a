-- `protocols::promises::ring_combines` meets its contract.
use Rattle.protocols.proofs.Laws.RingCombine.{ring_combines}
use Rattle.protocols.proofs.promises.ring_combines.Goals as goal

pub returns : goal.returns
returns c = ring_combines
