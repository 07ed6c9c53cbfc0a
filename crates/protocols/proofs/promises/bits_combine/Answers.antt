-- `protocols::promises::bits_combine` meets its contract.
use Rattle.protocols.proofs.Laws.BitsCombine.{bits_combine}
use Rattle.protocols.proofs.promises.bits_combine.Goals as goal

pub returns : goal.returns
returns c = bits_combine
