-- `protocols::promises::blind_protocols` meets its contract.
use Rattle.protocols.proofs.Laws.Blind.{blind_protocols}
use Rattle.protocols.proofs.promises.blind_protocols.Goals as goal

pub returns : goal.returns
returns c = blind_protocols
