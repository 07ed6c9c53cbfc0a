-- `protocols::promises::source_is` meets its contract.
use Rattle.protocols.proofs.Laws.Source.{source_is}
use Rattle.protocols.proofs.promises.source_is.Goals as goal

pub returns : goal.returns
returns c = source_is
