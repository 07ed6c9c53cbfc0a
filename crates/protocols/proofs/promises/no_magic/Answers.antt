-- `protocols::promises::no_magic` meets its contract.
use Rattle.protocols.proofs.Laws.Apart.View.{no_magic}
use Rattle.protocols.proofs.promises.no_magic.Goals as goal

pub returns : goal.returns
returns c = no_magic
