-- `protocols::promises::rows` meets its contract.
use Rattle.protocols.proofs.Laws.Counts.{rows}
use Rattle.protocols.proofs.promises.rows.Goals as goal

pub returns : goal.returns
returns c = rows
