-- `protocols::promises::rows_at_32` meets its contract.
use Rattle.protocols.proofs.Laws.Counts.{rows_at_32}
use Rattle.protocols.proofs.promises.rows_at_32.Goals as goal

pub returns : goal.returns
returns c = rows_at_32
