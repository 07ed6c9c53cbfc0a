-- `machine::promises::table_at_32` meets its contract.
use Rattle.machine.proofs.Laws.Rows.{table_at_32}
use Rattle.machine.proofs.promises.table_at_32.Goals as goal

pub returns : goal.returns
returns c = table_at_32
