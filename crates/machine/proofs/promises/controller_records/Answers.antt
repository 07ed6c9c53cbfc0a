-- `machine::promises::controller_records` meets its contract.
use Rattle.machine.proofs.Laws.Blind.Records.{controller_records}
use Rattle.machine.proofs.promises.controller_records.Goals as goal

pub returns : goal.returns
returns c = controller_records
