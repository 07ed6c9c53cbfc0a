-- `machine::promises::miner_records` meets its contract.
use Rattle.machine.proofs.Laws.Blind.Records.{miner_records}
use Rattle.machine.proofs.promises.miner_records.Goals as goal

pub returns : goal.returns
returns c = miner_records
