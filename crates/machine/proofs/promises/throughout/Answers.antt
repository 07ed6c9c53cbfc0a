-- `machine::promises::throughout` meets its contract.
use Rattle.machine.proofs.Laws.RunAgree.{throughout}
use Rattle.machine.proofs.promises.throughout.Goals as goal

pub returns : goal.returns
returns c = throughout
