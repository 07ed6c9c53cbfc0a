-- `machine::promises::adds_up` meets its contract.
use Rattle.machine.proofs.Laws.ControllerWords.{controller_adds_up}
use Rattle.machine.proofs.promises.adds_up.Goals as goal

pub returns : goal.returns
returns c = controller_adds_up
