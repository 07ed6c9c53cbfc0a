-- `machine::promises::runs_apart` meets its contract.
use Rattle.machine.proofs.Laws.Apart.{runs_apart}
use Rattle.machine.proofs.promises.runs_apart.Goals as goal

pub returns : goal.returns
returns c = runs_apart
