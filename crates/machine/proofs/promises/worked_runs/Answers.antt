-- `machine::promises::worked_runs` meets its contract.
use Rattle.machine.proofs.Laws.WorkedRuns.{worked_runs}
use Rattle.machine.proofs.promises.worked_runs.Goals as goal

pub returns : goal.returns
returns c = worked_runs
