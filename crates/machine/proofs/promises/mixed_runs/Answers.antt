-- `machine::promises::mixed_runs` meets its contract.
use Rattle.machine.proofs.Laws.Apart.Mixed.{mixed_runs}
use Rattle.machine.proofs.promises.mixed_runs.Goals as goal

pub returns : goal.returns
returns c = mixed_runs
