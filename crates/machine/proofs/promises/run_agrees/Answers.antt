-- `machine::promises::run_agrees` meets its contract.
use Rattle.machine.proofs.Laws.RunAgree.{run-agrees}
use Rattle.machine.proofs.promises.run_agrees.Goals as goal

pub returns : goal.returns
returns c = run-agrees
