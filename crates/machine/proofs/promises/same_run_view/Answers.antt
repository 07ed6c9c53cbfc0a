-- `machine::promises::same_run_view` meets its contract.
use Rattle.machine.proofs.Laws.Apart.View.{same_run_view}
use Rattle.machine.proofs.promises.same_run_view.Goals as goal

pub returns : goal.returns
returns c = same_run_view
