-- `machine::promises::command_refusals` meets its contract.
use Rattle.machine.proofs.Laws.Refusals.{command_refusals}
use Rattle.machine.proofs.promises.command_refusals.Goals as goal

pub returns : goal.returns
returns c = command_refusals
