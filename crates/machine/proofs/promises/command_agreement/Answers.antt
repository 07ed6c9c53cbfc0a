-- `machine::promises::command_agreement` meets its contract.
use Rattle.machine.proofs.Laws.Agree.{command_agreement}
use Rattle.machine.proofs.promises.command_agreement.Goals as goal

pub returns : goal.returns
returns c = command_agreement
