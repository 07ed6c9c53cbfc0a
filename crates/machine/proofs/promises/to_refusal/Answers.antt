-- `machine::promises::to_refusal` meets its contract.
use Rattle.machine.proofs.Laws.ToRefusal.{to_refusal}
use Rattle.machine.proofs.promises.to_refusal.Goals as goal

pub returns : goal.returns
returns c = to_refusal
