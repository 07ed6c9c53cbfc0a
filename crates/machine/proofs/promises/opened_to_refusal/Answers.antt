-- `machine::promises::opened_to_refusal` meets its contract.
use Rattle.machine.proofs.Laws.ToRefusal.{opened_to_refusal}
use Rattle.machine.proofs.promises.opened_to_refusal.Goals as goal

pub returns : goal.returns
returns c = opened_to_refusal
