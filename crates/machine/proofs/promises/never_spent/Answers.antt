-- `machine::promises::never_spent` meets its contract.
use Rattle.machine.proofs.Laws.Agree.{never_spent}
use Rattle.machine.proofs.promises.never_spent.Goals as goal

pub returns : goal.returns
returns c = never_spent
