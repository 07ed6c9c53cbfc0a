-- `session::promises::worked_blindness` meets its contract.
use Rattle.session.proofs.Laws.WorkedBlindness.{worked_blindness}
use Rattle.session.proofs.promises.worked_blindness.Goals as goal

pub returns : goal.returns
returns c = worked_blindness
