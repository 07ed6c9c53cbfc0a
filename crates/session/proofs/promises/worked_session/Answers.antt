-- `session::promises::worked_session` meets its contract.
use Rattle.session.proofs.Laws.Worked.{worked_session}
use Rattle.session.proofs.promises.worked_session.Goals as goal

pub returns : goal.returns
returns c = worked_session
