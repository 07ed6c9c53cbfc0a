-- `session::promises::session_refusals` meets its contract.
use Rattle.session.proofs.Laws.SessionRefusals.{session_refusals}
use Rattle.session.proofs.promises.session_refusals.Goals as goal

pub returns : goal.returns
returns c = session_refusals
