-- `session::promises::session_apart` meets its contract.
use Rattle.session.proofs.Laws.Apart.{session_apart}
use Rattle.session.proofs.promises.session_apart.Goals as goal

pub returns : goal.returns
returns c = session_apart
