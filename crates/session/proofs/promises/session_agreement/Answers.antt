-- `session::promises::session_agreement` meets its contract.
use Rattle.session.proofs.Laws.SessionAgreement.{session_agreement}
use Rattle.session.proofs.promises.session_agreement.Goals as goal

pub returns : goal.returns
returns c = session_agreement
