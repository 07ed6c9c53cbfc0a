-- `session::promises::session_blindness` meets its contract.
use Rattle.machine.proofs.Laws.Blind.Refusal.{run_blindness_to_refusal}
use Rattle.session.proofs.promises.session_blindness.Goals as goal

pub returns : goal.returns
returns c = λ cs s. run_blindness_to_refusal 5 cs s.tables s.kinds s.received
