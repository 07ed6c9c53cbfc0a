-- `machine::promises::refusal_texts` meets its contract.
use Rattle.machine.proofs.Laws.Texts.{refusal_texts}
use Rattle.machine.proofs.promises.refusal_texts.Goals as goal

pub returns : goal.returns
returns c = refusal_texts
