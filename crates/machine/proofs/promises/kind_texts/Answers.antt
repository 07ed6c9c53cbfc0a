-- `machine::promises::kind_texts` meets its contract.
use Rattle.machine.proofs.Laws.Texts.{kind_texts}
use Rattle.machine.proofs.promises.kind_texts.Goals as goal

pub returns : goal.returns
returns c = kind_texts
