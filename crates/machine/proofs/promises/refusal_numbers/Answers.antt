-- `machine::promises::refusal_numbers` meets its contract.
use Rattle.machine.proofs.Laws.Texts.{refusal_numbers}
use Rattle.machine.proofs.promises.refusal_numbers.Goals as goal

pub returns : goal.returns
returns c = refusal_numbers
