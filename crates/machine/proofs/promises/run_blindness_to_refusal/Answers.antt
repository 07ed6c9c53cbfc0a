-- `machine::promises::run_blindness_to_refusal` meets its contract.
use Rattle.machine.proofs.Laws.Blind.Refusal.{run_blindness_to_refusal}
use Rattle.machine.proofs.promises.run_blindness_to_refusal.Goals as goal

pub returns-clause-every_width : goal.returns-clause-every_width
returns-clause-every_width c = run_blindness_to_refusal

pub returns-clause-at_32 : goal.returns-clause-at_32
returns-clause-at_32 c = run_blindness_to_refusal 5
