-- `machine::promises::run_blindness` meets its contract.
use Rattle.machine.proofs.Laws.Blind.Runs.{run_blindness}
use Rattle.machine.proofs.promises.run_blindness.Goals as goal

pub returns-clause-every_width : goal.returns-clause-every_width
returns-clause-every_width c = run_blindness

pub returns-clause-at_32 : goal.returns-clause-at_32
returns-clause-at_32 c = run_blindness 5
