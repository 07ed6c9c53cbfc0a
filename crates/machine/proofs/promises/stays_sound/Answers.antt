-- `machine::promises::stays_sound` meets its contract.
use Rattle.machine.proofs.Laws.Sound.{stays_sound}
use Rattle.machine.proofs.promises.stays_sound.Goals as goal

pub returns : goal.returns
returns c = stays_sound
