-- `machine::promises::transcript` meets its contract.
use Rattle.machine.proofs.Laws.Transcript.{transcript}
use Rattle.machine.proofs.promises.transcript.Goals as goal

pub returns : goal.returns
returns c = transcript
