-- `protocols::promises::transcripts` meets its contract.
use Rattle.protocols.proofs.Laws.Transcripts.{transcripts}
use Rattle.protocols.proofs.promises.transcripts.Goals as goal

pub returns : goal.returns
returns c = transcripts
