-- `protocols::promises::word_forms` meets its contract.
use Rattle.protocols.proofs.Laws.WordForm.{word_forms}
use Rattle.protocols.proofs.promises.word_forms.Goals as goal

pub returns : goal.returns
returns c = word_forms
