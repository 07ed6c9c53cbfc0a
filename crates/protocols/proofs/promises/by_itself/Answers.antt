-- `protocols::promises::by_itself` meets its contract.
use Rattle.protocols.proofs.Laws.Apart.Alone.{by_itself}
use Rattle.protocols.proofs.promises.by_itself.Goals as goal

pub returns-clause-of_words : goal.returns-clause-of_words
returns-clause-of_words c = by_itself

pub returns-clause-of_tables : goal.returns-clause-of_tables
returns-clause-of_tables c = by_itself
