-- `protocols::promises::on_tapes` meets its contract.
use Rattle.protocols.proofs.Laws.Perform.{on_tapes}
use Rattle.protocols.proofs.promises.on_tapes.Goals as goal

pub returns-clause-of_input : goal.returns-clause-of_input
returns-clause-of_input c = on_tapes

pub returns-clause-of_shares : goal.returns-clause-of_shares
returns-clause-of_shares c = on_tapes

pub returns-clause-of_operands : goal.returns-clause-of_operands
returns-clause-of_operands c = on_tapes
