-- `protocols::promises::same_protocol_view` meets its contract.
use Rattle.protocols.proofs.Laws.Apart.View.{view_of_input, view_of_shares, view_of_operands}
use Rattle.protocols.proofs.promises.same_protocol_view.Goals as goal

pub returns-clause-of_input : goal.returns-clause-of_input
returns-clause-of_input c = view_of_input

pub returns-clause-of_shares : goal.returns-clause-of_shares
returns-clause-of_shares c = view_of_shares

pub returns-clause-of_operands : goal.returns-clause-of_operands
returns-clause-of_operands c = view_of_operands
