-- `protocols::promises::mixed_protocol_runs` meets its contract.
use Rattle.protocols.proofs.Laws.Apart.Mixed.{mixed_of_input, mixed_of_shares, mixed_of_operands}
use Rattle.protocols.proofs.promises.mixed_protocol_runs.Goals as goal

pub returns-clause-of_input : goal.returns-clause-of_input
returns-clause-of_input c = mixed_of_input

pub returns-clause-of_shares : goal.returns-clause-of_shares
returns-clause-of_shares c = mixed_of_shares

pub returns-clause-of_operands : goal.returns-clause-of_operands
returns-clause-of_operands c = mixed_of_operands
