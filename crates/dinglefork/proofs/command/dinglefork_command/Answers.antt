-- `dinglefork_command` meets its contract. The check can prove this without an answer; the answer is here so that an
-- edit that passes other tapes is refused because an equation is false.
use Rattle.dinglefork.proofs.command.dinglefork_command.Goals as goal

pub returns-clause-done : goal.returns-clause-done
returns-clause-done c = c.command.ensures.done
