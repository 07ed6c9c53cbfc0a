-- `machine::command::command` meets its contract.
use Rattle.std.proofs.Common.{sym, ◌∙◌}
use Rattle.machine.proofs.Laws.RunTurns.{command-unsound}
use Rattle.machine.proofs.command.command.Goals as goal

pub returns-then-unsound-clause-done : goal.returns-then-unsound-clause-done
returns-then-unsound-clause-done c =
    rw c.of.ensures (sym (command-unsound 5 c.args.c c.args.place _ (sym c.is_lent_soundly-unsound.ensures ∙ c.if-unsound.true)))
