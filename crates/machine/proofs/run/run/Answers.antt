-- `machine::run::run` meets its contract.
use Rattle.std.proofs.Common.{sym, ◌∙◌}
use Rattle.machine.proofs.Laws.RunTurns.{run-unsound}
use Rattle.machine.proofs.run.run.Goals as goal

pub returns-then-unsound-clause-done : goal.returns-then-unsound-clause-done
returns-then-unsound-clause-done c =
    run-unsound c.args.start _ (sym c.is_lent_soundly-unsound.ensures ∙ c.if-unsound.true)
    c.args.commands.now c.refuse_first.result c.refuse_first.ensures.done c.refuse_first.ensures.last
