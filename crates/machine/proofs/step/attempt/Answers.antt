-- `machine::step::attempt` meets its contract.
use Rattle.std.proofs.Common.{refl}
use Rattle.std.proofs.lemmas.Result.{err_from_is_err_and}
use Rattle.machine.proofs.Laws.Tested.{is_ready}
use Rattle.machine.proofs.Laws.Step.{command-refused, command-passed}
use Rattle.machine.proofs.step.attempt.Goals as goal

pub returns-in_err-row_refusal-clause-done : goal.returns-in_err-row_refusal-clause-done
returns-in_err-row_refusal-clause-done g c =
    let p = err_from_is_err_and c.from_residual.result c.from_residual.ensures.1 in
    rw (p.1, p.2)
    (command-refused c.args.c c.args.place _ c.requires.sound g.O.Operation.code refl c.requires.known
    (rw (c.kinds.ensures, c.row.ensures) at c.in_err-row_refusal.ensures) refl)

pub accept-requires : goal.accept-requires
accept-requires g c =
    is_ready g.O.Operation.code c.args.c c.args.place _ c.requires.sound (rw (c.kinds.ensures, c.row.ensures) at c.in_ok-row_refusal.ensures)

pub returns-clause-done : goal.returns-clause-done
returns-clause-done g c =
    command-passed c.args.c c.args.place _ c.requires.sound g.O.Operation.code refl c.requires.known
    (rw (c.kinds.ensures, c.row.ensures) at c.in_ok-row_refusal.ensures)
    c.accept.ensures.decided
