-- `machine::accept::accept` meets its contract.
use Rattle.std.proofs.Common.{arith}
use Rattle.machine.proofs.Laws.Accept.{played_follows_verdict, fits_if_done, played_command_outcome}
use Rattle.machine.proofs.accept.accept.Goals as goal

pub finish-requires-clause-fits : goal.finish-requires-clause-fits
finish-requires-clause-fits g c =
    fits_if_done g.O.Operation.code c.args.c c.args.place _ c.requires (omega arith) (omega arith) (omega arith) (omega arith) (omega arith) (omega arith)
    c.row-x.ensures (played_follows_verdict g.O.Operation.code c.args.c c.args.place _ c.requires c.arguments-g.result (rw c.row-x.ensures at c.arguments-g.ensures) c.play_by_list-played.ensures)

pub finish-requires-clause-entries : goal.finish-requires-clause-entries
finish-requires-clause-entries g c = rw c.row-x.ensures c.requires.entries

pub returns-clause-decided : goal.returns-clause-decided
returns-clause-decided g c =
    played_command_outcome g.O.Operation.code c.args.c c.args.place _ c.requires c.row-x.ensures
    (played_follows_verdict g.O.Operation.code c.args.c c.args.place _ c.requires c.arguments-g.result (rw c.row-x.ensures at c.arguments-g.ensures) c.play_by_list-played.ensures)
    c.finish.ensures.outcome
