-- The rest of the run, from the loop's state, completes the whole run.
use Rattle.std.proofs.Common.{◌≡◌, true}
use Rattle.protocols.specs.Lent.{SameLists}
use Rattle.machine.specs.Lent.{Lent, lent_lists_of, SameTables, sizes}
use Rattle.machine.specs.Verdict.{is_sound}
use Rattle.machine.specs.Command.{answer}
use Rattle.machine.specs.Run.{run_to_refusal, commands_of, run_outcome_of}
use Rattle.machine.proofs.Laws.RunTurns.{end_after, rest_of_run}
use Rattle.machine.proofs.run.run_soundly.Given as goal

abbrev pub invariant-loop-done : goal.invariant-loop-done
invariant-loop-done l =
    let now : Lent = lent_lists_of l.tables l.inputs l.tapes l.lists in
    let f = l.fn in
    let first : Lent = lent_lists_of f.tables f.inputs f.tapes f.lists in
    let last = answer 0 l.last.place l.last.opened in
    record {
      same_tables : SameTables f.tables l.tables;
      same_lists : SameLists f.lists l.lists;
      stays_sound : is_sound l.last.place (sizes now) l.tables.kinds.now ≡ true;
      comes_to_the_whole : end_after l.done last (rest_of_run l.each l.done last now) ≡ run_outcome_of f.start (run_to_refusal 5 (commands_of l.commands) f.start first);
    }
