-- The worked session, one that stops, an empty one and a file of no word, by computation.
-- Every definition behind a session is unfolded here. The lent words stay unknown: a session tests only their count.
use Prim.Native.Nat.{ℕ, ◌≤◌}
use mathlib.Core.Path.{◌≡◌, refl, ap, ◌∙◌}
use mathlib.Core.Bool.{Bool, true, false}
use mathlib.Core.List.{List, []}
use lib.ListN.{length}
use lib.Dec.{ltb}
use lib.Chars.{codes}
use borrow.Author.Tests.{le-leb}
use Rattle.protocols.specs.Word.{add, sub, mul}
use Rattle.protocols.specs.Shares.{sum_of}
use Rattle.protocols.specs.Place.{block}
use Rattle.protocols.specs.Store.{store}
use Rattle.protocols.specs.Multiply.{multiply}
use Rattle.protocols.specs.Open.{opening}
use Rattle.machine.specs.Verdict.{row_verdict, verdict}
use Rattle.machine.specs.Steps.{protocol}
use Rattle.machine.specs.Command.{accepted_outcome, command}
use Rattle.machine.specs.Run.{run_to_refusal, commands_of, refused_number}
use Rattle.machine.specs.Run.{accepted_count as commands_done}
use Rattle.session.specs.Words.{words_of}
use Rattle.session.specs.Contents.{sheet_of, is_chained, is_within_limits}
use Rattle.session.specs.Session.{words_after, first_refusal, run_of, SessionOutcome, outcome_of_run, session}
use Rattle.session.specs.Text.{digits, spaced_numbers, open_line, end_line, stop_line, refusal_line, open_lines, text_of, pool_outcome, pool}
use Rattle.session.specs.Worked.{bytes, worked_file, stopped_file, empty_file, state_before, WorkedSession}
use Rattle.session.proofs.Laws.Session.{session-run}

-- the outcome of the run of a file's commands with the words w lent, and its text
abbrev run_outcome : List ℕ → List ℕ → SessionOutcome
run_outcome file w = outcome_of_run (run_of (sheet_of (words_of file)) state_before) (words_after file w)

abbrev run_text : List ℕ → List ℕ
run_text file = text_of (sheet_of (words_of file)) state_before (run_outcome file []).answer

-- a file that passes the tests of files, with enough words lent
module _ (file w : List ℕ) (sound : first_refusal file true ≡ 0) (h : 7692 ≤ length w) where
  runs : session file w state_before ≡ run_outcome file w
  runs = session-run file w state_before (ap (λ (enough : Bool). first_refusal file enough) (le-leb 7692 (length w) h) ∙ sound)

  -- if the file is not too long for the program
  prints : ltb 30768 (length file) ≡ false → (t : List ℕ) → run_text file ≡ t
      → pool file w state_before ≡ pool_outcome t (words_after file w) (run_outcome file w).state
  unfolding pool
  prints short t e = rw (short, runs, e)

-- the texts of the files
text_of_worked : run_text (bytes worked_file) ≡ codes "open 3 35\nend 4 7 7 7 3\n"
unfolding add sub mul sum_of block store multiply opening row_verdict verdict protocol accepted_outcome command run_to_refusal commands_of
    commands_done refused_number words_of digits spaced_numbers open_line end_line open_lines text_of
text_of_worked = refl

text_of_stopped : run_text (bytes stopped_file) ≡ codes "refused 7 at 1\n"
unfolding add sub mul sum_of block store row_verdict verdict protocol accepted_outcome command run_to_refusal commands_of commands_done
    refused_number words_of digits spaced_numbers stop_line open_lines text_of
text_of_stopped = refl

text_of_empty : run_text (bytes empty_file) ≡ codes "end 0 0 0 0 0\n"
unfolding run_to_refusal commands_of commands_done refused_number words_of digits spaced_numbers end_line open_lines text_of
text_of_empty = refl

text_of_no_word : (w : List ℕ) → pool [] w state_before ≡ pool_outcome (codes "refused 1\n") w state_before
unfolding words_of first_refusal digits spaced_numbers refusal_line text_of session pool
text_of_no_word w = refl

pub worked_session : WorkedSession
unfolding add sub mul sum_of block store multiply opening row_verdict verdict protocol accepted_outcome command run_to_refusal commands_of
    commands_done refused_number words_of is_chained is_within_limits first_refusal session
worked_session = record {
  worked_outcome = λ w. runs (bytes worked_file) w refl;
  worked_text = λ w h. prints (bytes worked_file) w refl h refl (codes "open 3 35\nend 4 7 7 7 3\n") text_of_worked;
  stopped_outcome = λ w. runs (bytes stopped_file) w refl;
  stopped_text = λ w h. prints (bytes stopped_file) w refl h refl (codes "refused 7 at 1\n") text_of_stopped;
  empty_outcome = λ w. runs (bytes empty_file) w refl;
  empty_text = λ w h. prints (bytes empty_file) w refl h refl (codes "end 0 0 0 0 0\n") text_of_empty;
  no_word_outcome = λ w. refl;
  no_word_text = text_of_no_word;
}
