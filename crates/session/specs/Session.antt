-- A session: its answer, and all lent lists after it; Specification: Sessions.
use Rattle.std.specs.Prelude.{ℕ, ◌/◌, ◌%◌, Bool, cond, ◌&&◌, List, [], ◌∷◌, ◌++◌, length, take, drop, nat_le, nat_eq}
use Rattle.protocols.specs.declared.place.Place.{Place}
use Rattle.protocols.specs.Place.{Lists}
use Rattle.protocols.specs.declared.lent.Lists as code_lists
use Rattle.protocols.specs.Lent.{lists_of}
use Rattle.machine.specs.declared.lent.Tables as code_tables
use Rattle.machine.specs.Lent.{Tables, tables_of, Lent, lent_lists, sizes}
use Rattle.machine.specs.Verdict.{same_length}
use Rattle.machine.specs.Run.{RunResult, run_to_refusal, accepted_count, refused_number, empty_place}
use Rattle.session.specs.declared.answer.SessionAnswer.{SessionAnswer}
use Rattle.session.specs.Words.{words_of}
use Rattle.session.specs.Contents.{Sheet, is_chained, limits, is_within_limits, count_of, sheet_of}

-- the lists that a session is lent besides its file and the words
pub record State : Type 0 where
  pub tables : Tables
  pub kinds : List ℕ
  pub received : Lists

-- a state from its parts
abbrev pub state : Tables → List ℕ → Lists → State
state t k r = record { tables = t; kinds = k; received = r }

-- the state of the lists that the code is lent
abbrev pub lent_state : code_tables.Tables → code_lists.Lists → State
lent_state t r = state (tables_of t) t.kinds.now (lists_of r)

-- the lists lent to a sheet's commands: the sheet's inputs and tapes, and the lists lent to the session
abbrev pub lent_to_commands : Sheet → State → Lent
lent_to_commands b s = lent_lists s.tables s.kinds b.inputs b.tapes s.received

-- the session's lists among these
abbrev pub state_of : Lent → State
state_of l = state l.tables l.kinds l.received

-- ---- refusals 1 to 4, of the session as a whole; Specification: Table of refusals

-- the test of 1: the file has at least 48 bytes, and their number is a multiple of 4
abbrev pub is_whole : List ℕ → Bool
is_whole file = nat_le 48 (length file) && nat_eq (length file % 4) 0

-- the test of 2: the bodies follow one another from word 12 to the file's end
abbrev pub has_chained_contents : List ℕ → Bool
has_chained_contents file = is_chained 12 (take 12 (words_of file)) (length file / 4)

-- the test of 3: no body is over its limit, and the count of command words is a multiple of 3
abbrev pub has_legal_counts : List ℕ → Bool
has_legal_counts file =
    is_within_limits limits (take 12 (words_of file)) && nat_eq (count_of (words_of file) 0 % 3) 0

-- the test of 4: the share tables and the kind list have one length, and at least 7,692 words are lent
abbrev pub is_lent : Sheet → List ℕ → State → Bool
is_lent b w s = same_length (sizes (lent_to_commands b s)) && nat_le 7692 (length w)

-- the number beside the first test that fails, or 0
abbrev pub first_failure : List (ℕ × Bool) → ℕ
first_failure [] = 0
first_failure ((number, holds) ∷ later) = cond holds (first_failure later) number

-- the lowest number whose test fails, or 0; `fits` is the test of 4; Specification: Order of refusals
unfoldable pub first_refusal : List ℕ → Bool → ℕ
first_refusal file fits =
    first_failure
    ((1, is_whole file) ∷ (2, has_chained_contents file) ∷ (3, has_legal_counts file) ∷ (4, fits) ∷ [])

-- the refusal 1 to 4 of the session of a file that is lent the words w and the lists s, or 0
abbrev pub early_refusal : List ℕ → List ℕ → State → ℕ
early_refusal file w s = first_refusal file (is_lent (sheet_of (words_of file)) w s)

-- ---- the run

-- the run of a sheet, from an empty place record up to the first refusal; Specification: Runs
abbrev pub run_of : Sheet → State → RunResult
run_of b s = run_to_refusal 5 b.commands empty_place (lent_to_commands b s)

-- ---- the outcome

-- what a session answers: how many commands were done, the place record after them, 0 or the number of the refusal
abbrev pub session_answer : ℕ → Place → ℕ → SessionAnswer
session_answer done p r = record { done = done; place = p; number = r }

-- the answer, and the lent words and lists after the session
pub record SessionOutcome : Type 0 where
  pub answer : SessionAnswer
  pub words : List ℕ
  pub state : State

-- an outcome from its parts
abbrev pub session_outcome : SessionAnswer → List ℕ → State → SessionOutcome
session_outcome a w s = record { answer = a; words = w; state = s }

-- a session that is refused as a whole does no command and leaves the words and lists as they were
abbrev pub outcome_of_refusal : ℕ → List ℕ → State → SessionOutcome
outcome_of_refusal r w s = session_outcome (session_answer 0 empty_place r) w s

-- the lent words after a session that is taken: those of the file, then the others as they were
abbrev pub words_after : List ℕ → List ℕ → List ℕ
words_after file w = words_of file ++ drop (length file / 4) w

-- the answer of a run: how many commands it accepted, the place record after it, its refusal number
abbrev pub answer_of_run : RunResult → SessionAnswer
answer_of_run r = session_answer (accepted_count r.answers) r.place (refused_number r.answers)

-- the outcome of a run, with the lent words w
abbrev pub outcome_of_run : RunResult → List ℕ → SessionOutcome
outcome_of_run r w = session_outcome (answer_of_run r) w (state_of r.lent)

-- a session is refused as a whole, or it is the run of its sheet; Specification: Sessions
unfoldable pub session : List ℕ → List ℕ → State → SessionOutcome
session file w s =
    let number = early_refusal file w s in
    cond (nat_eq number 0) (outcome_of_run (run_of (sheet_of (words_of file)) s) (words_after file w))
    (outcome_of_refusal number w s)
