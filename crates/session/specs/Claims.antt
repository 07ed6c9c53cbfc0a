-- What is claimed of every session, and of decimal numbers; Specification: Sessions.
-- Each claim is promised by the function of src/promises.rt that its comment names.
use Rattle.std.specs.Prelude.{ℕ, ◌/◌, ◌^◌, ◌≤◌, ◌<◌, ◌≡◌, ◌↔◌, List, [], ◌++◌, length, get_or, take, drop, replicate}
use Rattle.protocols.specs.declared.place.Drawn.{Drawn}
use Rattle.protocols.specs.Place.{Tapes}
use Rattle.machine.specs.declared.code.Command.{Command}
use Rattle.machine.specs.Table.{command_of}
use Rattle.machine.specs.Lent.{Lent, lengths, sizes}
use Rattle.machine.specs.Registers.{registers, opened_registers_to_refusal}
use Rattle.machine.specs.Start.{starting_registers}
use Rattle.machine.specs.Run.{RunResult, run, answer_numbers, empty_place, registers_after}
use Rattle.machine.specs.Refusals.{Lowest}
use Rattle.machine.specs.Claims.{Throughout, BlindRuns}
use Rattle.session.specs.Words.{words_of}
use Rattle.session.specs.Contents.{Sheet, sheet_of}
use Rattle.session.specs.Session.{State, lent_to_commands, state_of, run_of, words_after, outcome_of_run, session}
use Rattle.session.specs.Session.{session_answer, SessionOutcome, session_outcome}
use Rattle.session.specs.Refusals.{AppliesToSession, LowestOfSession}
use Rattle.session.specs.Text.{decimal, value_of, open_lines, open_lines_by_words}

-- the session of a file that is lent the words w and the lists s
module _ (file w : List ℕ) (s : State) where
  -- the sheet of the file
  abbrev pub sheet : Sheet
  sheet = sheet_of (words_of file)

  -- the lists lent to its commands
  abbrev pub lent_at_start : Lent
  lent_at_start = lent_to_commands sheet s

  -- its answer, and the lent words and lists after it
  abbrev pub its_outcome : SessionOutcome
  its_outcome = session file w s

  -- 0 or the number of its refusal
  abbrev pub its_number : ℕ
  its_number = its_outcome.answer.number

  -- it is taken: none of the refusals 1 to 4 applies
  abbrev pub IsTaken : Type 0
  IsTaken = (r : ℕ) → ¬ AppliesToSession file w s r

  -- the run of its first k commands; Specification: Runs
  abbrev pub run_of_first : ℕ → RunResult
  run_of_first k = run 5 (take k sheet.commands) empty_place lent_at_start

  -- the outcome after k commands done, with the number r: the file's words are at the front of the lent ones, and the
  -- others stay
  abbrev pub outcome_after : ℕ → ℕ → SessionOutcome
  outcome_after k r =
      session_outcome (session_answer k (run_of_first k).place r) (words_of file ++ drop (length file / 4) w)
      (state_of (run_of_first k).lent)

  -- ---- 1. A session that is taken runs its commands up to the first refusal; Specification: Sessions.

  pub data UpToRefusal : Type 0 where
    -- every command is accepted
    runs_to_end : answer_numbers (run_of_first (length sheet.commands)) ≡ replicate (length sheet.commands) 0
        → its_outcome ≡ outcome_after (length sheet.commands) 0 → UpToRefusal
    -- command k, counted from 0, is the first refused one, and r is the lowest number that applies to it; what the
    -- commands before it left remains
    stops_at : (k r : ℕ) → 5 ≤ r → k < length sheet.commands → answer_numbers (run_of_first k) ≡ replicate k 0
        → Lowest 5 (get_or sheet.commands k (command_of 0 0 0)) (run_of_first k).place (run_of_first k).lent r
        → its_outcome ≡ outcome_after k r → UpToRefusal

  -- ---- 2. Refusals: when a session is refused as a whole, and that it runs its commands otherwise.

  -- promised by `session_refusals`: refusals 1 to 4 as the table says, and otherwise the run of the commands up to the
  -- first refusal; Specification: Table of refusals
  pub record SessionRefusals : Type 0 where
    -- the lowest of the numbers 1 to 4 that applies is answered; Specification: Order of refusals
    pub refused : (r : ℕ) → 0 < r → r ≤ 4 → (its_number ≡ r) ↔ LowestOfSession file w s r
    -- if one applies, no command is done, and no lent word or list changes
    pub unchanged : ¬ IsTaken → its_outcome ≡ session_outcome (session_answer 0 empty_place its_number) w s
    -- otherwise the commands are run up to the first refusal
    pub taken : IsTaken → UpToRefusal
    -- and this is the run of which blindness is claimed
    pub runs : IsTaken → its_outcome ≡ outcome_of_run (run_of sheet s) (words_after file w)

  -- ---- 3. Agreement with the register machine; Specification: Registers.

  -- promised by `session_agreement`: if a file of bytes is taken, the shares combine to the words of the register
  -- machine, and its opened words are printed
  pub record SessionAgreement : Type 0 where
    -- at each command done
    pub throughout : Throughout 5 (take its_outcome.answer.done sheet.commands) empty_place lent_at_start
    -- at the end, the register machine run by itself on the commands done holds what the shares combine to
    pub same_registers : starting_registers 5 its_outcome.answer.place (lent_to_commands sheet its_outcome.state)
        ≡ registers_after 5 (take its_outcome.answer.done sheet.commands) (sizes lent_at_start) sheet.inputs
        (registers [] empty_place)
    -- the words in the lines of opens are the register machine's; Specification: Opened words
    pub same_opened : open_lines sheet.commands (run_of sheet s).answers
        ≡ open_lines_by_words (take its_outcome.answer.done sheet.commands)
        (opened_registers_to_refusal 5 sheet.commands (sizes lent_at_start) sheet.inputs (registers [] empty_place))

-- ---- 4. Blindness of two sheets with the same commands, and the inputs x and y; Specification: Blindness.

-- the sheet of these commands, inputs and tapes
abbrev pub sheet_with : List Command → List ℕ → Tapes → Sheet
sheet_with cs inputs t = record { commands = cs; inputs = inputs; tapes = t }

-- promised by `session_blindness`: every miner's record is blind to the inputs, and so is the controller's if both
-- inputs give the same opened words
abbrev pub SessionBlindness : List Command → State → Drawn → List ℕ → List ℕ → Type 0
SessionBlindness cs s d x y = BlindRuns (2 ^ 32) d (λ i t. run_of (sheet_with cs i t) s)
    (λ i. opened_registers_to_refusal 5 cs (lengths s.tables s.kinds i d s.received) i (registers [] empty_place)) x y

-- ---- 5. Numbers are printed in decimal; Specification: Lines.

-- promised by `decimal`: the digits of a number below 2 ^ 64 spell it, without leading zeros; 48 to 57 are 0 to 9
pub record Decimal (n : ℕ) : Type 0 where
  pub are_digits : (i : ℕ) → i < length (decimal n)
      → (48 ≤ get_or (decimal n) i 0) × (get_or (decimal n) i 0 ≤ 57)
  pub no_leading_zero : 0 < n → 48 < get_or (decimal n) 0 0
  pub spells : value_of 0 (decimal n) ≡ n
