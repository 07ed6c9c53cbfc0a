-- The worked session, one that stops, the empty one and a file of no word: what they answer, print and leave;
-- Specification: Worked sessions. tests/worked_session.py prints this file: its numbers come from a second writing of
-- the machine, which shares no code with the engine.
use Rattle.std.specs.Prelude.{◌≡◌, ℕ, ◌/◌, ◌%◌, ◌≤◌, List, [], ◌∷◌, ◌++◌, length, drop, replicate, codes}
use Rattle.protocols.specs.Place.{lists, place_of}
use Rattle.machine.specs.Lent.{tables}
use Rattle.machine.specs.Run.{empty_place}
use Rattle.session.specs.Session.{State, state, session_answer, session_outcome, session}
use Rattle.session.specs.Text.{pool_outcome, pool}

-- ---- the files

-- words as bytes, the lowest byte of each first; Specification: Sheet file
abbrev pub bytes : List ℕ → List ℕ
bytes [] = []
bytes (w ∷ l) = w % 256 ∷ w / 256 % 256 ∷ w / 65536 % 256 ∷ w / 16777216 ∷ bytes l

-- start and count of each body; four commands; two inputs; the tapes of the provider and miners 1, 2, 3
abbrev pub worked_file : List ℕ
worked_file =
    12 ∷ 12 ∷ 24 ∷ 2 ∷ 26 ∷ 4 ∷ 30 ∷ 3 ∷ 33 ∷ 3 ∷ 36 ∷ 3 ∷
    1 ∷ 0 ∷ 0 ∷ 1 ∷ 0 ∷ 0 ∷ 6 ∷ 1 ∷ 2 ∷ 11 ∷ 3 ∷ 0 ∷
    7 ∷ 5 ∷
    1 ∷ 2 ∷ 3 ∷ 4 ∷
    10 ∷ 20 ∷ 70 ∷
    30 ∷ 40 ∷ 80 ∷
    50 ∷ 60 ∷ 90 ∷ []

-- a store, and an add that names handle 0
abbrev pub stopped_file : List ℕ
stopped_file =
    12 ∷ 6 ∷ 18 ∷ 1 ∷ 19 ∷ 2 ∷ 21 ∷ 0 ∷ 21 ∷ 0 ∷ 21 ∷ 0 ∷
    1 ∷ 0 ∷ 0 ∷ 2 ∷ 0 ∷ 1 ∷
    7 ∷
    1 ∷ 2 ∷ []

-- six bodies without a word
abbrev pub empty_file : List ℕ
empty_file =
    12 ∷ 0 ∷ 12 ∷ 0 ∷ 12 ∷ 0 ∷ 12 ∷ 0 ∷ 12 ∷ 0 ∷ 12 ∷ 0 ∷ []

-- ---- what the program lends, and what the first two sessions leave in it; Specification: Program

abbrev pub zeros : ℕ → List ℕ
zeros n = replicate n 0

-- share tables and kind list; received lists
abbrev pub state_before : State
state_before =
    state (tables (zeros 128) (zeros 128) (zeros 128)) (zeros 128)
    (lists (zeros 3584) (zeros 3584) (zeros 3584) (zeros 3584))

-- two values and their product
abbrev pub state_after : State
state_after =
    state
    (tables
    (1 ∷ 3 ∷ 4294967149 ∷ zeros 125)
    (2 ∷ 4 ∷ 4294966074 ∷ zeros 125)
    (4 ∷ 4294967294 ∷ 1404 ∷ zeros 125))
    (1 ∷ 1 ∷ 1 ∷ zeros 125)
    (lists
    (1 ∷ 3 ∷ 50 ∷ 60 ∷ 24 ∷ 18 ∷ 90 ∷ zeros 3577)
    (2 ∷ 4 ∷ 10 ∷ 20 ∷ 4294967257 ∷ 4294967259 ∷ 70 ∷ zeros 3577)
    (4 ∷ 4294967294 ∷ 30 ∷ 40 ∷ 22 ∷ 24 ∷ 80 ∷ zeros 3577)
    (4294967129 ∷ 4294966084 ∷ 1414 ∷ zeros 3581))

-- the value that was stored
abbrev pub state_after_stop : State
state_after_stop =
    state
    (tables
    (1 ∷ zeros 127)
    (2 ∷ zeros 127)
    (4 ∷ zeros 127))
    (1 ∷ zeros 127)
    (lists
    (1 ∷ zeros 3583)
    (2 ∷ zeros 3583)
    (4 ∷ zeros 3583)
    (zeros 3584))

-- promised by `worked_session`: whatever words are lent, if there are 7692 or more, the bytes of these three files
-- give exactly these answers and texts, and leave exactly these shares, kinds and received words, every list whole, and
-- the file's words at the front of the lent ones; the lent words behind them stay. A file of no word is refused.
-- Specification: Worked sessions; Sessions.
pub record WorkedSession : Type 0 where
  -- four commands are done
  pub worked_outcome : (w : List ℕ) → 7692 ≤ length w
      → session (bytes worked_file) w state_before
      ≡ session_outcome (session_answer 4 (place_of (3 ∷ 2 ∷ 4 ∷ 3 ∷ 3 ∷ 3 ∷ 7 ∷ 7 ∷ 7 ∷ 3 ∷ [])) 0)
      (worked_file ++ drop 39 w) state_after
  pub worked_text : (w : List ℕ) → 7692 ≤ length w
      → pool (bytes worked_file) w state_before
      ≡ pool_outcome (codes "open 3 35\nend 4 7 7 7 3\n") (worked_file ++ drop 39 w) state_after
  -- one command is done, and what it wrote remains; the next one is refused
  pub stopped_outcome : (w : List ℕ) → 7692 ≤ length w
      → session (bytes stopped_file) w state_before
      ≡ session_outcome (session_answer 1 (place_of (1 ∷ 1 ∷ 2 ∷ 0 ∷ 0 ∷ 0 ∷ 1 ∷ 1 ∷ 1 ∷ 0 ∷ [])) 7)
      (stopped_file ++ drop 21 w) state_after_stop
  pub stopped_text : (w : List ℕ) → 7692 ≤ length w
      → pool (bytes stopped_file) w state_before
      ≡ pool_outcome (codes "refused 7 at 1\n") (stopped_file ++ drop 21 w) state_after_stop
  -- no command is done, and only the lent words change
  pub empty_outcome : (w : List ℕ) → 7692 ≤ length w
      → session (bytes empty_file) w state_before
      ≡ session_outcome (session_answer 0 empty_place 0) (empty_file ++ drop 12 w) state_before
  pub empty_text : (w : List ℕ) → 7692 ≤ length w
      → pool (bytes empty_file) w state_before
      ≡ pool_outcome (codes "end 0 0 0 0 0\n") (empty_file ++ drop 12 w) state_before
  -- no command is done, and nothing changes
  pub no_word_outcome : (w : List ℕ)
      → session [] w state_before ≡ session_outcome (session_answer 0 empty_place 1) w state_before
  pub no_word_text : (w : List ℕ)
      → pool [] w state_before ≡ pool_outcome (codes "refused 1\n") w state_before
