-- When the refusals 1 to 4 apply to a session, as plain propositions; Specification: Table of refusals.
use Rattle.std.specs.Prelude.{ℕ, zero, suc, ◌+◌, ◌%◌, ◌<◌, ◌≡◌, List, length, get_or}
use Rattle.protocols.specs.Shares.{Miner}
use Rattle.machine.specs.Lent.{table}
use Rattle.session.specs.Words.{words_of}
use Rattle.session.specs.Contents.{start_of, count_of, limits}
use Rattle.session.specs.Session.{State}

-- where body k must start; for k = 6, where the file must end; Specification: Contents
abbrev pub due_start : List ℕ → ℕ → ℕ
due_start w zero = 12
due_start w (suc k) = start_of w k + count_of w k

-- the number applies to the session of a file that is lent the words w and the lists s
pub data AppliesToSession (file w : List ℕ) (s : State) : ℕ → Type 0 where
  -- 1: the file has fewer than 48 bytes, or their number is no multiple of 4
  too_short : length file < 48 → AppliesToSession file w s 1
  no_words : ¬ (length file % 4 ≡ 0) → AppliesToSession file w s 1
  -- 2: a body does not start where it must, or the last one does not end the file
  wrong_start : (k : ℕ) → k < 6 → ¬ (start_of (words_of file) k ≡ due_start (words_of file) k)
      → AppliesToSession file w s 2
  wrong_end : ¬ (due_start (words_of file) 6 ≡ length (words_of file)) → AppliesToSession file w s 2
  -- 3: a body is over its limit, or the count of command words is no multiple of 3
  over_limit : (k : ℕ) → k < 6 → get_or limits k 0 < count_of (words_of file) k → AppliesToSession file w s 3
  not_in_threes : ¬ (count_of (words_of file) 0 % 3 ≡ 0) → AppliesToSession file w s 3
  -- 4: a share table and the kind list differ in length, or fewer than 7,692 words are lent
  lengths_differ : (i : Miner) → ¬ (length (table i s.tables) ≡ length s.kinds) → AppliesToSession file w s 4
  few_words : length w < 7692 → AppliesToSession file w s 4

-- the lowest number that applies; Specification: Order of refusals
abbrev pub LowestOfSession : List ℕ → List ℕ → State → ℕ → Type 0
LowestOfSession file w s r = AppliesToSession file w s r × ((q : ℕ) → q < r → ¬ AppliesToSession file w s q)
