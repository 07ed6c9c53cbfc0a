-- The records of miners and controller after a run, and what equal records have in common; Specification: Records.
use Rattle.std.specs.Prelude.{ℕ, ◌<◌, ◌≡◌, List, map, get_or}
use Rattle.protocols.specs.Shares.{Miner}
use Rattle.protocols.specs.Place.{tape, owner, Receiver, miner, controller, list}
use Rattle.protocols.specs.Counts.{count_for}
use Rattle.machine.specs.Lent.{table, entry, IsFilled, filled_shares, received_words}
use Rattle.machine.specs.Run.{RunResult, answer_numbers, Reply, reply}

-- a miner's record; Specification: Records
pub record MinerRecord : Type 0 where
  pub tape : List ℕ
  pub shares : List ℕ
  pub received : List ℕ
  pub replies : List Reply

-- miner i's record after the run r; Specification: Records
abbrev pub miner_record : Miner → RunResult → MinerRecord
miner_record i r = record {
  tape = tape (owner i) r.lent.tapes;
  shares = filled_shares r.place r.lent i;
  received = received_words r.place r.lent (miner i);
  replies = map reply r.answers;
}

-- the controller's record; Specification: Records
pub record ControllerRecord : Type 0 where
  pub received : List ℕ
  pub opened : List ℕ
  pub replies : List Reply

-- this record after the run r; Specification: Records
abbrev pub controller_record : RunResult → ControllerRecord
controller_record r = record {
  received = received_words r.place r.lent controller;
  opened = map (λ a. a.opened) r.answers;
  replies = map reply r.answers;
}

-- ---- what equal records have in common

-- both runs have equal numbers and equal place records
abbrev pub SameReplies : RunResult → RunResult → Type 0
SameReplies r r' =
    (answer_numbers r ≡ answer_numbers r') × (map (λ a. a.place) r.answers ≡ map (λ a. a.place) r'.answers)

-- receiver q has the same words after both runs
abbrev pub SameWords : Receiver → RunResult → RunResult → Type 0
SameWords q r r' = (k : ℕ) → k < count_for q r.place.received → k < count_for q r'.place.received
    → get_or (list q r.lent.received) k 0 ≡ get_or (list q r'.lent.received) k 0

-- both runs are the same in each part of miner i's record
pub record SameToMiner (i : Miner) (r r' : RunResult) : Type 0 where
  pub same_tape : tape (owner i) r.lent.tapes ≡ tape (owner i) r'.lent.tapes
  pub same_shares : (h : ℕ) → IsFilled r.place h → IsFilled r'.place h
      → entry (table i r.lent.tables) h ≡ entry (table i r'.lent.tables) h
  pub same_words : SameWords (miner i) r r'
  pub same_replies : SameReplies r r'

-- both runs are the same in each part of the controller's record
pub record SameToController (r r' : RunResult) : Type 0 where
  pub same_words : SameWords controller r r'
  pub same_opened : map (λ a. a.opened) r.answers ≡ map (λ a. a.opened) r'.answers
  pub same_replies : SameReplies r r'
