-- Blindness of the worked session's commands, stated in lists of words alone; Specification: Blindness.
-- What a miner has after them is equally likely for other inputs, and what the controller has for inputs of the same
-- product.
use Rattle.std.specs.Prelude.{ℕ, ◌<◌, ◌^◌, ◌≡◌, List, [], ◌∷◌, map, length, get_or, take}
use Rattle.protocols.specs.Shares.{Miner}
use Rattle.protocols.specs.Place.{Tapes, tape, owner, miner, list}
use Rattle.protocols.specs.Counts.{count_for}
use Rattle.machine.specs.declared.code.Command.{Command}
use Rattle.machine.specs.Table.{command_of}
use Rattle.machine.specs.Lent.{table}
use Rattle.machine.specs.Run.{RunResult}
use Rattle.session.specs.Session.{State, run_of}
use Rattle.session.specs.Claims.{sheet_with}

-- store, store, multiply handles 1 and 2, open handle 3
abbrev pub commands : List Command
commands = command_of 1 0 0 ∷ command_of 1 0 0 ∷ command_of 6 1 2 ∷ command_of 11 3 0 ∷ []

-- their run on the inputs a and b and the tapes t, with the lists s lent
abbrev pub run_of_inputs : State → ℕ → ℕ → Tapes → RunResult
run_of_inputs s a b t = run_of (sheet_with commands (a ∷ b ∷ []) t) s

-- ---- tapes with as many words as these commands draw

-- a tape of n words
pub record IsTape (n : ℕ) (l : List ℕ) : Type 0 where
  pub long : length l ≡ n
  pub words : (k : ℕ) → k < n → get_or l k 0 < 2 ^ 32

-- the four tapes
pub record AreTapes (t : Tapes) : Type 0 where
  pub provider : IsTape 4 t.provider
  pub one : IsTape 3 t.one
  pub two : IsTape 3 t.two
  pub three : IsTape 3 t.three

-- the same, with this list as miner i's own tape
pub record AreTapesWith (i : Miner) (own : List ℕ) (t : Tapes) : Type 0 where
  pub tapes : AreTapes t
  pub its_own : tape (owner i) t ≡ own

-- ---- the same after two runs

-- the numbers and place records that the commands answered
pub record SameAnswers (r r' : RunResult) : Type 0 where
  pub numbers : map (λ a. a.number) r.answers ≡ map (λ a. a.number) r'.answers
  pub places : map (λ a. a.place) r.answers ≡ map (λ a. a.place) r'.answers

-- what miner i has besides its tape: received words, shares of filled handles, answers
pub record SameForMiner (i : Miner) (r r' : RunResult) : Type 0 where
  pub received : take (count_for (miner i) r.place.received) (list (miner i) r.lent.received)
      ≡ take (count_for (miner i) r'.place.received) (list (miner i) r'.lent.received)
  pub shares : take r.place.handles (table i r.lent.tables) ≡ take r'.place.handles (table i r'.lent.tables)
  pub answers : SameAnswers r r'

-- what the controller has: received words, opened words, answers
pub record SameForController (r r' : RunResult) : Type 0 where
  pub received : take r.place.received.controller r.lent.received.controller
      ≡ take r'.place.received.controller r'.lent.received.controller
  pub opened : map (λ a. a.opened) r.answers ≡ map (λ a. a.opened) r'.answers
  pub answers : SameAnswers r r'

-- ---- the claim

-- a one-to-one map of all fitting tapes onto all fitting tapes, under which what an observer has stays the same
pub record Hides (Fits : Tapes → Type 0) (Same : Tapes → Tapes → Type 0) : Type 0 where
  pub partner : Tapes → Tapes
  pub fits : (t : Tapes) → Fits t → Fits (partner t)
  pub one_to_one : (t u : Tapes) → Fits t → Fits u → partner t ≡ partner u → t ≡ u
  pub none_left_over : (u : Tapes) → Fits u → (t : Tapes) × Fits t × (partner t ≡ u)
  pub same : (t : Tapes) → Fits t → Same t (partner t)

-- promised by `worked_blindness`: whatever lists are lent and whatever its own tape is, no miner can tell the inputs 7
-- and 5 from 9 and 100; the controller, which receives the product, cannot tell 7 and 5 from 1 and 35
pub record WorkedBlindness (s : State) : Type 0 where
  pub miners : (i : Miner) (own : List ℕ)
      → Hides (AreTapesWith i own) (λ t u. SameForMiner i (run_of_inputs s 7 5 t) (run_of_inputs s 9 100 u))
  pub controller : Hides AreTapes (λ t u. SameForController (run_of_inputs s 7 5 t) (run_of_inputs s 1 35 u))
