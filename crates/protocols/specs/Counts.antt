-- How many words a protocol draws and delivers, and what it makes; Specification: Table of commands
use Rattle.std.specs.Prelude.{◌≡◌, ℕ, ◌+◌, ◌%◌, ◌^◌, length}
use Rattle.protocols.specs.declared.place.Drawn.{Drawn}
use Rattle.protocols.specs.declared.place.Received.{Received}
use Rattle.protocols.specs.declared.place.Place.{Place}
use Rattle.protocols.specs.Shares.{one, two, three}
use Rattle.protocols.specs.Place.{Tapes, Lists, Receiver, miner, controller, list}
use Rattle.protocols.specs.Protocol.{Protocol}
use Rattle.protocols.specs.Contents.{Words, Contents}

-- four numbers as the counts of miners 1, 2, 3 and the controller
abbrev pub received_counts : ℕ → ℕ → ℕ → ℕ → Received
received_counts a b c d = record { one = a; two = b; three = c; controller = d }

-- how many words each list has
abbrev pub list_lengths : Lists → Received
list_lengths l = received_counts (length l.one) (length l.two) (length l.three) (length l.controller)

-- the sum of two counts, list by list
abbrev pub plus_received : Received → Received → Received
plus_received j k = received_counts (j.one + k.one) (j.two + k.two) (j.three + k.three) (j.controller + k.controller)

-- the sum of two counts as the code's 64-bit word has it
abbrev pub count_plus : ℕ → ℕ → ℕ
count_plus count more = (count + more) % 2 ^ 64

-- the place moved on by more handles, inputs and received words; Specification: Accepted commands
abbrev pub with_more : ℕ → ℕ → Received → Place → Place
with_more handles inputs k p = record {
  handles = count_plus p.handles handles;
  inputs = count_plus p.inputs inputs;
  drawn = p.drawn;
  received = received_counts (count_plus p.received.one k.one) (count_plus p.received.two k.two)
      (count_plus p.received.three k.three) (count_plus p.received.controller k.controller);
}

-- the count of a receiver
abbrev pub count_for : Receiver → Received → ℕ
count_for (miner one) k = k.one
count_for (miner two) k = k.two
count_for (miner three) k = k.three
count_for controller k = k.controller

-- The protocol draws n words and delivers k words, whatever the operands and the drawn words. If the operands are
-- `Good` and the drawn words are below m, then each delivered word is below m and the result is `Made`.
pub record HasCounts (m : ℕ) {S T : Type 0} (f : Protocol S T) (Good : S → Type 0) (Made : T → Type 0)
    (n : Drawn) (k : Received) : Type 0 where
  pub drawn : f.draws ≡ n
  pub long : (s : S) (b : Tapes) (r : Receiver) → length (list r (f.received s b)) ≡ count_for r k
  pub delivered : (s : S) → Good s → (b : Tapes) → Contents m f.draws b
      → (r : Receiver) → Words m (count_for r k) (list r (f.received s b))
  pub made : (s : S) → Good s → (b : Tapes) → Contents m f.draws b → Made (f.result s b)
