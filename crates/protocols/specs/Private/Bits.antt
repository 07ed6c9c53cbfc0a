-- The dealing and exchange of Bits as one step, and where each round's words go in the lists, as the code has them.
use Rattle.std.specs.Prelude.{ℕ, ◌+◌, ◌*◌}
use Rattle.protocols.specs.declared.shares.Shares.{Shares}
use Rattle.protocols.specs.declared.place.Received.{Received}
use Rattle.protocols.specs.declared.bits.CarryState.{CarryState}
use Rattle.protocols.specs.Word.{modulus}
use Rattle.protocols.specs.Place.{Tapes, Lists, ◌followed_by◌}
use Rattle.protocols.specs.Counts.{received_counts}
use Rattle.protocols.specs.Bits.{deal, first_state, sent_in_exchange}

-- what the miners hold after the dealing and the exchange, from miner 1's words b and the masks q, t
abbrev pub state_before_rounds : ℕ → Shares → Tapes → Shares → Shares → CarryState
state_before_rounds n u b q t = first_state (modulus n) ((deal n).result u b) q t

-- what they send in both
abbrev pub sent_before_rounds : ℕ → Shares → Tapes → Shares → Shares → Lists
sent_before_rounds n u b q t = (deal n).received u b followed_by sent_in_exchange ((deal n).result u b) q t

-- how many words each list has received before round k
abbrev pub received_before : ℕ → Received
received_before k = received_counts (2 + 4 * k) (5 + 4 * k) (5 + 4 * k) 0
