-- The comparison and first masks of Equal as one step, and where a round's words go in the lists, as the code has it.
use Rattle.std.specs.Prelude.{ℕ, ◌+◌, ◌*◌}
use Rattle.protocols.specs.declared.shares.Shares.{Shares}
use Rattle.protocols.specs.declared.place.Received.{Received}
use Rattle.protocols.specs.declared.equal.FoldState.{FoldState}
use Rattle.protocols.specs.Shares.{Operands}
use Rattle.protocols.specs.Place.{Tapes, Lists, to_next, ◌followed_by◌}
use Rattle.protocols.specs.Counts.{received_counts}
use Rattle.protocols.specs.Equal.{compare}

-- what the miners hold after both, from miner 1's word b and the masks q
abbrev pub state_before_rounds : ℕ → Operands → Tapes → Shares → FoldState
state_before_rounds n x b q = record { p = (compare n).result x b; q = q }

-- what they send in both
abbrev pub sent_before_rounds : ℕ → Operands → Tapes → Shares → Lists
sent_before_rounds n x b q = (compare n).received x b followed_by to_next q

-- how many words each list has received before round k
abbrev pub received_before : ℕ → Received
received_before k = received_counts (1 + 2 * k) (2 + 2 * k) (2 + 2 * k) 0
