-- The loop of `pass`: the lists keep their lengths and have each miner's first k words.
use Rattle.std.proofs.Common.{◌≡◌, [], length, take}
use Rattle.protocols.specs.Place.{lists}
use Rattle.protocols.specs.Counts.{received_counts}
use Rattle.protocols.specs.Private.Lending.{to_next_in_order, with_words_at}
use Rattle.protocols.proofs.list.pass.Given as goal

abbrev pub invariant-loop-k : goal.invariant-loop-k
invariant-loop-k l =
    (length l.list1 ≡ length l.fn.list1)
    × (length l.list2 ≡ length l.fn.list2)
    × (length l.list3 ≡ length l.fn.list3)
    × (lists l.list1 l.list2 l.list3 []
    ≡ with_words_at (received_counts l.first l.at l.at 0) (lists l.fn.list1 l.fn.list2 l.fn.list3 []) (to_next_in_order (take l.k l.words)))
