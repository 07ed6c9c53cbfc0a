-- Multiply: the product of two ring values; report T-4-10, algorithm 1; Specification: Multiply
use Rattle.std.specs.Prelude.{ℕ}
use Rattle.protocols.specs.declared.shares.Shares.{Shares}
use Rattle.protocols.specs.Word.{add, mul}
use Rattle.protocols.specs.Shares.{prev, at, each, Operands}
use Rattle.protocols.specs.Place.{Tapes, Lists, counts, words, to_next, ◌followed_by◌}
use Rattle.protocols.specs.Protocol.{Protocol}
use Rattle.protocols.specs.Reshare.{fresh_shares}

-- a miner's share of the product, from its own masked shares u, v and the previous miner's u', v'
abbrev pub product_share : ℕ → ℕ → ℕ → ℕ → ℕ → ℕ
product_share m u v u' v' = add m (add m (mul m u v) (mul m u v')) (mul m u' v)

-- the same for every miner
abbrev pub product : ℕ → Shares → Shares → Shares
product m u v = each (λ i. product_share m (at i u) (at i v) (at (prev i) u) (at (prev i) v))

-- the masked shares x of the first operand; each miner's mask r is its first word
abbrev pub masked_u : ℕ → Operands → Tapes → Shares
masked_u m x b = fresh_shares m x.u (words b 0)

-- the masked shares y of the second operand; each miner's mask s is its second word
abbrev pub masked_v : ℕ → Operands → Tapes → Shares
masked_v m x b = fresh_shares m x.v (words b 1)

-- each miner sends r, s, then x, y
abbrev pub sent_in_multiply : ℕ → Operands → Tapes → Lists
sent_in_multiply m x b =
    to_next (words b 0) followed_by to_next (words b 1)
    followed_by to_next (masked_u m x b) followed_by to_next (masked_v m x b)

-- each miner draws r, then s; Specification: Multiply
unfoldable pub multiply : ℕ → Protocol Operands Shares
multiply m = record {
  draws = counts 0 2 2 2;
  result = λ x b. product m (masked_u m x b) (masked_v m x b);
  received = sent_in_multiply m;
}
