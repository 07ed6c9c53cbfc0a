-- Masks by exclusive or and the shared 'and', for the rounds of Bits and Equal; Specification: Shared and
use Rattle.std.specs.Prelude.{ℕ, bit_and, bit_xor}
use Rattle.protocols.specs.declared.shares.Shares.{Shares}
use Rattle.protocols.specs.Shares.{prev, at, each}

-- each share with its miner's mask and the previous miner's; Specification: Carry rounds; Specification: Fold rounds
abbrev pub masked_shares : Shares → Shares → Shares
masked_shares p q = each (λ i. bit_xor (bit_xor (at i p) (at i q)) (at (prev i) q))

-- a miner's share of an 'and', from its own shares a, b and the previous miner's a', b';
-- report T-4-10, algorithm 4, line 22; Specification: Shared and
abbrev pub and_share : ℕ → ℕ → ℕ → ℕ → ℕ
and_share a a' b b' = bit_xor (bit_xor (bit_and a b) (bit_and a b')) (bit_and a' b)

-- the same for every miner
abbrev pub and_shares : Shares → Shares → Shares
and_shares a b = each (λ i. and_share (at i a) (at (prev i) a) (at i b) (at (prev i) b))
