-- Shares of a value, one with each of three miners; Specification: Parties; Specification: Shares
use Rattle.std.specs.Prelude.{ℕ, ◌<◌, List, slice_index, bit_xor}
use Rattle.protocols.specs.declared.shares.Shares.{Shares}
use Rattle.protocols.specs.Word.{add}

-- the three miners; Specification: Parties
pub data Miner : Type 0 where
  one two three : Miner

-- the previous miner; Specification: Parties
abbrev pub prev : Miner → Miner
prev one = three
prev two = one
prev three = two

-- miner i's share
abbrev pub at : Miner → Shares → ℕ
at one s = s.one
at two s = s.two
at three s = s.three

-- the shares that f gives, miner by miner
abbrev pub each : (Miner → ℕ) → Shares
each f = record { one = f one; two = f two; three = f three }

-- three words as the shares of miners 1, 2 and 3
abbrev pub shares : ℕ → ℕ → ℕ → Shares
shares a b c = record { one = a; two = b; three = c }

-- the same from a list of three words
abbrev pub shares_of : List ℕ → Shares
shares_of l = shares (slice_index l 0) (slice_index l 1) (slice_index l 2)

-- the value of ring shares; Specification: Shares
unfoldable pub sum_of : ℕ → Shares → ℕ
sum_of m s = add m (add m s.one s.two) s.three

-- the value of bit shares; Specification: Shares
unfoldable pub xor_of : Shares → ℕ
xor_of s = bit_xor (bit_xor s.one s.two) s.three

-- each share is a word below m
abbrev pub SharesAreWords : ℕ → Shares → Type 0
SharesAreWords m s = (i : Miner) → at i s < m

-- the shares of a protocol's two operands
pub record Operands : Type 0 where
  pub u : Shares
  pub v : Shares

-- two values' shares as operands
abbrev pub operands : Shares → Shares → Operands
operands a b = record { u = a; v = b }
