-- Bit: one position of a bit word as a ring value; report T-4-10, algorithm 3; Specification: Bit
-- Miners 2 and 3 get ring shares of b xor u₁, learn s = b xor u₂ xor u₃, and negate the bit in their shares if s = 1.
use Rattle.std.specs.Prelude.{ℕ, bit_xor}
use Rattle.protocols.specs.declared.shares.Shares.{Shares}
use Rattle.protocols.specs.Word.{sub, bit_at, low_bit, choose}
use Rattle.protocols.specs.Shares.{one, at, each, shares}
use Rattle.protocols.specs.Place.{Tapes, counts, word, to_two_three, ◌followed_by◌}
use Rattle.protocols.specs.Protocol.{Protocol}

-- bit j of each share; from m₁₃ to converted_shares, u stands for these bits
abbrev pub bits_at : ℕ → Shares → Shares
bits_at j u = each (λ i. bit_at (at i u) j)

-- miner 1's random bit b
abbrev pub b : Tapes → ℕ
b t = low_bit (word t one 0)

-- its random word m₁₂
abbrev pub m₁₂ : Tapes → ℕ
m₁₂ t = word t one 1

-- its random bit b₁₂
abbrev pub b₁₂ : Tapes → ℕ
b₁₂ t = low_bit (word t one 2)

-- m₁₂ + m₁₃ = b xor u₁
abbrev pub m₁₃ : ℕ → Shares → Tapes → ℕ
m₁₃ m u t = sub m (bit_xor (b t) u.one) (m₁₂ t)

-- b₁₂ xor b₁₃ = b
abbrev pub b₁₃ : Tapes → ℕ
b₁₃ t = bit_xor (b t) (b₁₂ t)

-- what miner 2 sends to miner 3
abbrev pub s₂₃ : Shares → Tapes → ℕ
s₂₃ u t = bit_xor (b₁₂ t) u.two

-- what miner 3 sends to miner 2
abbrev pub s₃₂ : Shares → Tapes → ℕ
s₃₂ u t = bit_xor (b₁₃ t) u.three

-- shares of x + y if s = 0, and of 1 - (x + y) if s = 1; x is m₁₂, y is m₁₃
abbrev pub chosen_shares : ℕ → ℕ → ℕ → ℕ → Shares
chosen_shares m s x y = shares 0 (choose s x (sub m 1 x)) (choose s y (sub m 0 y))

-- the same from the shares u of the bit and the drawn words
abbrev pub converted_shares : ℕ → Shares → Tapes → Shares
converted_shares m u t = chosen_shares m (bit_xor (s₂₃ u t) (s₃₂ u t)) (m₁₂ t) (m₁₃ m u t)

-- miners 2 and 3 receive m₁₂, m₁₃, then b₁₂, b₁₃, then what they send one another; Specification: Bit
unfoldable pub bit : ℕ → ℕ → Protocol Shares Shares
bit m j = record {
  draws = counts 0 3 0 0;
  result = λ u t. converted_shares m (bits_at j u) t;
  received = λ u t.
      to_two_three (m₁₂ t) (m₁₃ m (bits_at j u) t) followed_by to_two_three (b₁₂ t) (b₁₃ t)
      followed_by to_two_three (s₃₂ (bits_at j u) t) (s₂₃ (bits_at j u) t);
}
