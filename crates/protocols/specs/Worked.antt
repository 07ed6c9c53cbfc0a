-- Worked cases 1 to 12, with their numbers; Specification: Worked computations
use Rattle.std.specs.Prelude.{◌≡◌, ℕ, [], ◌∷◌, replicate}
use Rattle.protocols.specs.Word.{modulus, add, bit_at}
use Rattle.protocols.specs.declared.shares.Shares.{Shares}
use Rattle.protocols.specs.Shares.{Operands, shares, operands, sum_of, xor_of}
use Rattle.protocols.specs.Place.{Tapes, tapes, lists}
use Rattle.protocols.specs.Store.{store}
use Rattle.protocols.specs.Multiply.{multiply}
use Rattle.protocols.specs.Bit.{bit}
use Rattle.protocols.specs.Bits.{deal, rounds, bits}
use Rattle.protocols.specs.Equal.{folds}
use Rattle.protocols.specs.Open.{opening}
use Rattle.protocols.specs.Below.{below}
use Rattle.protocols.specs.Contents.{Contents}

-- the shares of worked case 1
abbrev pub seven : Shares
seven = shares 1 2 4

-- the shares of worked case 2
abbrev pub five : Shares
five = shares 3 4 4294967294

-- the shares of worked case 3
abbrev pub thirty_five : Shares
thirty_five = shares 4294967149 4294966074 1404

-- the words u and v, in any shares
abbrev pub Sharing : ℕ → ℕ → Operands → Type 0
Sharing u v x = (sum_of (modulus 5) x.u ≡ u) × (sum_of (modulus 5) x.v ≡ v)

-- the words that the miners draw for the product, r and s of each
abbrev pub product_tapes : Tapes
product_tapes = tapes [] (10 ∷ 20 ∷ []) (30 ∷ 40 ∷ []) (50 ∷ 60 ∷ [])

-- the words that they draw to open it
abbrev pub open_tapes : Tapes
open_tapes = tapes [] (70 ∷ []) (80 ∷ []) (90 ∷ [])

-- miner 1's three words for Bit
abbrev pub bit_tape : ℕ → ℕ → ℕ → Tapes
bit_tape b m₁₂ b₁₂ = tapes [] (b ∷ m₁₂ ∷ b₁₂ ∷ []) [] []

-- miner 1 draws r first, and all other words are 0
abbrev pub one_word : ℕ → Tapes
one_word r = tapes [] (r ∷ replicate 14 0) (replicate 12 0) (replicate 12 0)

-- the lowest bit that the fold rounds leave of p = 4294967295 xor x, with masks of 0
abbrev pub folded_bit : ℕ → ℕ
folded_bit x = bit_at (xor_of ((folds 5 5).result (operands (shares 0 x 0) (shares 0 0 0)) (one_word 0)).p) 0

-- promised by `worked`: the definitions give the numbers of the worked cases; Specification: Worked computations
pub record Worked : Type 0 where
  -- worked case 1: store 7, provider tape 1, 2
  pub case_1 : (store (modulus 5)).result 7 (tapes (1 ∷ 2 ∷ []) [] [] []) ≡ seven
  pub case_1_received : (store (modulus 5)).received 7 (tapes (1 ∷ 2 ∷ []) [] [] [])
      ≡ lists (1 ∷ []) (2 ∷ []) (4 ∷ []) []
  -- worked case 2: store 5, provider tape 3, 4
  pub case_2 : (store (modulus 5)).result 5 (tapes (3 ∷ 4 ∷ []) [] [] []) ≡ five
  pub case_2_received : (store (modulus 5)).received 5 (tapes (3 ∷ 4 ∷ []) [] [] [])
      ≡ lists (3 ∷ []) (4 ∷ []) (4294967294 ∷ []) []
  -- worked case 3: their product, tapes of the miners 10, 20; 30, 40; 50, 60
  pub case_3 : (multiply (modulus 5)).result (operands seven five) product_tapes ≡ thirty_five
  -- each miner receives the previous miner's r, s, then its masked share of each operand
  pub case_3_received : (multiply (modulus 5)).received (operands seven five) product_tapes
      ≡ lists (50 ∷ 60 ∷ 24 ∷ 18 ∷ []) (10 ∷ 20 ∷ 4294967257 ∷ 4294967259 ∷ []) (30 ∷ 40 ∷ 22 ∷ 24 ∷ []) []
  -- worked case 4: opening it, tapes of the miners 70; 80; 90; the word is 35
  pub case_4 : (opening (modulus 5)).result thirty_five open_tapes ≡ shares 4294967129 4294966084 1414
  pub case_4_received : (opening (modulus 5)).received thirty_five open_tapes
      ≡ lists (90 ∷ []) (70 ∷ []) (80 ∷ []) (4294967129 ∷ 4294966084 ∷ 1414 ∷ [])
  pub case_4_word : sum_of (modulus 5) ((opening (modulus 5)).result thirty_five open_tapes) ≡ 35
  -- worked case 5: Bit of the shares 1, 0, 1, with b = 1, m₁₂ = 5, b₁₂ = 0
  pub case_5 : (bit (modulus 5) 0).result (shares 1 0 1) (bit_tape 1 5 0) ≡ shares 0 5 4294967291
  pub case_5_received : (bit (modulus 5) 0).received (shares 1 0 1) (bit_tape 1 5 0)
      ≡ lists [] (5 ∷ 0 ∷ 0 ∷ []) (4294967291 ∷ 1 ∷ 0 ∷ []) []
  -- worked case 6: Bit of the shares 0, 1, 0, with b = 0, m₁₂ = 5, b₁₂ = 0
  pub case_6 : (bit (modulus 5) 0).result (shares 0 1 0) (bit_tape 0 5 0) ≡ shares 0 4294967292 5
  pub case_6_received : (bit (modulus 5) 0).received (shares 0 1 0) (bit_tape 0 5 0)
      ≡ lists [] (5 ∷ 0 ∷ 0 ∷ []) (4294967291 ∷ 0 ∷ 1 ∷ []) []
  -- worked case 7: Bits of 0 with r = 4294967295, so that v = 0 - r = 1: a carry at every position, and the sum 0
  pub case_7_value : let d = (deal 5).result (shares 0 0 0) (one_word 4294967295) in add (modulus 5) d.v2 d.v3 ≡ 1
  pub case_7_carries : xor_of ((rounds 5 5).result (shares 0 0 0) (one_word 4294967295)).s ≡ 4294967295
  pub case_7_sum : xor_of ((bits 5).result (shares 0 0 0) (one_word 4294967295)) ≡ 0
  -- worked case 8: bit 0 of what the fold rounds leave of 4294967295 is 1
  pub case_8_ones : xor_of ((folds 5 0).result (operands (shares 0 0 0) (shares 0 0 0)) (one_word 0)).p ≡ 4294967295
  pub case_8 : folded_bit 0 ≡ 1
  -- worked case 9: bit 0 of what the fold rounds leave of 4294967294 is 0
  pub case_9_start : xor_of ((folds 5 0).result (operands (shares 0 1 0) (shares 0 0 0)) (one_word 0)).p ≡ 4294967294
  pub case_9 : folded_bit 1 ≡ 0
  -- worked case 10: 65536 · 65536 is 0, in any shares and whatever is drawn
  pub case_10 : (x : Operands) (b : Tapes) → Sharing 65536 65536 x
      → sum_of (modulus 5) ((multiply (modulus 5)).result x b) ≡ 0
  -- worked case 11: 3 is below 5, and 5 is not below 5
  pub case_11_less : (x : Operands) (b : Tapes) → Contents (modulus 5) (below 5).draws b → Sharing 3 5 x
      → sum_of (modulus 5) ((below 5).result x b) ≡ 1
  pub case_11_equal : (x : Operands) (b : Tapes) → Contents (modulus 5) (below 5).draws b → Sharing 5 5 x
      → sum_of (modulus 5) ((below 5).result x b) ≡ 0
  -- worked case 12: 4294967295 is below 0, by the highest bit of the difference
  pub case_12 : (x : Operands) (b : Tapes) → Contents (modulus 5) (below 5).draws b → Sharing 4294967295 0 x
      → sum_of (modulus 5) ((below 5).result x b) ≡ 1
