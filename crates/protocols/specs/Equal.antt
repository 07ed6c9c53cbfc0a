-- Equal: 1 if two ring values are equal, else 0, on words of 2 ^ n bits; Specification: Equal
-- A shared word p is all ones exactly if they are equal, and n rounds fold p by 'and'; report T-4-10, algorithm 5.
use Rattle.std.specs.Prelude.{ℕ, suc, ◌+◌, ◌-◌, ◌%◌, ◌^◌}
use Rattle.protocols.specs.declared.shares.Shares.{Shares}
use Rattle.protocols.specs.declared.equal.FoldState.{FoldState}
use Rattle.protocols.specs.Word.{width, modulus, add, sub, bit_at, of_bits, choose}
use Rattle.protocols.specs.Shares.{one, prev, at, each, shares, Operands}
use Rattle.protocols.specs.Place.{Tapes, Lists, counts, word, words, to_next, to_two_three, ◌followed_by◌}
use Rattle.protocols.specs.Protocol.{Protocol, locally, ◌then◌, with_rounds}
use Rattle.protocols.specs.Local.{difference}
use Rattle.protocols.specs.Masked.{masked_shares, and_share}
use Rattle.protocols.specs.Bit.{bit}

-- ---- the comparison: miner 1 deals its share of the difference; report T-4-10, algorithm 5, lines 1 to 9

-- miner 1 draws r₂; r₂ + r₃ = u₁ - v₁
abbrev pub r₃ : ℕ → Operands → Tapes → ℕ
r₃ m x t = sub m (difference m x).one (word t one 0)

-- the shares of p, from the shares d of the difference: all ones, d₂ + r₂, -(d₃ + r₃)
abbrev pub first_shares : ℕ → Shares → ℕ → ℕ → Shares
first_shares m d r₂ r₃ = shares (m - 1) (add m d.two r₂) (sub m 0 (add m d.three r₃))

-- the same from the operands and the drawn words
abbrev pub comparison : ℕ → Operands → Tapes → Shares
comparison m x t = first_shares m (difference m x) (word t one 0) (r₃ m x t)

-- miner 2 receives r₂, miner 3 receives r₃
unfoldable pub compare : ℕ → Protocol Operands Shares
compare n = record {
  draws = counts 0 1 0 0;
  result = comparison (modulus n);
  received = λ x t. to_two_three (word t one 0) (r₃ (modulus n) x t);
}

-- each miner draws the mask q of the first round and sends it to the next
unfoldable pub first_masks : Protocol Shares FoldState
first_masks = record {
  draws = counts 0 1 1 1;
  result = λ p t. record { p = p; q = words t 0 };
  received = λ p t. to_next (words t 0);
}

-- ---- round k; report T-4-10, algorithm 5, lines 11 to 16; Specification: Fold rounds

-- position j after round k, from a miner's masked share p and the previous miner's p':
-- its 'and' with position j + 2 ^ k if j is a multiple of 2 ^ (k + 1), else as it was
abbrev pub fold_at : ℕ → ℕ → ℕ → ℕ → ℕ
fold_at k p p' j =
    let i = j + 2 ^ k in
    choose (j % 2 ^ suc k) (and_share (bit_at p j) (bit_at p' j) (bit_at p i) (bit_at p' i)) (bit_at p j)

-- all w positions
unfoldable pub fold_share : ℕ → ℕ → ℕ → ℕ → ℕ
fold_share w k p p' = of_bits w (fold_at k p p')

-- round k of every miner, on masked shares p; with the masks q of the next round
abbrev pub fold_round : ℕ → ℕ → Shares → Shares → FoldState
fold_round w k p q = record { p = each (λ i. fold_share w k (at i p) (at (prev i) p)); q = q }

-- what the miners hold after a round in which they draw q
abbrev pub after_round : ℕ → ℕ → FoldState → Shares → FoldState
after_round w k h q = fold_round w k (masked_shares h.p h.q) q

-- each miner sends its masked p, then the mask q of the next round
abbrev pub sent_in_round : FoldState → Shares → Lists
sent_in_round h q = to_next (masked_shares h.p h.q) followed_by to_next q

-- round k: each miner draws q
unfoldable pub fold : ℕ → ℕ → Protocol FoldState FoldState
fold n k = record {
  draws = counts 0 1 1 1;
  result = λ h t. after_round (width n) k h (words t 0);
  received = λ h t. sent_in_round h (words t 0);
}

-- the comparison, the first masks and the first k rounds
unfoldable pub folds : ℕ → ℕ → Protocol Operands FoldState
folds n = with_rounds (compare n then first_masks) (fold n)

-- ---- the result; report T-4-10, algorithm 5, line 18

-- the whole protocol, which ends with Bit on position 0 of p; Specification: Equal
unfoldable pub equal : ℕ → Protocol Operands Shares
equal n = folds n n then locally (λ h. h.p) then bit (modulus n) 0
