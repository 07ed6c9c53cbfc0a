-- Bits: a ring value as a bit word, on words of 2 ^ n bits; report T-4-10, algorithm 4; Specification: Bits
-- Miner 1 shares a random r by exclusive or, miners 2 and 3 learn v = u - r, and n carry rounds add v and r in shares.
use Rattle.std.specs.Prelude.{ℕ, suc, ◌+◌, ◌-◌, ◌*◌, ◌/◌, ◌^◌, bit_and, bit_xor}
use Rattle.protocols.specs.declared.shares.Shares.{Shares}
use Rattle.protocols.specs.declared.bits.Dealing.{Dealing}
use Rattle.protocols.specs.declared.bits.CarryState.{CarryState}
use Rattle.protocols.specs.Word.{width, modulus, add, sub, bit_at, of_bits, shift_up, choose}
use Rattle.protocols.specs.Shares.{one, prev, at, each, shares}
use Rattle.protocols.specs.Place.{Tapes, Lists, counts, word, words, to_next, to_two_three, ◌followed_by◌}
use Rattle.protocols.specs.Protocol.{Protocol, locally, ◌then◌, with_rounds}
use Rattle.protocols.specs.Masked.{masked_shares, and_share}

-- ---- the dealing: miner 1 draws r, r₂, R₂; report T-4-10, algorithm 4, lines 1 to 3

-- r₂ + r₃ = u₁ - r
abbrev pub r₃ : ℕ → Shares → Tapes → ℕ
r₃ m u t = sub m (sub m u.one (word t one 0)) (word t one 1)

-- R₂ xor R₃ = r
abbrev pub R₃ : Tapes → ℕ
R₃ t = bit_xor (word t one 0) (word t one 2)

-- miner 2's masked share
abbrev pub v₂ : ℕ → Shares → Tapes → ℕ
v₂ m u t = add m u.two (word t one 1)

-- miner 3's masked share
abbrev pub v₃ : ℕ → Shares → Tapes → ℕ
v₃ m u t = add m u.three (r₃ m u t)

-- what miners 2 and 3 hold after the dealing: their masked shares, and R₂, R₃
abbrev pub dealing : ℕ → Shares → Tapes → Dealing
dealing m u t = record { v2 = v₂ m u t; v3 = v₃ m u t; bar2 = word t one 2; bar3 = R₃ t }

-- miners 2 and 3 receive r₂, r₃, then R₂, R₃
unfoldable pub deal : ℕ → Protocol Shares Dealing
deal n = record {
  draws = counts 0 3 0 0;
  result = dealing (modulus n);
  received = λ u t. to_two_three (word t one 1) (r₃ (modulus n) u t) followed_by to_two_three (word t one 2) (R₃ t);
}

-- ---- the exchange: miners 2 and 3 learn v = u - r; report T-4-10, algorithm 4, lines 4 to 11

-- v, from the two masked shares
abbrev pub exchanged_sum : ℕ → Dealing → ℕ
exchanged_sum m d = add m d.v2 d.v3

-- shares of p = v xor r: the positions that pass a carry on
abbrev pub p₀ : ℕ → Dealing → Shares
p₀ m d = shares 0 (bit_xor (exchanged_sum m d) d.bar2) d.bar3

-- shares of s = v and r: the positions at which a carry arises
abbrev pub s₀ : ℕ → Dealing → Shares
s₀ m d = shares 0 (bit_and (exchanged_sum m d) d.bar2) (bit_and (exchanged_sum m d) d.bar3)

-- what the miners hold before the first round: p, s, its masks, and p again for the result
abbrev pub first_state : ℕ → Dealing → Shares → Shares → CarryState
first_state m d q t = record { p = p₀ m d; s = s₀ m d; q = q; t = t; base = p₀ m d }

-- each miner sends its masks q, then t; then miners 2 and 3 send one another their masked shares
abbrev pub sent_in_exchange : Dealing → Shares → Shares → Lists
sent_in_exchange d q t = to_next q followed_by to_next t followed_by to_two_three d.v3 d.v2

-- each miner draws q, then t
unfoldable pub exchange : ℕ → Protocol Dealing CarryState
exchange n = record {
  draws = counts 0 2 2 2;
  result = λ d t. first_state (modulus n) d (words t 0) (words t 1);
  received = λ d t. sent_in_exchange d (words t 0) (words t 1);
}

-- ---- round k; report T-4-10, algorithm 4, lines 13 to 22; Specification: Carry rounds

-- the source of position j: the last position in the lower half of the block of 2 ^ (k + 1) positions that j is in
unfoldable pub source : ℕ → ℕ → ℕ
source k j = 2 ^ k + 2 ^ suc k * (j / 2 ^ suc k) - 1

-- s at position j after round k, from a miner's masked shares p, s and the previous miner's p', s':
-- s xor (p and the source's s) if bit k of j is set, else s
abbrev pub round_s_at : ℕ → ℕ → ℕ → ℕ → ℕ → ℕ → ℕ
round_s_at k p p' s s' j =
    let i = source k j in
    choose (bit_at j k) (bit_at s j)
    (bit_xor (bit_at s j) (and_share (bit_at p j) (bit_at p' j) (bit_at s i) (bit_at s' i)))

-- p at position j after round k: p and the source's p if bit k of j is set, else p
abbrev pub round_p_at : ℕ → ℕ → ℕ → ℕ → ℕ
round_p_at k p p' j =
    let i = source k j in
    choose (bit_at j k) (bit_at p j) (and_share (bit_at p j) (bit_at p' j) (bit_at p i) (bit_at p' i))

-- s at all w positions
unfoldable pub round_s : ℕ → ℕ → ℕ → ℕ → ℕ → ℕ → ℕ
round_s w k p p' s s' = of_bits w (round_s_at k p p' s s')

-- p at all w positions
unfoldable pub round_p : ℕ → ℕ → ℕ → ℕ → ℕ
round_p w k p p' = of_bits w (round_p_at k p p')

-- round k of every miner, on masked shares p, s; with the masks q, t of the next round
abbrev pub carry_round : ℕ → ℕ → Shares → Shares → Shares → Shares → Shares → CarryState
carry_round w k p s q t base = record {
  p = each (λ i. round_p w k (at i p) (at (prev i) p));
  s = each (λ i. round_s w k (at i p) (at (prev i) p) (at i s) (at (prev i) s));
  q = q;
  t = t;
  base = base;
}

-- what the miners hold after a round in which they draw q, t
abbrev pub after_round : ℕ → ℕ → CarryState → Shares → Shares → CarryState
after_round w k h q t = carry_round w k (masked_shares h.p h.q) (masked_shares h.s h.t) q t h.base

-- each miner sends its masked p, s, then the masks q, t of the next round
abbrev pub sent_in_round : CarryState → Shares → Shares → Lists
sent_in_round h q t =
    to_next (masked_shares h.p h.q) followed_by to_next (masked_shares h.s h.t)
    followed_by to_next q followed_by to_next t

-- round k: each miner draws q, then t
unfoldable pub round : ℕ → ℕ → Protocol CarryState CarryState
round n k = record {
  draws = counts 0 2 2 2;
  result = λ h t. after_round (width n) k h (words t 0) (words t 1);
  received = λ h t. sent_in_round h (words t 0) (words t 1);
}

-- the dealing, the exchange and the first k rounds
unfoldable pub rounds : ℕ → ℕ → Protocol Shares CarryState
rounds n = with_rounds (deal n then exchange n) (round n)

-- ---- the result; report T-4-10, algorithm 4, lines 23 to 27

-- s shifted up by one bit, xor p as it was before the rounds
abbrev pub sum_bits : ℕ → CarryState → Shares
sum_bits w h = each (λ i. bit_xor (shift_up w (at i h.s)) (at i h.base))

-- the whole protocol; Specification: Bits
unfoldable pub bits : ℕ → Protocol Shares Shares
bits n = rounds n n then locally (sum_bits (width n))
