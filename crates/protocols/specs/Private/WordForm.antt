-- The rounds of Bits and Equal on whole words, with masks and shifts, as the code has them.
use Rattle.std.specs.Prelude.{ℕ, zero, suc, ◌+◌, ◌-◌, ◌*◌, ◌/◌, ◌%◌, ◌^◌, bit_and, bit_xor}
use Rattle.protocols.specs.Word.{width, modulus, bit_at, of_bits, choose}
use Rattle.protocols.specs.Masked.{and_share}

-- ---- round k of Bits

-- the sources of round k in r blocks of 2 ^ (k + 1) positions: the last position of each block's lower half
unfoldable pub sources_in : ℕ → ℕ → ℕ
sources_in k zero = 0
sources_in k (suc r) = sources_in k r * 2 ^ (2 ^ suc k) + 2 ^ (2 ^ k - 1)

-- the sources of round k in a word
unfoldable pub sources : ℕ → ℕ → ℕ
unfolding sources_in
sources n k = sources_in k (2 ^ (n - suc k))

-- the positions whose bit k is clear
unfoldable pub clear : ℕ → ℕ → ℕ
clear n k = of_bits (width n) (λ j. choose (bit_at j k) 1 0)

-- the bit of each source at every position that has this source: with t = x & sources, ((t << 2^k) - t) << 1
unfoldable pub spread : ℕ → ℕ → ℕ → ℕ
spread n k x =
    let t = bit_and x (sources n k) in
    (t * 2 ^ (2 ^ k) % modulus n - t) * 2 % modulus n

-- s after the round
unfoldable pub word_s : ℕ → ℕ → ℕ → ℕ → ℕ → ℕ → ℕ
word_s n k p p' s s' = bit_xor s (and_share p p' (spread n k s) (spread n k s'))

-- p after the round
unfoldable pub word_p : ℕ → ℕ → ℕ → ℕ → ℕ
word_p n k p p' = bit_xor (bit_and p (clear n k)) (and_share p p' (spread n k p) (spread n k p'))

-- ---- round k of Equal

-- the multiples of 2 ^ (k + 1)
unfoldable pub heads : ℕ → ℕ → ℕ
heads n k = of_bits (width n) (λ j. choose (j % 2 ^ suc k) 1 0)

-- all other positions
unfoldable pub others : ℕ → ℕ → ℕ
others n k = of_bits (width n) (λ j. choose (j % 2 ^ suc k) 0 1)

-- p after the round
unfoldable pub word_fold : ℕ → ℕ → ℕ → ℕ → ℕ
word_fold n k p p' =
    bit_xor (bit_and p (others n k))
    (and_share p p' (bit_and (p / 2 ^ (2 ^ k)) (heads n k)) (bit_and (p' / 2 ^ (2 ^ k)) (heads n k)))
