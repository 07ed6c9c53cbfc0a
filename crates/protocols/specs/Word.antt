-- Words of w = 2 ^ n bits, with ring and bit operations; Specification: Words
-- Exclusive or and 'and' are the library's bit_xor and bit_and, on words as on single bits.
use Rattle.std.specs.Prelude.{ℕ, zero, suc, ◌+◌, ◌-◌, ◌*◌, ◌/◌, ◌%◌, ◌^◌}

-- how many bits a word has; the engine's 32 are n = 5
abbrev pub width : ℕ → ℕ
width n = 2 ^ n

-- every word is below this number
abbrev pub modulus : ℕ → ℕ
modulus n = 2 ^ width n

-- ---- the ring: sums, differences and products modulo m; Specification: Words

unfoldable pub add : ℕ → ℕ → ℕ → ℕ
add m a b = (a + b) % m

unfoldable pub sub : ℕ → ℕ → ℕ → ℕ
sub m a b = (a + (m - b % m)) % m

unfoldable pub mul : ℕ → ℕ → ℕ → ℕ
mul m a b = a * b % m

-- ---- bits; Specification: Words

-- the bit at position j
unfoldable pub bit_at : ℕ → ℕ → ℕ
bit_at x j = x / 2 ^ j % 2

-- the lowest bit: of a drawn word, a random bit; Specification: Draws
abbrev pub low_bit : ℕ → ℕ
low_bit x = x % 2

-- the word of w bits whose bit at position j is f j
unfoldable pub of_bits : ℕ → (ℕ → ℕ) → ℕ
of_bits zero f = 0
of_bits (suc w) f = of_bits w (λ j. f (suc j)) * 2 + f 0

-- shifted up by one bit: the highest bit is lost, the lowest is 0; Specification: Bits
unfoldable pub shift_up : ℕ → ℕ → ℕ
shift_up w x = x * 2 % 2 ^ w

-- x if the bit is 0, y if it is 1
abbrev pub choose : ℕ → ℕ → ℕ → ℕ
choose zero x y = x
choose (suc b) x y = y
