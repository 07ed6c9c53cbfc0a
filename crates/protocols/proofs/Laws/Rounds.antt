-- What holds in each of the five rounds of Bits and Equal.
use Rattle.std.proofs.Common.{ℕ, zero, suc, ◌<◌, arith}

pub each_round : (P : ℕ → Type 0) → P 0 → P 1 → P 2 → P 3 → P 4 → (k : ℕ) → k < 5 → P k
each_round P a b c d e zero h = a
each_round P a b c d e (suc zero) h = b
each_round P a b c d e (suc (suc zero)) h = c
each_round P a b c d e (suc (suc (suc zero))) h = d
each_round P a b c d e (suc (suc (suc (suc zero)))) h = e
each_round P a b c d e (suc (suc (suc (suc (suc k))))) h = absurd (omega arith)
