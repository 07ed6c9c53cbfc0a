-- The source of a position in a carry round, and the blocks of positions that it lies in.
use Rattle.std.proofs.Common.{◌≡◌, ℕ, suc, ◌+◌, ◌-◌, ◌*◌, ◌/◌, ◌%◌, ◌^◌, ◌<◌, ◌≤◌, sym, ap, ◌∙◌, mul_assoc, mul_comm, add-mul, pow-suc, div-add-mod', div-mul-le_self, mul-div_cancel, add-one, arith, pow_pos, shr-shr}
use native.Mathlib.Nat.{add-div_left, div-eq_of_lt, mul-mod_left, lt-div-mul-add}
use lib.Pow.{high, ones_lt}
use Rattle.protocols.specs.Word.{bit_at}
use Rattle.protocols.specs.Bits.{source}
use Rattle.protocols.specs.Claims.{SourceIs}

shr-suc : (x k : ℕ) → x / 2 ^ k / 2 ≡ x / 2 ^ suc k
shr-suc x k = rw (shr-shr x k 1, add-one)

-- the start of the block of 2 ^ k positions that j is in
unfoldable pub start : ℕ → ℕ → ℕ
start k j = j / 2 ^ k * 2 ^ k

-- the start of a block, by the halves of the block
start_even : (k j : ℕ) → start (suc k) j ≡ j / 2 ^ suc k * 2 * 2 ^ k
unfolding start
start_even k j = ap (λ (x : ℕ). j / 2 ^ suc k * x) (pow-suc 2 k ∙ mul_comm (2 ^ k) 2) ∙ sym (mul_assoc (j / 2 ^ suc k) 2 (2 ^ k))

shr_split : (k j : ℕ) → j / 2 ^ k ≡ j / 2 ^ suc k * 2 + bit_at j k
unfolding bit_at
shr_split k j = sym (div-add-mod' (j / 2 ^ k) 2) ∙ ap (λ (x : ℕ). x * 2 + j / 2 ^ k % 2) (shr-suc j k)

start_split : (k j : ℕ) → start k j ≡ start (suc k) j + bit_at j k * 2 ^ k
unfolding start
start_split k j =
    ap (λ (x : ℕ). x * 2 ^ k) (shr_split k j) ∙ add-mul (j / 2 ^ suc k * 2) (bit_at j k) (2 ^ k)
    ∙ ap (λ (x : ℕ). x + bit_at j k * 2 ^ k) (sym (start_even k j))

pub start-clear : (k j : ℕ) → bit_at j k ≡ 0 → start (suc k) j ≡ start k j
start-clear k j e = omega (arith, rw e at (start_split k j))

pub start-set : (k j : ℕ) → bit_at j k ≡ 1 → start k j ≡ start (suc k) j + 2 ^ k
start-set k j e = omega (arith, rw e at (start_split k j))

-- ---- the source is the last position of the block's lower half

pub suc-source : (k j : ℕ) → suc (source k j) ≡ start (suc k) j + 2 ^ k
unfolding source start
suc-source k j = omega (arith, pow_pos k, mul_comm (2 ^ suc k) (j / 2 ^ suc k))

source-shr : (k j : ℕ) → source k j / 2 ^ k ≡ j / 2 ^ suc k * 2
source-shr k j = ap (λ (x : ℕ). x / 2 ^ k) (omega (arith, suc-source k j, start_even k j, pow_pos k)) ∙ high (j / 2 ^ suc k * 2) k (ones_lt k)

-- in the first run, and in a later run
pub source_first : (k j : ℕ) → j < 2 ^ suc k → source k j ≡ 2 ^ k - 1
unfolding start
source_first k j l = omega (arith, suc-source k j, ap (λ (x : ℕ). x * 2 ^ suc k) (div-eq_of_lt l))

pub source_next : (k j : ℕ) → source k (2 ^ suc k + j) ≡ 2 ^ suc k + source k j
unfolding start
source_next k j =
    let next : start (suc k) (2 ^ suc k + j) ≡ start (suc k) j + 1 * 2 ^ suc k
    = ap (λ (x : ℕ). x * 2 ^ suc k) (add-div_left j (pow_pos (suc k))) ∙ add-mul (j / 2 ^ suc k) 1 (2 ^ suc k) in
    omega (arith, suc-source k j, suc-source k (2 ^ suc k + j))

pub start-source : (k j : ℕ) → start k (source k j) ≡ start (suc k) j
unfolding start
start-source k j = ap (λ (x : ℕ). x * 2 ^ k) (source-shr k j) ∙ sym (start_even k j)

pub source-lt : (k j : ℕ) → bit_at j k ≡ 1 → source k j < j
unfolding start
source-lt k j e = omega (arith, suc-source k j, start-set k j e, div-mul-le_self j (2 ^ k))

source_clear : (k j : ℕ) → bit_at (source k j) k ≡ 0
unfolding bit_at
source_clear k j = rw (source-shr k j) (mul-mod_left (j / 2 ^ suc k) 2)

source-agrees : (k j : ℕ) → source k j / 2 ^ suc k ≡ j / 2 ^ suc k
source-agrees k j =
    sym (shr-suc (source k j) k) ∙ ap (λ (x : ℕ). x / 2) (source-shr k j) ∙ mul-div_cancel (j / 2 ^ suc k) (pow_pos 1)

source-highest : (k j i : ℕ) → bit_at i k ≡ 0 → i / 2 ^ suc k ≡ j / 2 ^ suc k → i ≤ source k j
unfolding start
source-highest k j i clear agrees =
    let same : start (suc k) i ≡ start (suc k) j = ap (λ (x : ℕ). x * 2 ^ suc k) agrees in
    let within : i < i / 2 ^ k * 2 ^ k + 2 ^ k = lt-div-mul-add (pow_pos k) in
    omega (arith, suc-source k j, start-clear k i clear)

pub source_is : (k j : ℕ) → bit_at j k ≡ 1 → SourceIs k j
source_is k j e =
    record { lower = source-lt k j e; clear = source_clear k j; agrees = source-agrees k j; highest = λ i l. source-highest k j i }
