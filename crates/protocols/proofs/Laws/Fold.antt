-- The fold rounds on plain words: bit 0 is 1 exactly if every bit was 1.
use Rattle.std.proofs.Common.{◌≡◌, ℕ, zero, suc, ◌+◌, ◌-◌, ◌*◌, ◌/◌, ◌%◌, ◌^◌, ◌<◌, ◌≤◌, cond, eqb, sym, refl, ap, ◌∙◌, ap₂, mod-lt, mod-eq_of_lt, div-one, one-add, arith, pow_pos, shr-shr, eq-eqb, ne_eqb}
use native.Mathlib.Nat.{zero-mod, add-mod_right, two-pow-succ}
use native.Mathlib.Decide.{ℕ_discrete}
use lib.Bits.{bit_and, and_zero_r}
use lib.Pow.{high, low, mod-pow-add, mod-mod-pow, ones_lt, ones_split}
use Rattle.protocols.specs.Word.{width, modulus, bit_at}
use Rattle.protocols.specs.Equal.{fold_share}
use Rattle.protocols.proofs.Laws.Bitwise.{by_bit, bit-lt}
use Rattle.protocols.proofs.Laws.Shared.{bit-fold_share, and_share_zero}

-- after k rounds
unfoldable pub fold_plain : ℕ → ℕ → ℕ → ℕ
fold_plain w zero x = x
fold_plain w (suc k) x = fold_share w k (fold_plain w k x) 0

-- ---- 1 if the m bits from position j on are all 1, else 0

abbrev same : ℕ → ℕ → ℕ
same x y = cond (eqb x y) 1 0

abbrev ones : ℕ → ℕ → ℕ → ℕ
ones x j m = same (x / 2 ^ j % 2 ^ m) (2 ^ m - 1)

ones_one : (x j : ℕ) → ones x j 1 ≡ bit_at x j
unfolding bit_at
ones_one x j = by_bit (λ b. same b 1 ≡ b) refl refl (bit_at x j) (bit-lt x j)

same_halves : (m h l t : ℕ) → l < 2 ^ m → t < 2 ^ m → same (h * 2 ^ m + l) (t * 2 ^ m + t) ≡ bit_and (same l t) (same h t)
same_halves m h l t hl ht = halves (ℕ_discrete l t) (ℕ_discrete h t)
  where
    halves : Dec (l ≡ t) → Dec (h ≡ t) → same (h * 2 ^ m + l) (t * 2 ^ m + t) ≡ bit_and (same l t) (same h t)
    halves (yes p) (yes q) = rw (eq-eqb l t p, eq-eqb h t q, eq-eqb (h * 2 ^ m + l) (t * 2 ^ m + t) (cc))
    halves (yes p) (no q) =
        rw (ne_eqb h t q, ne_eqb (h * 2 ^ m + l) (t * 2 ^ m + t) (λ e. q (sym (high h m hl) ∙ ap (λ (x : ℕ). x / 2 ^ m) e ∙ high t m ht)))
        (sym (and_zero_r (same l t)))
    halves (no p) d = rw (ne_eqb l t p, ne_eqb (h * 2 ^ m + l) (t * 2 ^ m + t) (λ e. p (sym (low h m hl) ∙ ap (λ (x : ℕ). x % 2 ^ m) e ∙ low t m ht)))

ones_double : (x j m : ℕ) → ones x j (m + m) ≡ bit_and (ones x j m) (ones x (j + m) m)
ones_double x j m =
    ap₂ same (mod-pow-add (x / 2 ^ j) m m ∙ ap (λ (y : ℕ). y % 2 ^ m * 2 ^ m + x / 2 ^ j % 2 ^ m) (shr-shr x j m)) (ones_split m m)
    ∙ same_halves m (x / 2 ^ (j + m) % 2 ^ m) (x / 2 ^ j % 2 ^ m) (2 ^ m - 1) (mod-lt (x / 2 ^ j) (pow_pos m)) (ones_lt m)

-- ---- each round joins two runs of bits

bit_fold_plain : (w x k j : ℕ) → j % 2 ^ k ≡ 0 → j + 2 ^ k ≤ w → bit_at (fold_plain w k x) j ≡ ones x j (2 ^ k)
unfolding fold_plain
bit_fold_plain w x zero j e l = sym (ones_one x j)
bit_fold_plain w x (suc k) j e l =
    bit-fold_share w k y 0 j (omega (arith, pow_pos (suc k)))
    ∙ rw e (and_share_zero (bit_at y j) j (bit_at y (j + 2 ^ k)) (j + 2 ^ k))
    ∙ ap₂ bit_and (bit_fold_plain w x k j even (omega (arith, two-pow-succ k)))
    (bit_fold_plain w x k (j + 2 ^ k) (add-mod_right j (2 ^ k) ∙ even) (omega (arith, two-pow-succ k)))
    ∙ sym (ap (ones x j) (two-pow-succ k) ∙ ones_double x j (2 ^ k))
  where
    y : ℕ
    y = fold_plain w k x

    even : j % 2 ^ k ≡ 0
    even = sym (mod-mod-pow j 1 k) ∙ ap (λ (y : ℕ). j % 2 ^ y % 2 ^ k) (one-add k) ∙ ap (λ (y : ℕ). y % 2 ^ k) e ∙ zero-mod (2 ^ k)

pub fold_ones : (n x : ℕ) → x < modulus n → bit_at (fold_plain (width n) n x) 0 ≡ cond (eqb x (modulus n - 1)) 1 0
fold_ones n x h =
    bit_fold_plain (width n) x n 0 (zero-mod (2 ^ n)) (omega arith)
    ∙ ap (λ (y : ℕ). same y (modulus n - 1)) (ap (λ (y : ℕ). y % modulus n) (div-one x) ∙ mod-eq_of_lt h)
