-- The code's rounds on whole words are the rounds position by position, for every round of every width.
use Rattle.std.proofs.Common.{◌≡◌, ℕ, zero, suc, ◌+◌, ◌-◌, ◌*◌, ◌/◌, ◌%◌, ◌^◌, ◌<◌, ◌⊎◌, sym, refl, ap, ◌∙◌, ap₂, inl, inr, le_refl, lt_of_le_of_lt, add-zero, mod-lt, mod-eq_of_lt, zero-lt-suc, mul_assoc, suc-mul, mul_comm, add-mul, add_comm, mul-lt-mul_of_pos_right, one-mul, pow-suc, zero-mul, mul-suc, le-mul_of_pos_right, mul_left_comm, one-add, arith, pow_pos, pow_mono, pow-add}
use native.Mathlib.Nat.{add-div_left, add-mod_left, two-pow-succ, div-eq_of_lt}
use native.Mathlib.Decide.{dec_lt}
use lib.Arith.{digits_lt}
use lib.Pow.{pow-lt, split, ones_lt, suc_ones}
use lib.Bits.{bit_xor, bit_and, xor_lt, xor_zero_r, and_block, and_high, and_mask, and_le_r, and_zero_r}
use Rattle.protocols.specs.Word.{width, modulus, bit_at, of_bits, choose}
use Rattle.protocols.specs.Masked.{and_share}
use Rattle.protocols.specs.Bits.{round_s_at, round_p_at, source, round_s, round_p}
use Rattle.protocols.specs.Equal.{fold_at, fold_share}
use Rattle.protocols.specs.Private.WordForm.{sources_in, sources, clear, spread, word_s, word_p, heads, others, word_fold}
use Rattle.protocols.specs.Claims.{WordForms}
use Rattle.protocols.proofs.Laws.Bitwise.{by_bit, bit-lt, bit_zero, choose-lt, bit_high, bit-low, bit_top, bit-shr, bit-mod, bit_of, bit_ones, bit_at-xor, bit_at-and, of_bits-lt, ext}
use Rattle.protocols.proofs.Laws.Shared.{and_share-lt, bit_at-and_share, round_s_at-lt, round_p_at-lt, fold_at-lt}
use Rattle.protocols.proofs.Laws.Source.{source_first, source_next}

-- a position is below d, or d and some more
below_or : (j d : ℕ) → (j < d) ⊎ ((i : ℕ) × (j ≡ d + i))
below_or j d = either (dec_lt j d)
  where
    either : Dec (j < d) → (j < d) ⊎ ((i : ℕ) × (j ≡ d + i))
    either (yes h) = inl h
    either (no h) = inr (j - d, omega arith)

-- the shift of round k at 32 bits
pub stride : (k : ℕ) → k < 5 → 1 * 2 ^ k % 2 ^ 32 ≡ 2 ^ k
stride k h = rw one-mul (mod-eq_of_lt (pow-lt {j = 32} (omega arith)))

and-bit : (x d : ℕ) → bit_and x (2 ^ d) ≡ bit_at x d * 2 ^ d
unfolding bit_at
and-bit x d = ap (bit_and x) (omega (arith, two-pow-succ d, ap (λ (y : ℕ). 2 ^ y) (one-add d))) ∙ and_high x 1 d

bit_upper : (k i : ℕ) → i < 2 ^ k → bit_at (2 ^ k + i) k ≡ 1
unfolding bit_at
bit_upper k i h = rw (add-div_left i (pow_pos k), div-eq_of_lt h)

-- ---- the spread over r blocks of 2 ^ (k + 1) positions, as a product

unfoldable spread_in : ℕ → ℕ → ℕ → ℕ
spread_in k r x = bit_and x (sources_in k r) * (2 ^ (2 ^ k) - 1) * 2

module _ (k : ℕ) where
  -- bounds of the words on half a run and on a whole run
  abbrev H : ℕ
  H = 2 ^ (2 ^ k)

  abbrev R : ℕ
  R = 2 ^ (2 ^ suc k)

  -- the bit of the source in the first run
  abbrev first : ℕ → ℕ
  first x = bit_at x (2 ^ k - 1)

  -- the spread over one run, where b is the bit of its source
  run : ℕ → ℕ
  run b = b * (H - 1) * H

  run-lt : (b : ℕ) → b < 2 → run b < R
  unfolding run
  run-lt b h =
      rw (two-pow-succ k, pow-add 2 (2 ^ k) (2 ^ k))
      (mul-lt-mul_of_pos_right (by_bit (λ y. y * (H - 1) < H) (rw zero-mul (pow_pos (2 ^ k))) (rw one-mul (ones_lt (2 ^ k))) b h) (pow_pos (2 ^ k)))

  bit-run : (b j : ℕ) → b < 2 → j < 2 ^ suc k → bit_at (run b) j ≡ choose (bit_at j k) 0 b
  unfolding run
  bit-run b j hb l = ap (λ (y : ℕ). bit_at y j) (sym (add-zero (b * (H - 1) * H))) ∙ half (below_or j (2 ^ k))
    where
      half : (j < 2 ^ k) ⊎ ((i : ℕ) × (j ≡ 2 ^ k + i)) → bit_at (b * (H - 1) * H + 0) j ≡ choose (bit_at j k) 0 b
      half (inl h) = bit-low (b * (H - 1)) (2 ^ k) j (pow_pos (2 ^ k)) h ∙ rw (bit_zero j, bit_high k k h (le_refl k))
      half (inr (i, e)) =
          ap (bit_at (b * (H - 1) * H + 0)) e
          ∙ bit_top (b * (H - 1)) (2 ^ k) i (pow_pos (2 ^ k))
          ∙ by_bit (λ y. bit_at (y * (H - 1)) i ≡ y) (rw zero-mul (bit_zero i)) (rw one-mul (bit_ones (2 ^ k) i within)) b hb
          ∙ rw (e, bit_upper k i within)
        where
          within : i < 2 ^ k
          within = omega (arith, two-pow-succ k)

  -- a product, run by run
  scale : (p q y h c : ℕ) → (p * q + y * h) * c * 2 ≡ p * c * 2 * q + y * c * (h * 2)
  scale p q y h c = simp (add-mul, mul_assoc, mul_comm, mul_left_comm)

  spread_in_suc : (r x : ℕ) → spread_in k (suc r) x ≡ spread_in k r (x / R) * R + run (first x)
  unfolding spread_in sources_in run
  spread_in_suc r x =
      ap (λ (y : ℕ). y * (H - 1) * 2) masked_sources
      ∙ scale (bit_and (x / R) (sources_in k r)) R (first x) (2 ^ (2 ^ k - 1)) (H - 1)
      ∙ ap (λ (y : ℕ). bit_and (x / R) (sources_in k r) * (H - 1) * 2 * R + first x * (H - 1) * y)
      (sym (pow-suc 2 (2 ^ k - 1)) ∙ ap (λ (y : ℕ). 2 ^ y) (omega (arith, pow_pos k)))
    where
      within : 2 ^ k - 1 < 2 ^ suc k
      within = omega (arith, two-pow-succ k, pow_pos k)

      masked_sources : bit_and x (sources_in k r * R + 2 ^ (2 ^ k - 1)) ≡ bit_and (x / R) (sources_in k r) * R + first x * 2 ^ (2 ^ k - 1)
      masked_sources =
          ap (λ (y : ℕ). bit_and y (sources_in k r * R + 2 ^ (2 ^ k - 1))) (sym (split x (2 ^ suc k)))
          ∙ and_block (2 ^ suc k) (x / R) (sources_in k r) (x % R) (2 ^ (2 ^ k - 1)) (mod-lt x (pow_pos (2 ^ suc k))) (pow-lt within)
          ∙ ap (λ (y : ℕ). bit_and (x / R) (sources_in k r) * R + y)
          (and-bit (x % R) (2 ^ k - 1) ∙ ap (λ (y : ℕ). y * 2 ^ (2 ^ k - 1)) (bit-mod x (2 ^ suc k) (2 ^ k - 1) within))

  spread_in_lt : (r x : ℕ) → spread_in k r x < 2 ^ (r * 2 ^ suc k)
  unfolding spread_in sources_in
  spread_in_lt zero x = simp (and_zero_r, zero-mul) (zero-lt-suc 0)
  spread_in_lt (suc r) x =
      rw (spread_in_suc r x, suc-mul r (2 ^ suc k), pow-add 2 (r * 2 ^ suc k) (2 ^ suc k))
      (digits_lt (spread_in_lt r (x / R)) (run-lt (first x) (bit-lt x (2 ^ k - 1))))

  bit_next : (i : ℕ) → bit_at (2 ^ suc k + i) k ≡ bit_at i k
  bit_next i =
      sym (bit-mod (2 ^ suc k + i) (suc k) k (le_refl (suc k)))
      ∙ ap (λ (x : ℕ). bit_at x k) (add-mod_left (2 ^ suc k) i) ∙ bit-mod i (suc k) k (le_refl (suc k))

  bit_spread_in : (r x j : ℕ) → j < r * 2 ^ suc k → bit_at (spread_in k r x) j ≡ choose (bit_at j k) 0 (bit_at x (source k j))
  bit_spread_in zero x j l = absurd (omega (arith, zero-mul (2 ^ suc k)))
  bit_spread_in (suc r) x j l = ap (λ (y : ℕ). bit_at y j) (spread_in_suc r x) ∙ part (below_or j (2 ^ suc k)) (bit_spread_in r (x / R))
    where
      within : run (first x) < R
      within = run-lt (first x) (bit-lt x (2 ^ k - 1))

      part : (j < 2 ^ suc k) ⊎ ((i : ℕ) × (j ≡ 2 ^ suc k + i))
          → ((i : ℕ) → i < r * 2 ^ suc k → bit_at (spread_in k r (x / R)) i ≡ choose (bit_at i k) 0 (bit_at (x / R) (source k i)))
          → bit_at (spread_in k r (x / R) * R + run (first x)) j ≡ choose (bit_at j k) 0 (bit_at x (source k j))
      part (inl h) rest =
          bit-low (spread_in k r (x / R)) (2 ^ suc k) j within h
          ∙ bit-run (first x) j (bit-lt x (2 ^ k - 1)) h
          ∙ ap (λ (i : ℕ). choose (bit_at j k) 0 (bit_at x i)) (sym (source_first k j h))
      part (inr (i, e)) rest =
          ap (bit_at (spread_in k r (x / R) * R + run (first x))) e
          ∙ bit_top (spread_in k r (x / R)) (2 ^ suc k) i within
          ∙ rest i (omega (arith, suc-mul r (2 ^ suc k)))
          ∙ ap₂ (λ (b y : ℕ). choose b 0 y) (sym (bit_next i)) (bit-shr x (2 ^ suc k) (source k i) ∙ ap (bit_at x) (sym (source_next k i)))
          ∙ ap (λ (y : ℕ). choose (bit_at y k) 0 (bit_at x (source k y))) (sym e)

-- ---- at the width 2 ^ n, in round k below n

runs-width : (n k : ℕ) → k < n → 2 ^ (n - suc k) * 2 ^ suc k ≡ width n
runs-width n k h = sym (pow-add 2 (n - suc k) (suc k)) ∙ ap (λ (y : ℕ). 2 ^ y) (omega arith)

module _ (n k x : ℕ) (h : k < n) where
  product_lt : bit_and x (sources n k) * (2 ^ (2 ^ k) - 1) * 2 < modulus n
  unfolding spread_in sources
  product_lt = rw (runs-width n k h) at (spread_in_lt k (2 ^ (n - suc k)) x)

  shift_sum : bit_and x (sources n k) * 2 ^ (2 ^ k) ≡ bit_and x (sources n k) * (2 ^ (2 ^ k) - 1) + bit_and x (sources n k)
  shift_sum = sym (ap (λ (y : ℕ). bit_and x (sources n k) * y) (suc_ones (2 ^ k))) ∙ mul-suc (bit_and x (sources n k)) (2 ^ (2 ^ k) - 1)

  shifted-lt : bit_and x (sources n k) * 2 ^ (2 ^ k) < modulus n
  shifted-lt =
      let some : 0 < 2 ^ (2 ^ k) - 1 = omega (arith, pow_mono (pow_pos k)) in
      omega (arith, shift_sum, product_lt, le-mul_of_pos_right (bit_and x (sources n k)) some)

  spread-spread_in : spread n k x ≡ spread_in k (2 ^ (n - suc k)) x
  unfolding spread spread_in sources
  spread-spread_in =
      ap (λ (y : ℕ). (y - bit_and x (sources n k)) * 2 % modulus n) (mod-eq_of_lt shifted-lt)
      ∙ ap (λ (y : ℕ). y * 2 % modulus n) (omega (arith, shift_sum)) ∙ mod-eq_of_lt product_lt

  bit-spread : (j : ℕ) → j < width n → bit_at (spread n k x) j ≡ choose (bit_at j k) 0 (bit_at x (source k j))
  bit-spread j l = ap (λ (y : ℕ). bit_at y j) spread-spread_in ∙ bit_spread_in k (2 ^ (n - suc k)) x j (rw (runs-width n k h) l)

spread-lt : (n k x : ℕ) → spread n k x < modulus n
unfolding spread
spread-lt n k x = mod-lt _ (pow_pos (width n))

-- ---- one position, by the bit of choose

and_one : (x : ℕ) → x < 2 → bit_and x 1 ≡ x
and_one x h = and_mask x 1 ∙ mod-eq_of_lt h

choose_s : (b p p' s t t' : ℕ) → bit_xor s (and_share p p' (choose b 0 t) (choose b 0 t')) ≡ choose b s (bit_xor s (and_share p p' t t'))
choose_s zero p p' s t t' = simp (and_zero_r, xor_zero_r)
choose_s (suc b) p p' s t t' = refl

choose_p : (b p p' t t' : ℕ) → p < 2
    → bit_xor (bit_and p (choose b 1 0)) (and_share p p' (choose b 0 t) (choose b 0 t')) ≡ choose b p (and_share p p' t t')
choose_p zero p p' t t' h = simp (and_zero_r, xor_zero_r) (and_one p h)
choose_p (suc b) p p' t t' h = rw (and_zero_r p)

choose-fold : (b p p' t t' : ℕ) → p < 2 → t < 2 → t' < 2
    → bit_xor (bit_and p (choose b 0 1)) (and_share p p' (bit_and t (choose b 1 0)) (bit_and t' (choose b 1 0))) ≡ choose b (and_share p p' t t') p
choose-fold zero p p' t t' hp ht ht' = rw (and_zero_r p, and_one t ht, and_one t' ht')
choose-fold (suc b) p p' t t' hp ht ht' = simp (and_zero_r, xor_zero_r) (and_one p hp)

-- ---- whole words

-- a word combined with a shared 'and', position by position
by_positions : (w a p p' t t' : ℕ) (f : ℕ → ℕ) → ((j : ℕ) → f j < 2) → a < 2 ^ w → t < 2 ^ w → t' < 2 ^ w
    → ((j : ℕ) → j < w → bit_xor (bit_at a j) (and_share (bit_at p j) (bit_at p' j) (bit_at t j) (bit_at t' j)) ≡ f j)
    → bit_xor a (and_share p p' t t') ≡ of_bits w f
by_positions w a p p' t t' f hf ha ht ht' e =
    ext w (bit_xor a (and_share p p' t t')) (of_bits w f) (xor_lt w a (and_share p p' t t') ha (and_share-lt w p p' t t' ht ht')) (of_bits-lt w f hf)
    (λ j l. rw (bit_at-xor a (and_share p p' t t') j, bit_at-and_share p p' t t' j, bit_of w f hf j l) (e j l))

-- the bits that a mask keeps
module _ (w p : ℕ) (f : ℕ → ℕ) (h : (j : ℕ) → f j < 2) where
  kept_lt : bit_and p (of_bits w f) < 2 ^ w
  kept_lt = lt_of_le_of_lt (and_le_r p (of_bits w f)) (of_bits-lt w f h)

  bit_kept : (j : ℕ) → j < w → bit_at (bit_and p (of_bits w f)) j ≡ bit_and (bit_at p j) (f j)
  bit_kept j l = bit_at-and p (of_bits w f) j ∙ ap (bit_and (bit_at p j)) (bit_of w f h j l)

one_or_zero : (b : ℕ) → choose b 1 0 < 2
one_or_zero b = choose-lt b (omega arith) (omega arith)

zero_or-one : (b : ℕ) → choose b 0 1 < 2
zero_or-one b = choose-lt b (omega arith) (omega arith)

module _ (n k : ℕ) (h : k < n) where
  form_s : (p p' s s' : ℕ) → s < modulus n → word_s n k p p' s s' ≡ round_s (width n) k p p' s s'
  unfolding word_s round_s
  form_s p p' s s' hs =
      by_positions (width n) s p p' (spread n k s) (spread n k s') (round_s_at k p p' s s') (round_s_at-lt k p p' s s')
      hs (spread-lt n k s) (spread-lt n k s')
      (λ j l. rw (bit-spread n k s h j l, bit-spread n k s' h j l)
      (choose_s (bit_at j k) (bit_at p j) (bit_at p' j) (bit_at s j) (bit_at s (source k j)) (bit_at s' (source k j))))

  form_p : (p p' : ℕ) → word_p n k p p' ≡ round_p (width n) k p p'
  unfolding word_p clear round_p
  form_p p p' =
      by_positions (width n) (bit_and p (clear n k)) p p' (spread n k p) (spread n k p') (round_p_at k p p') (round_p_at-lt k p p')
      (kept_lt (width n) p (λ j. choose (bit_at j k) 1 0) (λ j. one_or_zero (bit_at j k))) (spread-lt n k p) (spread-lt n k p')
      (λ j l. rw (
        bit_kept (width n) p (λ j. choose (bit_at j k) 1 0) (λ j. one_or_zero (bit_at j k)) j l,
        bit-spread n k p h j l,
        bit-spread n k p' h j l,
      )
      (choose_p (bit_at j k) (bit_at p j) (bit_at p' j) (bit_at p (source k j)) (bit_at p' (source k j)) (bit-lt p j)))

module _ (n k : ℕ) where
  taken-lt : (p : ℕ) → bit_and (p / 2 ^ (2 ^ k)) (heads n k) < modulus n
  unfolding heads
  taken-lt p = kept_lt (width n) (p / 2 ^ (2 ^ k)) (λ j. choose (j % 2 ^ suc k) 1 0) (λ j. one_or_zero (j % 2 ^ suc k))

  bit-taken : (p j : ℕ) → j < width n → bit_at (bit_and (p / 2 ^ (2 ^ k)) (heads n k)) j ≡ bit_and (bit_at p (j + 2 ^ k)) (choose (j % 2 ^ suc k) 1 0)
  unfolding heads
  bit-taken p j l =
      bit_kept (width n) (p / 2 ^ (2 ^ k)) (λ j. choose (j % 2 ^ suc k) 1 0) (λ j. one_or_zero (j % 2 ^ suc k)) j l
      ∙ ap (λ (y : ℕ). bit_and y (choose (j % 2 ^ suc k) 1 0)) (bit-shr p (2 ^ k) j ∙ ap (bit_at p) (add_comm (2 ^ k) j))

  form_fold : (p p' : ℕ) → word_fold n k p p' ≡ fold_share (width n) k p p'
  unfolding word_fold others fold_share
  form_fold p p' =
      by_positions (width n) (bit_and p (others n k)) p p' (bit_and (p / 2 ^ (2 ^ k)) (heads n k)) (bit_and (p' / 2 ^ (2 ^ k)) (heads n k))
      (fold_at k p p') (fold_at-lt k p p')
      (kept_lt (width n) p (λ j. choose (j % 2 ^ suc k) 0 1) (λ j. zero_or-one (j % 2 ^ suc k))) (taken-lt p) (taken-lt p')
      (λ j l. rw (bit_kept (width n) p (λ j. choose (j % 2 ^ suc k) 0 1) (λ j. zero_or-one (j % 2 ^ suc k)) j l, bit-taken p j l, bit-taken p' j l)
      (choose-fold (j % 2 ^ suc k) (bit_at p j) (bit_at p' j) (bit_at p (j + 2 ^ k)) (bit_at p' (j + 2 ^ k))
      (bit-lt p j) (bit-lt p (j + 2 ^ k)) (bit-lt p' (j + 2 ^ k))))

pub word_forms : (n k : ℕ) → k < n → WordForms n k
word_forms n k h = record { form_s = form_s n k h; form_p = form_p n k h; form_fold = form_fold n k }
