-- The carry rounds on plain words leave the carries of a sum.
use Rattle.std.proofs.Common.{◌≡◌, ℕ, zero, suc, ◌+◌, ◌*◌, ◌/◌, ◌%◌, ◌^◌, ◌<◌, sym, ap, ◌∙◌, ap₂, ⊎_elim, le_trans, lt_trans, mod-lt, div-lt_iff_lt-mul, add-mul, pow-suc, zero-mul, mul-one, div-one, mul-div_cancel, one-add, arith, pow_pos}
use native.Mathlib.Nat.{mod-one, div-eq_of_lt, div-div-eq-div-mul, add-mul-div_right, mul-mod_left}
use lib.Arith.{digits_mod, digits_div}
use lib.Pow.{split, mod-pow-add}
use lib.Bits.{bit_xor, bit_and, xor_lt, xor_self, xor_zero_r, and_zero_r, xor_add_and, xor_disjoint}
use Rattle.protocols.specs.Word.{width, modulus, bit_at, add, shift_up}
use Rattle.protocols.specs.Bits.{round_s_at, round_p_at, source, round_s, round_p}
use Rattle.protocols.proofs.Laws.Bitwise.{bit-lt, bit_0, bit-suc, bit-mod, clear-or-set, bit_at-xor, bit_at-and, ext, xor_assoc, and_assoc, and-left_comm, and_twice, and_xor, xor-and}
use Rattle.protocols.proofs.Laws.Shared.{bit-round_s, bit-round_p, and_share_zero, up_lt}
use Rattle.protocols.proofs.Laws.Source.{start, start-clear, start-set, suc-source, start-source, source-lt}

-- ---- the carry into position j of a sum

unfoldable carry : ℕ → ℕ → ℕ → ℕ
carry a b j = (a % 2 ^ j + b % 2 ^ j) / 2 ^ j

carry_lt : (a b j : ℕ) → carry a b j < 2
unfolding carry
carry_lt a b j = (div-lt_iff_lt-mul (pow_pos j)).1 (omega (arith, mod-lt a (pow_pos j), mod-lt b (pow_pos j)))

carry_zero : (a b : ℕ) → carry a b 0 ≡ 0
unfolding carry
carry_zero a b = rw (mod-one a, mod-one b)

-- three words added: the carries, and the sum without carries
add-three : (x y c : ℕ) → bit_xor (bit_and x y) (bit_and (bit_xor x y) c) * 2 + bit_xor (bit_xor x y) c ≡ c + (x + y)
add-three x y c = omega (arith, xor_add_and x y, xor_add_and (bit_xor x y) c, xor_disjoint (bit_and x y) (bit_and (bit_xor x y) c) disjoint)
  where
    disjoint : bit_and (bit_and x y) (bit_and (bit_xor x y) c) ≡ 0
    disjoint = simp (and_xor, xor-and, and_assoc, and-left_comm, and_twice, xor_self)

mod-suc : (a j : ℕ) → a % 2 ^ suc j ≡ bit_at a j * 2 ^ j + a % 2 ^ j
unfolding bit_at
mod-suc a j = rw (← (one-add j)) (mod-pow-add a 1 j)

module _ (a b j : ℕ) where
  digit_lt : bit_xor (bit_xor (bit_at a j) (bit_at b j)) (carry a b j) < 2
  digit_lt = xor_lt 1 (bit_xor (bit_at a j) (bit_at b j)) (carry a b j) (xor_lt 1 (bit_at a j) (bit_at b j) (bit-lt a j) (bit-lt b j)) (carry_lt a b j)

  carry_suc : carry a b (suc j) ≡ bit_xor (bit_and (bit_at a j) (bit_at b j)) (bit_and (bit_xor (bit_at a j) (bit_at b j)) (carry a b j))
  unfolding carry
  carry_suc =
      ap₂ (λ (x y : ℕ). x / y) sum (pow-suc 2 j)
      ∙ sym (div-div-eq-div-mul (a % 2 ^ j + b % 2 ^ j + (bit_at a j + bit_at b j) * 2 ^ j) (2 ^ j) 2)
      ∙ ap (λ (x : ℕ). x / 2)
      (add-mul-div_right (a % 2 ^ j + b % 2 ^ j) (bit_at a j + bit_at b j) (pow_pos j) ∙ sym (add-three (bit_at a j) (bit_at b j) (carry a b j)))
      ∙ digits_div (bit_xor (bit_and (bit_at a j) (bit_at b j)) (bit_and (bit_xor (bit_at a j) (bit_at b j)) (carry a b j))) digit_lt
    where
      sum : a % 2 ^ suc j + b % 2 ^ suc j ≡ a % 2 ^ j + b % 2 ^ j + (bit_at a j + bit_at b j) * 2 ^ j
      sum = omega (arith, mod-suc a j, mod-suc b j, add-mul (bit_at a j) (bit_at b j) (2 ^ j))

  bit-add : bit_at (a + b) j ≡ bit_xor (bit_xor (bit_at a j) (bit_at b j)) (carry a b j)
  unfolding bit_at carry
  bit-add =
      ap (λ (x : ℕ). x / 2 ^ j % 2) sum
      ∙ ap (λ (x : ℕ). x % 2) (add-mul-div_right (a % 2 ^ j + b % 2 ^ j) (a / 2 ^ j + b / 2 ^ j) (pow_pos j))
      ∙ digits
      ∙ ap (λ (x : ℕ). x % 2) (sym (add-three (bit_at a j) (bit_at b j) (carry a b j)))
      ∙ digits_mod (bit_xor (bit_and (bit_at a j) (bit_at b j)) (bit_and (bit_xor (bit_at a j) (bit_at b j)) (carry a b j))) digit_lt
    where
      sum : a + b ≡ a % 2 ^ j + b % 2 ^ j + (a / 2 ^ j + b / 2 ^ j) * 2 ^ j
      sum = omega (arith, split a j, split b j, add-mul (a / 2 ^ j) (b / 2 ^ j) (2 ^ j))

      digits : (carry a b j + (a / 2 ^ j + b / 2 ^ j)) % 2 ≡ (carry a b j + (bit_at a j + bit_at b j)) % 2
      digits = omega arith

-- ---- after k rounds on plain words

unfoldable pub carry_p : ℕ → ℕ → ℕ → ℕ
carry_p w zero p = p
carry_p w (suc k) p = round_p w k (carry_p w k p) 0

unfoldable pub carry_s : ℕ → ℕ → ℕ → ℕ → ℕ
carry_s w zero p s = s
carry_s w (suc k) p s = round_s w k (carry_p w k p) 0 (carry_s w k p s) 0

-- C j is the carry into position j; s and p give the carry out of j from the carry into j's block of 2 ^ k positions
unfoldable CarriesOut : ℕ → (ℕ → ℕ) → ℕ → ℕ → ℕ → Type 0
CarriesOut w C k p s = (j : ℕ) → j < w → C (suc j) ≡ bit_xor (bit_at s j) (bit_and (bit_at p j) (C (start k j)))

-- through the upper half of a run, then through the lower
through : (s p t q c : ℕ) → bit_xor s (bit_and p (bit_xor t (bit_and q c))) ≡ bit_xor (bit_xor s (bit_and p t)) (bit_and (bit_and p q) c)
through s p t q c = simp (and_xor, xor_assoc, and_assoc)

module _ (w : ℕ) (C : ℕ → ℕ) where
  carries_round : (k p s : ℕ) → CarriesOut w C k p s → CarriesOut w C (suc k) (round_p w k p 0) (round_s w k p 0 s 0)
  unfolding CarriesOut
  carries_round k p s h j l = rw (bit-round_s w k p 0 s 0 j l, bit-round_p w k p 0 j l) (⊎_elim clear set (clear-or-set j k))
    where
      clear : bit_at j k ≡ 0 → C (suc j) ≡ bit_xor (round_s_at k p 0 s 0 j) (bit_and (round_p_at k p 0 j) (C (start (suc k) j)))
      clear e = rw (e, start-clear k j e) (h j l)

      set : bit_at j k ≡ 1 → C (suc j) ≡ bit_xor (round_s_at k p 0 s 0 j) (bit_and (round_p_at k p 0 j) (C (start (suc k) j)))
      set e =
          rw (
            e,
            and_share_zero (bit_at p j) j (bit_at s (source k j)) (source k j),
            and_share_zero (bit_at p j) j (bit_at p (source k j)) (source k j),
          )
          (h j l
          ∙ ap (λ (x : ℕ). bit_xor (bit_at s j) (bit_and (bit_at p j) x))
          (ap C (start-set k j e ∙ sym (suc-source k j))
          ∙ h (source k j) (lt_trans (source-lt k j e) l)
          ∙ ap (λ (x : ℕ). bit_xor (bit_at s (source k j)) (bit_and (bit_at p (source k j)) (C x))) (start-source k j))
          ∙ through (bit_at s j) (bit_at p j) (bit_at s (source k j)) (bit_at p (source k j)) (C (start (suc k) j)))

  carries_rounds : (k p s : ℕ) → CarriesOut w C 0 p s → CarriesOut w C k (carry_p w k p) (carry_s w k p s)
  unfolding carry_p carry_s
  carries_rounds zero p s h = h
  carries_rounds (suc k) p s h = carries_round k (carry_p w k p) (carry_s w k p s) (carries_rounds k p s h)

carries_begin : (w v r : ℕ) → CarriesOut w (carry v r) 0 (bit_xor v r) (bit_and v r)
unfolding CarriesOut start
carries_begin w v r j l = rw (bit_at-and v r j, bit_at-xor v r j, div-one j, mul-one j) (carry_suc v r j)

-- after n rounds over 2 ^ n positions, bit j is the carry out of position j
bit_carry_s : (n v r j : ℕ) → j < width n → bit_at (carry_s (width n) n (bit_xor v r) (bit_and v r)) j ≡ carry v r (suc j)
unfolding CarriesOut start
bit_carry_s n v r j l =
    sym (carries_rounds (width n) (carry v r) n (bit_xor v r) (bit_and v r) (carries_begin (width n) v r) j l
    ∙ rw (div-eq_of_lt l, zero-mul, carry_zero v r, and_zero_r) (xor_zero_r (bit_at (carry_s (width n) n (bit_xor v r) (bit_and v r)) j)))

bit_up : (w x j : ℕ) → suc j < w → bit_at (shift_up w x) (suc j) ≡ bit_at x j
unfolding shift_up
bit_up w x j l = bit-mod (x * 2) w (suc j) l ∙ bit-suc (x * 2) j ∙ ap (λ (y : ℕ). bit_at y j) (mul-div_cancel x (pow_pos 1))

bit-up_zero : (w x : ℕ) → 0 < w → bit_at (shift_up w x) 0 ≡ 0
unfolding shift_up
bit-up_zero w x l = bit-mod (x * 2) w 0 l ∙ bit_0 (x * 2) ∙ mul-mod_left x 2

-- a sum is the two words and the carries shifted up by one bit, combined by exclusive or
pub carry_sum : (n v r : ℕ) → v < modulus n → r < modulus n
    → bit_xor (bit_xor v r) (shift_up (width n) (carry_s (width n) n (bit_xor v r) (bit_and v r))) ≡ add (modulus n) v r
unfolding add
carry_sum n v r hv hr =
    ext w (bit_xor (bit_xor v r) (shift_up w s)) ((v + r) % 2 ^ w)
    (xor_lt w (bit_xor v r) (shift_up w s) (xor_lt w v r hv hr) (up_lt w s)) (mod-lt (v + r) (pow_pos w))
    (λ j l. rw (bit_at-xor (bit_xor v r) (shift_up w s) j, bit_at-xor v r j, bit-mod (v + r) w j l, bit-add v r j)
    (ap (bit_xor (bit_xor (bit_at v j) (bit_at r j))) (carries j l)))
  where
    w : ℕ
    w = width n

    s : ℕ
    s = carry_s w n (bit_xor v r) (bit_and v r)

    carries : (j : ℕ) → j < w → bit_at (shift_up w s) j ≡ carry v r j
    carries zero l = bit-up_zero w s l ∙ sym (carry_zero v r)
    carries (suc j) l = bit_up w s j l ∙ bit_carry_s n v r j (le_trans (omega arith) l)
