-- The decimal form of a number spells it, in digits, without leading zeros.
use Prim.Native.Nat.{ℕ, zero, suc, ◌+◌, ◌-◌, ◌*◌, ◌/◌, ◌^◌, ◌≤◌, ◌<◌}
use mathlib.Core.Path.{◌≡◌, refl}
use mathlib.Core.List.{List, [], ◌∷◌, ◌++◌}
use native.Mathlib.Decide.{dec_lt}
use native.Mathlib.Nat.{pow-suc}
use native.Mathlib.Omega.{arith}
use lib.ListN.{length, get_or}
use Rattle.session.specs.Text.{last_digit, digits, value_of}
use Rattle.session.specs.Claims.{Decimal}
use Rattle.session.proofs.Laws.Digits.{appends}

-- ---- the number spelt

value-append : (n : ℕ) (l t : List ℕ) → value_of n (l ++ t) ≡ value_of (value_of n l) t
unfolding value_of
value-append n [] t = refl
value-append n (d ∷ l) t = value-append (10 * n + (d - 48)) l t

-- with digits enough for it
spells-within : (k n : ℕ) → n < 10 ^ suc k → value_of 0 (digits (suc k) n) ≡ n
unfolding value_of
spells-within zero n h = rw (appends.one 0 n (omega arith)) (omega arith)
spells-within (suc k) n h = by_size (dec_lt n 10) (spells-within k (n / 10) (omega (arith, pow-suc 10 (suc k))))
  where
    by_size : Dec (n < 10) → value_of 0 (digits (suc k) (n / 10)) ≡ n / 10 → value_of 0 (digits (suc (suc k)) n) ≡ n
    by_size (yes one) e = rw (appends.one (suc k) n one) (omega arith)
    by_size (no more) e = rw (appends.more (suc k) n (omega arith), value-append, e) (omega arith)

-- ---- its digits

abbrev AreDigits : List ℕ → Type 0
AreDigits l = (i : ℕ) → i < length l → (48 ≤ get_or l i 0) × (get_or l i 0 ≤ 57)

with_last : (l : List ℕ) (d : ℕ) → AreDigits l → (48 ≤ d) × (d ≤ 57) → AreDigits (l ++ (d ∷ []))
with_last [] d f p zero h = p
with_last [] d f p (suc i) h = let w : ⊥ = omega arith in absurd w
with_last (a ∷ l) d f p zero h = f 0 (omega arith)
with_last (a ∷ l) d f p (suc i) h = with_last l d (λ j g. f (suc j) (omega arith)) p i (omega arith)

digits_are : (k n : ℕ) → AreDigits (digits k n)
unfolding digits
digits_are zero n = λ i h. let w : ⊥ = omega arith in absurd w
digits_are (suc k) n = by_size (dec_lt n 10) (digits_are k (n / 10))
  where
    by_size : Dec (n < 10) → AreDigits (digits k (n / 10)) → AreDigits (digits (suc k) n)
    by_size (yes one) f = rw (appends.one k n one) (with_last [] (48 + n) (λ i h. let w : ⊥ = omega arith in absurd w) (omega arith))
    by_size (no more) f = rw (appends.more k n (omega arith)) (with_last (digits k (n / 10)) (last_digit n) f (omega arith))

-- ---- its first digit

first_stays : (l t : List ℕ) → 48 < get_or l 0 0 → 48 < get_or (l ++ t) 0 0
first_stays [] t h = let w : ⊥ = omega arith in absurd w
first_stays (d ∷ l) t h = h

first-within : (k n : ℕ) → 0 < n → n < 10 ^ suc k → 48 < get_or (digits (suc k) n) 0 0
first-within zero n p h = rw (appends.one 0 n (omega arith)) (omega arith)
first-within (suc k) n p h = by_size (dec_lt n 10) (first-within k (n / 10))
  where
    by_size : Dec (n < 10) → (0 < n / 10 → n / 10 < 10 ^ suc k → 48 < get_or (digits (suc k) (n / 10)) 0 0) → 48 < get_or (digits (suc (suc k)) n) 0 0
    by_size (yes one) f = rw (appends.one (suc k) n one) (omega arith)
    by_size (no more) f =
        rw (appends.more (suc k) n (omega arith))
        (first_stays (digits (suc k) (n / 10)) (last_digit n ∷ []) (f (omega arith) (omega (arith, pow-suc 10 (suc k)))))

-- ---- all of it

pub decimal : (n : ℕ) → n < 2 ^ 64 → Decimal n
decimal n h = record {
  are_digits = digits_are 20 n;
  no_leading_zero = λ p. first-within 19 n p (omega arith);
  spells = spells-within 19 n (omega arith);
}
