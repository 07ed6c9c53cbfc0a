-- Words by their bits: extensionality, the algebra of exclusive or and 'and', shifts.
use Rattle.std.proofs.Common.{◌≡◌, ℕ, zero, suc, ◌+◌, ◌-◌, ◌*◌, ◌/◌, ◌%◌, ◌^◌, ◌<◌, ◌≤◌, min, ◌⊎◌, sym, refl, ap, ◌∙◌, ap₂, inl, inr, suc-le-suc, lt_of_lt_of_le, le_of_suc-le-suc, mod-lt, zero-lt-suc, pow-suc, div-add-mod', div-one, add-one, one-add, arith, pow_mono, shr-shr, shr_lt}
use native.Mathlib.Nat.{zero-div, div-eq_of_lt, zero-min}
use lib.Arith.{digits_mod, digits_div, digits_lt, lt-one}
use lib.Pow.{field, mod-mod-pow, low, high, ones_lt, ones_split}
use lib.Bits.{bit_xor, bit_and, differ, xor_step, and_step, xor_shr, and_shr, xor_mod, and_mod, xor_block, xor_comm, and_comm, xor_self, and_self, xor_zero_r}
use Rattle.protocols.specs.Word.{bit_at, of_bits, choose}

-- ---- the bits of a word

pub by_bit : (P : ℕ → Type 0) → P 0 → P 1 → (x : ℕ) → x < 2 → P x
by_bit P p q zero h = p
by_bit P p q (suc zero) h = q
by_bit P p q (suc (suc x)) h = absurd (omega arith)

pub bit-lt : (x j : ℕ) → bit_at x j < 2
unfolding bit_at
bit-lt x j = mod-lt (x / 2 ^ j) (zero-lt-suc 1)

pub clear-or-set : (x j : ℕ) → (bit_at x j ≡ 0) ⊎ (bit_at x j ≡ 1)
clear-or-set x j = by_bit (λ b. (b ≡ 0) ⊎ (b ≡ 1)) (inl refl) (inr refl) (bit_at x j) (bit-lt x j)

pub bit_zero : (j : ℕ) → bit_at 0 j ≡ 0
unfolding bit_at
bit_zero j = rw zero-div

pub bit_0 : (x : ℕ) → bit_at x 0 ≡ x % 2
unfolding bit_at
bit_0 x = rw div-one

pub bit-suc : (x j : ℕ) → bit_at x (suc j) ≡ bit_at (x / 2) j
unfolding bit_at
bit-suc x j = rw (shr-shr x 1 j, one-add)

-- above a word's width every bit is 0
pub bit_high : {x : ℕ} (w j : ℕ) → x < 2 ^ w → w ≤ j → bit_at x j ≡ 0
unfolding bit_at
bit_high {x} w j h l = rw (div-eq_of_lt (lt_of_lt_of_le h (pow_mono l)))

pub half_lt : {x : ℕ} (w : ℕ) → x < 2 ^ suc w → x / 2 < 2 ^ w
half_lt {x} w h = shr_lt w 1 (rw add-one h)

-- two words with the same bits are equal
pub ext : (w x y : ℕ) → x < 2 ^ w → y < 2 ^ w → ((j : ℕ) → j < w → bit_at x j ≡ bit_at y j) → x ≡ y
ext zero x y hx hy e = lt-one hx ∙ sym (lt-one hy)
ext (suc w) x y hx hy e =
    sym (div-add-mod' x 2)
    ∙ ap₂ (λ (p q : ℕ). p * 2 + q)
    (ext w (x / 2) (y / 2) (half_lt w hx) (half_lt w hy) (λ j l. sym (bit-suc x j) ∙ e (suc j) (suc-le-suc l) ∙ bit-suc y j))
    (sym (bit_0 x) ∙ e 0 (zero-lt-suc w) ∙ bit_0 y)
    ∙ div-add-mod' y 2

pub lt-pow : (n : ℕ) → n < 2 ^ n
lt-pow zero = zero-lt-suc 0
lt-pow (suc n) = let h : n < 2 ^ n = lt-pow n in rw pow-suc (omega arith)

-- two numbers with the same bits are equal
pub ext∞ : (x y : ℕ) → ((j : ℕ) → bit_at x j ≡ bit_at y j) → x ≡ y
ext∞ x y e =
    ext (x + y) x y (lt_of_lt_of_le (lt-pow x) (pow_mono (omega arith))) (lt_of_lt_of_le (lt-pow y) (pow_mono (omega arith))) (λ j l. e j)

-- ---- the bits of an exclusive or and of an 'and'

-- from the bits as words of one bit
pub bit_at-xor : (x y j : ℕ) → bit_at (bit_xor x y) j ≡ bit_xor (bit_at x j) (bit_at y j)
unfolding bit_at
bit_at-xor x y j = rw (xor_shr x y j) (xor_mod (x / 2 ^ j) (y / 2 ^ j) 1)

pub bit_at-and : (x y j : ℕ) → bit_at (bit_and x y) j ≡ bit_and (bit_at x j) (bit_at y j)
unfolding bit_at
bit_at-and x y j = rw (and_shr x y j) (and_mod (x / 2 ^ j) (y / 2 ^ j) 1)

-- from the bits as digits
pub differ_lt : (x y : ℕ) → x < 2 → y < 2 → differ x y < 2
differ_lt zero y hx hy = hy
differ_lt (suc x) zero hx hy = hx
differ_lt (suc x) (suc y) hx hy = differ_lt x y (omega arith) (omega arith)

pub min-lt : (x y : ℕ) → x < 2 → min x y < 2
min-lt x y h = omega arith

pub bit-xor : (x y j : ℕ) → bit_at (bit_xor x y) j ≡ differ (bit_at x j) (bit_at y j)
unfolding bit_at
bit-xor x y j =
    rw (xor_shr x y j, xor_step (x / 2 ^ j) (y / 2 ^ j))
    (digits_mod (bit_xor (x / 2 ^ j / 2) (y / 2 ^ j / 2)) (differ_lt (x / 2 ^ j % 2) (y / 2 ^ j % 2) (omega arith) (omega arith)))

pub bit-and : (x y j : ℕ) → bit_at (bit_and x y) j ≡ min (bit_at x j) (bit_at y j)
unfolding bit_at
bit-and x y j =
    rw (and_shr x y j, and_step (x / 2 ^ j) (y / 2 ^ j))
    (digits_mod (bit_and (x / 2 ^ j / 2) (y / 2 ^ j / 2)) (min-lt (x / 2 ^ j % 2) (y / 2 ^ j % 2) (omega arith)))

-- ---- the algebra of one digit

pub differ_assoc : (x y z : ℕ) → x < 2 → y < 2 → z < 2 → differ (differ x y) z ≡ differ x (differ y z)
differ_assoc x y z hx hy hz =
    by_bit (λ a. differ (differ a y) z ≡ differ a (differ y z)) refl
    (by_bit (λ b. differ (differ 1 b) z ≡ differ 1 (differ b z)) refl (by_bit (λ c. c ≡ differ 1 (differ 1 c)) refl refl z hz) y hy) x hx

pub min_differ : (x y z : ℕ) → x < 2 → y < 2 → z < 2 → min x (differ y z) ≡ differ (min x y) (min x z)
min_differ x y z hx hy hz =
    by_bit (λ a. min a (differ y z) ≡ differ (min a y) (min a z)) (simp zero-min)
    (by_bit (λ b. min 1 (differ b z) ≡ differ (min 1 b) (min 1 z)) refl
    (by_bit (λ c. min 1 (differ 1 c) ≡ differ 1 (min 1 c)) refl refl z hz) y hy) x hx

-- ---- the algebra of words, of any width

pub xor_assoc : (a b c : ℕ) → bit_xor (bit_xor a b) c ≡ bit_xor a (bit_xor b c)
xor_assoc a b c =
    ext∞ (bit_xor (bit_xor a b) c) (bit_xor a (bit_xor b c))
    (λ j. simp bit-xor (differ_assoc (bit_at a j) (bit_at b j) (bit_at c j) (bit-lt a j) (bit-lt b j) (bit-lt c j)))

pub xor-left_comm : (a b c : ℕ) → bit_xor a (bit_xor b c) ≡ bit_xor b (bit_xor a c)
xor-left_comm a b c = sym (xor_assoc a b c) ∙ ap (λ (x : ℕ). bit_xor x c) (xor_comm a b) ∙ xor_assoc b a c

-- what is combined twice cancels
pub xor_cancel : (a b : ℕ) → bit_xor (bit_xor a b) b ≡ a
xor_cancel a b = rw (xor_assoc a b b, xor_self b) (xor_zero_r a)

pub xor_cancel_l : (a b : ℕ) → bit_xor a (bit_xor a b) ≡ b
xor_cancel_l a b = rw (← (xor_assoc a a b), xor_self a)

pub and_assoc : (a b c : ℕ) → bit_and (bit_and a b) c ≡ bit_and a (bit_and b c)
and_assoc a b c = ext∞ (bit_and (bit_and a b) c) (bit_and a (bit_and b c)) (λ j. simp bit-and (omega arith))

pub and-left_comm : (a b c : ℕ) → bit_and a (bit_and b c) ≡ bit_and b (bit_and a c)
and-left_comm a b c = sym (and_assoc a b c) ∙ ap (λ (x : ℕ). bit_and x c) (and_comm a b) ∙ and_assoc b a c

pub and_twice : (a b : ℕ) → bit_and a (bit_and a b) ≡ bit_and a b
and_twice a b = rw (← (and_assoc a a b), and_self a)

pub and_xor : (a b c : ℕ) → bit_and a (bit_xor b c) ≡ bit_xor (bit_and a b) (bit_and a c)
and_xor a b c =
    ext∞ (bit_and a (bit_xor b c)) (bit_xor (bit_and a b) (bit_and a c))
    (λ j. simp (bit-xor, bit-and) (min_differ (bit_at a j) (bit_at b j) (bit_at c j) (bit-lt a j) (bit-lt b j) (bit-lt c j)))

pub xor-and : (a b c : ℕ) → bit_and (bit_xor a b) c ≡ bit_xor (bit_and a c) (bit_and b c)
xor-and a b c = and_comm (bit_xor a b) c ∙ and_xor c a b ∙ ap₂ bit_xor (and_comm c a) (and_comm c b)

-- orders the parts of an exclusive or
pub ruleset xor·ac = (xor_assoc, xor_comm, xor-left_comm)

-- ---- a word from its bits

pub choose-lt : (b : ℕ) {x y : ℕ} → x < 2 → y < 2 → choose b x y < 2
choose-lt zero hx hy = hx
choose-lt (suc b) hx hy = hy

pub of_bits-lt : (w : ℕ) (f : ℕ → ℕ) → ((j : ℕ) → f j < 2) → of_bits w f < 2 ^ w
unfolding of_bits
of_bits-lt zero f h = zero-lt-suc 0
of_bits-lt (suc w) f h = rw pow-suc (digits_lt (of_bits-lt w (λ j. f (suc j)) (λ j. h (suc j))) (h 0))

pub bit_of : (w : ℕ) (f : ℕ → ℕ) → ((j : ℕ) → f j < 2) → (j : ℕ) → j < w → bit_at (of_bits w f) j ≡ f j
unfolding of_bits
bit_of zero f h j l = absurd (omega arith)
bit_of (suc w) f h zero l = bit_0 (of_bits w (λ j. f (suc j)) * 2 + f 0) ∙ digits_mod (of_bits w (λ j. f (suc j))) (h 0)
bit_of (suc w) f h (suc j) l =
    bit-suc (of_bits w (λ j. f (suc j)) * 2 + f 0) j
    ∙ ap (λ (x : ℕ). bit_at x j) (digits_div (of_bits w (λ j. f (suc j))) (h 0))
    ∙ bit_of w (λ j. f (suc j)) (λ j. h (suc j)) j (le_of_suc-le-suc l)

pub xor-of_bits : (w : ℕ) (f g : ℕ → ℕ) → ((j : ℕ) → f j < 2) → ((j : ℕ) → g j < 2)
    → bit_xor (of_bits w f) (of_bits w g) ≡ of_bits w (λ j. bit_xor (f j) (g j))
unfolding of_bits
xor-of_bits zero f g hf hg = refl
xor-of_bits (suc w) f g hf hg =
    xor_block 1 (of_bits w (λ j. f (suc j))) (of_bits w (λ j. g (suc j))) (f 0) (g 0) (hf 0) (hg 0)
    ∙ ap (λ (x : ℕ). x * 2 + bit_xor (f 0) (g 0)) (xor-of_bits w (λ j. f (suc j)) (λ j. g (suc j)) (λ j. hf (suc j)) (λ j. hg (suc j)))

-- ---- bits of a shift, of a remainder, of two runs of bits, and of all ones

pub bit-shr : (x d j : ℕ) → bit_at (x / 2 ^ d) j ≡ bit_at x (d + j)
unfolding bit_at
bit-shr x d j = rw (shr-shr x d j)

pub bit-mod : (x w j : ℕ) → j < w → bit_at (x % 2 ^ w) j ≡ bit_at x j
unfolding bit_at
bit-mod x w j l =
    ap (λ (y : ℕ). x % 2 ^ y / 2 ^ j % 2) (omega arith) ∙ ap (λ (y : ℕ). y % 2) (field x (w - suc j + 1) j)
    ∙ mod-mod-pow (x / 2 ^ j) (w - suc j) 1

pub bit-low : (q d j : ℕ) {r : ℕ} → r < 2 ^ d → j < d → bit_at (q * 2 ^ d + r) j ≡ bit_at r j
bit-low q d j {r} h l = sym (bit-mod (q * 2 ^ d + r) d j l) ∙ ap (λ (x : ℕ). bit_at x j) (low q d h)

pub bit_top : (q d j : ℕ) {r : ℕ} → r < 2 ^ d → bit_at (q * 2 ^ d + r) (d + j) ≡ bit_at q j
bit_top q d j {r} h = sym (bit-shr (q * 2 ^ d + r) d j) ∙ ap (λ (x : ℕ). bit_at x j) (high q d h)

pub bit_ones : (w j : ℕ) → j < w → bit_at (2 ^ w - 1) j ≡ 1
unfolding bit_at
bit_ones w j l =
    ap (λ (x : ℕ). (2 ^ x - 1) / 2 ^ j % 2) (omega arith) ∙ ap (λ (x : ℕ). x / 2 ^ j % 2) (ones_split (w - suc j + 1) j)
    ∙ ap (λ (x : ℕ). x % 2) (high (2 ^ (w - suc j + 1) - 1) j (ones_lt j) ∙ ones_split (w - suc j) 1) ∙ low (2 ^ (w - suc j) - 1) 1 (ones_lt 1)
