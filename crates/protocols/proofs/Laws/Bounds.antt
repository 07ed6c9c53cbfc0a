-- The shares and words that the steps make are words below m.
use Rattle.std.proofs.Common.{ℕ, zero, suc, ◌^◌, ◌<◌, mod-lt, zero-lt-suc, arith, pow_pos}
use lib.Bits.{bit_xor, xor_lt, and_lt}
use Rattle.protocols.specs.declared.place.Party.TheVariants.{One, Two, Three}
use Rattle.protocols.specs.declared.shares.Shares.{Shares}
use Rattle.protocols.specs.declared.bits.Dealing.{Dealing}
use Rattle.protocols.specs.Word.{add, mul, bit_at, low_bit, choose}
use Rattle.protocols.specs.Shares.{Miner, one, two, three, prev, at, each, shares, SharesAreWords, Operands}
use Rattle.protocols.specs.Place.{Tapes, word, words, counts}
use Rattle.protocols.specs.Local.{difference}
use Rattle.protocols.specs.Reshare.{fresh_shares}
use Rattle.protocols.specs.Multiply.{product}
use Rattle.protocols.specs.Masked.{masked_shares}
use Rattle.protocols.specs.Bit.{bits_at, b, b₁₂, b₁₃, s₂₃, s₃₂}
use Rattle.protocols.specs.Bits.{dealing, exchanged_sum, p₀, s₀}
use Rattle.protocols.specs.Equal.{comparison}
use Rattle.protocols.specs.Contents.{Contents}
use Rattle.protocols.proofs.Laws.Ring.{add-lt, sub-lt}
use Rattle.protocols.proofs.Laws.Bitwise.{bit-lt}
use Rattle.protocols.proofs.Laws.Blocks.{word_lt}

module _ {m : ℕ} where
  pub words_of : {f : Miner → ℕ} → ((i : Miner) → f i < m) → SharesAreWords m (each f)
  words_of h one = h one
  words_of h two = h two
  words_of h three = h three

  pub words-three : {a b c : ℕ} → a < m → b < m → c < m → SharesAreWords m (shares a b c)
  words-three f g h one = f
  words-three f g h two = g
  words-three f g h three = h

  -- word k of each miner's tape
  pub drawn-words : {n : ℕ} {t : Tapes} (k : ℕ) → k < n → Contents m (counts 0 n n n) t → SharesAreWords m (words t k)
  drawn-words {t = t} k l h = words-three (word_lt t.one k (h One) l) (word_lt t.two k (h Two) l) (word_lt t.three k (h Three) l)

-- ---- ring shares

module _ (m : ℕ) (pos : 0 < m) where
  pub fresh-words : (s r : Shares) → SharesAreWords m (fresh_shares m s r)
  fresh-words s r = words_of (λ i. sub-lt m pos (add m (at i s) (at i r)) (at (prev i) r))

  pub difference-words : (x : Operands) → SharesAreWords m (difference m x)
  difference-words x = words_of (λ i. sub-lt m pos (at i x.u) (at i x.v))

  pub comparison-words : (x : Operands) (t : Tapes) → SharesAreWords m (comparison m x t)
  comparison-words x t = words-three (omega arith) (add-lt m pos _ _) (sub-lt m pos _ _)

  pub product-words : (u v : Shares) → SharesAreWords m (product m u v)
  product-words u v = words_of (λ i. add-lt m pos (add m (mul m (at i u) (at i v)) (mul m (at i u) (at (prev i) v))) (mul m (at (prev i) u) (at i v)))

-- ---- bits

pub choose_word : {m x y : ℕ} (b : ℕ) → x < m → y < m → choose b x y < m
choose_word zero g h = g
choose_word (suc b) g h = h

pub low-lt : (x : ℕ) → low_bit x < 2
low-lt x = mod-lt x (zero-lt-suc 1)

pub b₁₃-lt : (t : Tapes) → b₁₃ t < 2
b₁₃-lt t = xor_lt 1 (b t) (b₁₂ t) (low-lt (word t one 0)) (low-lt (word t one 2))

module _ (j : ℕ) (u : Shares) (t : Tapes) where
  pub s₂₃-lt : s₂₃ (bits_at j u) t < 2
  s₂₃-lt = xor_lt 1 (b₁₂ t) (bit_at u.two j) (low-lt (word t one 2)) (bit-lt u.two j)

  pub s₃₂-lt : s₃₂ (bits_at j u) t < 2
  s₃₂-lt = xor_lt 1 (b₁₃ t) (bit_at u.three j) (b₁₃-lt t) (bit-lt u.three j)

-- ---- Bits and Equal, on words of w bits

-- what miners 2 and 3 hold after the dealing of Bits
pub record DealingWords (m : ℕ) (d : Dealing) : Type 0 where
  pub v2 : d.v2 < m
  pub v3 : d.v3 < m
  pub bar2 : d.bar2 < m
  pub bar3 : d.bar3 < m

module _ (w : ℕ) where
  pub dealing-words : (u : Shares) (t : Tapes) → Contents (2 ^ w) (counts 0 3 0 0) t
      → DealingWords (2 ^ w) (dealing (2 ^ w) u t)
  dealing-words u t h =
      let drawn : (k : ℕ) → k < 3 → word t one k < 2 ^ w = λ k. word_lt t.one k (h One) in
      record {
        v2 = add-lt (2 ^ w) (pow_pos w) _ _;
        v3 = add-lt (2 ^ w) (pow_pos w) _ _;
        bar2 = drawn 2 (omega arith);
        bar3 = xor_lt w _ _ (drawn 0 (omega arith)) (drawn 2 (omega arith));
      }

  -- the shares that they make from it
  exchanged_sum-lt : (d : Dealing) → exchanged_sum (2 ^ w) d < 2 ^ w
  exchanged_sum-lt d = add-lt (2 ^ w) (pow_pos w) d.v2 d.v3

  pub p₀-words : {d : Dealing} → DealingWords (2 ^ w) d → SharesAreWords (2 ^ w) (p₀ (2 ^ w) d)
  p₀-words {d} h = words-three (pow_pos w) (xor_lt w _ _ (exchanged_sum-lt d) h.bar2) h.bar3

  pub s₀-words : {d : Dealing} → DealingWords (2 ^ w) d → SharesAreWords (2 ^ w) (s₀ (2 ^ w) d)
  s₀-words {d} h = words-three (pow_pos w) (and_lt w _ _ (exchanged_sum-lt d) h.bar2) (and_lt w _ _ (exchanged_sum-lt d) h.bar3)

pub masked-words : (w : ℕ) {p q : Shares} → SharesAreWords (2 ^ w) p → SharesAreWords (2 ^ w) q → SharesAreWords (2 ^ w) (masked_shares p q)
masked-words w {p} {q} hp hq =
    words_of (λ i. xor_lt w (bit_xor (at i p) (at i q)) (at (prev i) q) (xor_lt w (at i p) (at i q) (hp i) (hq i)) (hq (prev i)))
