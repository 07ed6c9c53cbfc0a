-- Words shared by exclusive or: masks, a shared 'and', the rounds, and what the shares combine to.
use Rattle.std.proofs.Common.{◌≡◌, ℕ, zero, suc, ◌*◌, ◌%◌, ◌^◌, ◌<◌, sym, refl, ap, ◌∙◌, ap₂, lt_of_le_of_lt, add-zero, mod-lt, pow_pos}
use mathlib.Core.Path.{fun_ext}
use lib.Bits.{bit_xor, bit_and, xor_lt, and_le_r, xor_self, xor_zero_r, xor_mod, xor_block, and_zero_r}
use Rattle.protocols.specs.declared.shares.Shares.{Shares}
use Rattle.protocols.specs.declared.bits.CarryState.{CarryState}
use Rattle.protocols.specs.Word.{bit_at, of_bits, shift_up, choose}
use Rattle.protocols.specs.Shares.{Miner, one, two, three, prev, at, each, xor_of, SharesAreWords}
use Rattle.protocols.specs.Masked.{masked_shares, and_share}
use Rattle.protocols.specs.Bit.{bits_at}
use Rattle.protocols.specs.Bits.{round_s_at, round_p_at, source, round_s, round_p, sum_bits}
use Rattle.protocols.specs.Equal.{fold_at, fold_share}
use Rattle.protocols.proofs.Laws.Bitwise.{bit-lt, bit_zero, choose-lt, bit_at-xor, bit_at-and, xor_cancel_l, and_xor, xor-and, xor·ac, of_bits-lt, bit_of, xor-of_bits}

-- ---- a miner's share of an 'and'

pub and_share-lt : (w a a' b b' : ℕ) → b < 2 ^ w → b' < 2 ^ w → and_share a a' b b' < 2 ^ w
and_share-lt w a a' b b' h h' =
    xor_lt w (bit_xor (bit_and a b) (bit_and a b')) (bit_and a' b)
    (xor_lt w (bit_and a b) (bit_and a b') (lt_of_le_of_lt (and_le_r a b) h) (lt_of_le_of_lt (and_le_r a b') h')) (lt_of_le_of_lt (and_le_r a' b) h)

pub bit_at-and_share : (a a' b b' j : ℕ) → bit_at (and_share a a' b b') j ≡ and_share (bit_at a j) (bit_at a' j) (bit_at b j) (bit_at b' j)
bit_at-and_share a a' b b' j = simp (bit_at-xor, bit_at-and)

-- if the previous miner's shares are 0, it is the 'and' itself
pub and_share_zero : (a i b j : ℕ) → and_share a (bit_at 0 i) b (bit_at 0 j) ≡ bit_and a b
and_share_zero a i b j = simp (bit_zero, and_zero_r, xor_zero_r)

-- ---- what shares combine to

pub xor_of-lt : (w : ℕ) (s : Shares) → SharesAreWords (2 ^ w) s → xor_of s < 2 ^ w
unfolding xor_of
xor_of-lt w s h = xor_lt w (bit_xor s.one s.two) s.three (xor_lt w s.one s.two (h one) (h two)) (h three)

pub xor-bits_at : (j : ℕ) (u : Shares) → xor_of (bits_at j u) ≡ bit_at (xor_of u) j
unfolding xor_of
xor-bits_at j u = simp bit_at-xor

-- each mask occurs twice
masks_cancel : (a b c x y z : ℕ) → bit_xor (bit_xor (bit_xor (bit_xor a x) z) (bit_xor (bit_xor b y) x)) (bit_xor (bit_xor c z) y) ≡ bit_xor (bit_xor a b) c
masks_cancel a b c x y z = simp (xor·ac, xor_self, xor_cancel_l)

pub xor_masked : (p q : Shares) → xor_of (masked_shares p q) ≡ xor_of p
unfolding xor_of
xor_masked p q = masks_cancel p.one p.two p.three q.one q.two q.three

-- the exclusive or of each miner's two shares
abbrev xors : Shares → Shares → Shares
xors a b = each (λ i. bit_xor (at i a) (at i b))

pairs : (a b c x y z : ℕ) → bit_xor (bit_xor (bit_xor a x) (bit_xor b y)) (bit_xor c z) ≡ bit_xor (bit_xor (bit_xor a b) c) (bit_xor (bit_xor x y) z)
pairs a b c x y z = simp xor·ac

xor_xors : (a b : Shares) → xor_of (xors a b) ≡ bit_xor (xor_of a) (xor_of b)
unfolding xor_of
xor_xors a b = pairs a.one a.two a.three b.one b.two b.three

-- each miner's share of an 'and'
abbrev ands : Shares → Shares → Shares
ands a b = each (λ i. and_share (at i a) (at (prev i) a) (at i b) (at (prev i) b))

nine_products : (a b c x y z : ℕ)
    → bit_xor (bit_xor (and_share a c x z) (and_share b a y x)) (and_share c b z y) ≡ bit_and (bit_xor (bit_xor a b) c) (bit_xor (bit_xor x y) z)
nine_products a b c x y z = simp (and_xor, xor-and, xor·ac)

xor_ands : (a b : Shares) → xor_of (ands a b) ≡ bit_and (xor_of a) (xor_of b)
unfolding xor_of
xor_ands a b = nine_products a.one a.two a.three b.one b.two b.three

xor-choose : (c : ℕ) (a b : Shares) → xor_of (each (λ i. choose c (at i a) (at i b))) ≡ choose c (xor_of a) (xor_of b)
xor-choose zero a b = refl
xor-choose (suc c) a b = refl

-- shares given position by position combine position by position
xor_positions : (w : ℕ) (f : Miner → ℕ → ℕ) (g : ℕ → ℕ) → ((i : Miner) (j : ℕ) → f i j < 2) → ((j : ℕ) → xor_of (each (λ i. f i j)) ≡ g j)
    → xor_of (each (λ i. of_bits w (f i))) ≡ of_bits w g
unfolding xor_of
xor_positions w f g h e =
    ap (λ (x : ℕ). bit_xor x (of_bits w (f three))) (xor-of_bits w (f one) (f two) (h one) (h two))
    ∙ xor-of_bits w (λ j. bit_xor (f one j) (f two j)) (f three) (λ j. xor_lt 1 (f one j) (f two j) (h one j) (h two j)) (h three)
    ∙ ap (of_bits w) (fun_ext e)

-- ---- a round, position by position

and-bits-lt : (p p' s s' i j : ℕ) → and_share (bit_at p i) (bit_at p' i) (bit_at s j) (bit_at s' j) < 2
and-bits-lt p p' s s' i j = and_share-lt 1 (bit_at p i) (bit_at p' i) (bit_at s j) (bit_at s' j) (bit-lt s j) (bit-lt s' j)

pub round_s_at-lt : (k p p' s s' j : ℕ) → round_s_at k p p' s s' j < 2
round_s_at-lt k p p' s s' j = choose-lt (bit_at j k) (bit-lt s j) (xor_lt 1 _ _ (bit-lt s j) (and-bits-lt p p' s s' j (source k j)))

pub round_p_at-lt : (k p p' j : ℕ) → round_p_at k p p' j < 2
round_p_at-lt k p p' j = choose-lt (bit_at j k) (bit-lt p j) (and-bits-lt p p' p p' j (source k j))

pub fold_at-lt : (k p p' j : ℕ) → fold_at k p p' j < 2
fold_at-lt k p p' j = choose-lt (j % 2 ^ suc k) (and-bits-lt p p' p p' j _) (bit-lt p j)

module _ (w k p p' : ℕ) where
  pub round_s-lt : (s s' : ℕ) → round_s w k p p' s s' < 2 ^ w
  unfolding round_s
  round_s-lt s s' = of_bits-lt w (round_s_at k p p' s s') (round_s_at-lt k p p' s s')

  pub bit-round_s : (s s' j : ℕ) → j < w → bit_at (round_s w k p p' s s') j ≡ round_s_at k p p' s s' j
  unfolding round_s
  bit-round_s s s' = bit_of w (round_s_at k p p' s s') (round_s_at-lt k p p' s s')

  pub round_p-lt : round_p w k p p' < 2 ^ w
  unfolding round_p
  round_p-lt = of_bits-lt w (round_p_at k p p') (round_p_at-lt k p p')

  pub bit-round_p : (j : ℕ) → j < w → bit_at (round_p w k p p') j ≡ round_p_at k p p' j
  unfolding round_p
  bit-round_p = bit_of w (round_p_at k p p') (round_p_at-lt k p p')

  pub fold_share-lt : fold_share w k p p' < 2 ^ w
  unfolding fold_share
  fold_share-lt = of_bits-lt w (fold_at k p p') (fold_at-lt k p p')

  pub bit-fold_share : (j : ℕ) → j < w → bit_at (fold_share w k p p') j ≡ fold_at k p p' j
  unfolding fold_share
  bit-fold_share = bit_of w (fold_at k p p') (fold_at-lt k p p')

-- ---- the shares after a round combine to the round of the combined words, where the previous miner's shares are 0

xor-and-bits : (p s : Shares) (i j : ℕ)
    → xor_of (ands (bits_at i p) (bits_at j s)) ≡ and_share (bit_at (xor_of p) i) (bit_at 0 i) (bit_at (xor_of s) j) (bit_at 0 j)
xor-and-bits p s i j =
    xor_ands (bits_at i p) (bits_at j s) ∙ ap₂ bit_and (xor-bits_at i p) (xor-bits_at j s)
    ∙ sym (and_share_zero (bit_at (xor_of p) i) i (bit_at (xor_of s) j) j)

module _ (w k : ℕ) (p : Shares) where
  pub xor-round_s : (s : Shares)
      → xor_of (each (λ i. round_s w k (at i p) (at (prev i) p) (at i s) (at (prev i) s))) ≡ round_s w k (xor_of p) 0 (xor_of s) 0
  unfolding round_s
  xor-round_s s =
      xor_positions w (λ i. round_s_at k (at i p) (at (prev i) p) (at i s) (at (prev i) s)) (round_s_at k (xor_of p) 0 (xor_of s) 0)
      (λ i. round_s_at-lt k (at i p) (at (prev i) p) (at i s) (at (prev i) s))
      (λ j. xor-choose (bit_at j k) (bits_at j s) (xors (bits_at j s) (ands (bits_at j p) (bits_at (source k j) s)))
      ∙ ap₂ (choose (bit_at j k)) (xor-bits_at j s)
      (xor_xors (bits_at j s) (ands (bits_at j p) (bits_at (source k j) s)) ∙ ap₂ bit_xor (xor-bits_at j s) (xor-and-bits p s j (source k j))))

  pub xor-round_p : xor_of (each (λ i. round_p w k (at i p) (at (prev i) p))) ≡ round_p w k (xor_of p) 0
  unfolding round_p
  xor-round_p =
      xor_positions w (λ i. round_p_at k (at i p) (at (prev i) p)) (round_p_at k (xor_of p) 0) (λ i. round_p_at-lt k (at i p) (at (prev i) p))
      (λ j. xor-choose (bit_at j k) (bits_at j p) (ands (bits_at j p) (bits_at (source k j) p))
      ∙ ap₂ (choose (bit_at j k)) (xor-bits_at j p) (xor-and-bits p p j (source k j)))

  pub xor-fold : xor_of (each (λ i. fold_share w k (at i p) (at (prev i) p))) ≡ fold_share w k (xor_of p) 0
  unfolding fold_share
  xor-fold =
      xor_positions w (λ i. fold_at k (at i p) (at (prev i) p)) (fold_at k (xor_of p) 0) (λ i. fold_at-lt k (at i p) (at (prev i) p))
      (λ j. xor-choose (j % 2 ^ suc k) (ands (bits_at j p) (bits_at _ p)) (bits_at j p)
      ∙ ap₂ (choose (j % 2 ^ suc k)) (xor-and-bits p p j _) (xor-bits_at j p))

-- ---- shifted up by one bit

pub up_lt : (w x : ℕ) → shift_up w x < 2 ^ w
unfolding shift_up
up_lt w x = mod-lt (x * 2) (pow_pos w)

xor_double : (a b : ℕ) → bit_xor (a * 2) (b * 2) ≡ bit_xor a b * 2
xor_double a b = simp add-zero at (xor_block 1 a b 0 0 (pow_pos 1) (pow_pos 1))

up-xor : (w a b : ℕ) → shift_up w (bit_xor a b) ≡ bit_xor (shift_up w a) (shift_up w b)
unfolding shift_up
up-xor w a b = ap (λ (x : ℕ). x % 2 ^ w) (sym (xor_double a b)) ∙ xor_mod (a * 2) (b * 2) w

xor-up : (w : ℕ) (s : Shares) → xor_of (each (λ i. shift_up w (at i s))) ≡ shift_up w (xor_of s)
unfolding xor_of
xor-up w s = simp up-xor

pub xor-sum_bits : (w : ℕ) (h : CarryState) → xor_of (sum_bits w h) ≡ bit_xor (shift_up w (xor_of h.s)) (xor_of h.base)
xor-sum_bits w h = xor_xors (each (λ i. shift_up w (at i h.s))) h.base ∙ ap (λ (x : ℕ). bit_xor x (xor_of h.base)) (xor-up w h.s)
