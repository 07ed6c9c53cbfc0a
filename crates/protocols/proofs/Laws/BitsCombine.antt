-- New shares of Bit, Bits, Equal and Below combine to the right word, over words of 2 ^ n bits.
use Rattle.std.proofs.Common.{◌≡◌, ℕ, zero, suc, ◌+◌, ◌-◌, ◌*◌, ◌<◌, ◌≤◌, Bool, true, false, cond, eqb, sym, refl, ap, ◌∙◌, ap₂, arith, pow_pos, pow_mono, eq-eqb, ne_eqb, eqb-true}
use lib.Bits.{bit_xor, bit_and, xor_lt, xor_comm, xor_self, xor_zero_r}
use borrow.Author.Tests.{eqb-false}
use Rattle.protocols.specs.declared.place.Party.TheVariants.{One}
use Rattle.protocols.specs.declared.shares.Shares.{Shares}
use Rattle.protocols.specs.declared.bits.CarryState.{CarryState}
use Rattle.protocols.specs.declared.equal.FoldState.{FoldState}
use Rattle.protocols.specs.Word.{width, modulus, add, sub, bit_at, shift_up}
use Rattle.protocols.specs.Shares.{one, shares, Operands, sum_of, xor_of}
use Rattle.protocols.specs.Place.{Tapes, word, counts, cut}
use Rattle.protocols.specs.Protocol.{◌then◌}
use Rattle.protocols.specs.Local.{difference}
use Rattle.protocols.specs.Masked.{masked_shares}
use Rattle.protocols.specs.Bit.{bits_at, b, m₁₂, b₁₂, s₂₃, s₃₂, chosen_shares, bit}
use Rattle.protocols.specs.Bits.{round_s, round_p, dealing, exchanged_sum, deal, exchange, round, rounds, bits}
use Rattle.protocols.specs.Equal.{comparison, compare, first_masks, fold_share, fold, folds, equal}
use Rattle.protocols.specs.Below.{below}
use Rattle.protocols.specs.Contents.{Contents}
use Rattle.protocols.specs.Claims.{BitsCombine}
use Rattle.protocols.proofs.Laws.Ring.{same-mod, add-lt, sub-lt, add_r, sub_r}
use Rattle.protocols.proofs.Laws.Bitwise.{bit-lt, by_bit, and_xor, xor_assoc, xor_cancel, xor_cancel_l, xor·ac}
use Rattle.protocols.proofs.Laws.Blocks.{word_lt, contents_cut, contents_rest}
use Rattle.protocols.proofs.Laws.Shared.{xor_masked, xor-round_s, xor-round_p, xor-fold, xor_of-lt, xor-sum_bits, xor-bits_at}
use Rattle.protocols.proofs.Laws.Carry.{carry_p, carry_s, carry_sum}
use Rattle.protocols.proofs.Laws.Fold.{fold_plain, fold_ones}
use Rattle.protocols.proofs.Laws.RingCombine.{sum_lt, sum_r, sum_is, ring_combines}
use Rattle.protocols.proofs.Laws.Bounds.{comparison-words, low-lt, s₂₃-lt, s₃₂-lt}

-- ---- over plain words

-- masks b and d cancel, each of which occurs twice
xor-two_masks : (b d x y z : ℕ) → bit_xor (bit_xor b x) (bit_xor (bit_xor d y) (bit_xor (bit_xor b d) z)) ≡ bit_xor (bit_xor x y) z
xor-two_masks b d x y z = simp (xor·ac, xor_cancel_l)

-- the shares q and r xor q have the value r
xor_shared : (v r q : ℕ) → bit_xor (bit_xor v q) (bit_xor r q) ≡ bit_xor v r
xor_shared v r q = simp (xor·ac, xor_self)

and_shared : (v r q : ℕ) → bit_xor (bit_and v q) (bit_and v (bit_xor r q)) ≡ bit_and v r
and_shared v r q = simp (and_xor, xor·ac, xor_self)

xor_same : (a x y : ℕ) → bit_xor (bit_xor a x) y ≡ a → x ≡ y
xor_same a x y e = sym (xor_cancel x y) ∙ ap (λ (z : ℕ). bit_xor z y) none
  where
    none : bit_xor x y ≡ 0
    none = sym (xor_cancel_l a (bit_xor x y)) ∙ ap (bit_xor a) (sym (xor_assoc a x y) ∙ e) ∙ xor_self a

nat_eq_same : (a b c d : ℕ) → (a ≡ b → c ≡ d) → (c ≡ d → a ≡ b) → eqb a b ≡ eqb c d
nat_eq_same a b c d f g = by_test (eqb c d) refl
  where
    by_test : (t : Bool) → eqb c d ≡ t → eqb a b ≡ t
    by_test true e = eq-eqb a b (g (eqb-true c d e))
    by_test false e = ne_eqb a b (λ h. eqb-false c d e (f h))

-- ---- what the miners' shares combine to after k rounds

-- in Bits, for words v and r that add up to x
record StateHasCarries (n k x : ℕ) (h : CarryState) : Type 0 where
  v : ℕ
  r : ℕ
  v-word : v < modulus n
  r_word : r < modulus n
  adds_up : add (modulus n) v r ≡ x
  p_is : xor_of h.p ≡ carry_p (width n) k (bit_xor v r)
  s_is : xor_of h.s ≡ carry_s (width n) k (bit_xor v r) (bit_and v r)
  base_is : xor_of h.base ≡ bit_xor v r

-- in Equal, for a word e that is all ones exactly if x and y are equal
record StateHasFold (n k x y : ℕ) (h : FoldState) : Type 0 where
  e : ℕ
  e_word : e < modulus n
  tells : eqb e (modulus n - 1) ≡ eqb x y
  p_is : xor_of h.p ≡ fold_plain (width n) k e

module _ (n : ℕ) where
  abbrev m : ℕ
  m = modulus n

  pos : 0 < m
  pos = pow_pos (width n)

  two-le : 2 ≤ m
  two-le = pow_mono (pow_pos n)

  -- ---- three shares, of which the first is dealt to the other two miners

  dealt-sum : (a b c r : ℕ) → add m (add m b r) (add m c (sub m a r)) ≡ sum_of m (shares a b c)
  dealt-sum a b c r =
      let (q, e) = sum_r m pos (shares a b c) in
      let (q₁, k₁, e₁) = sub_r m pos a r in
      let (q₂, e₂) = add_r m pos b r in
      let (q₃, e₃) = add_r m pos c (sub m a r) in
      let (q₄, e₄) = add_r m pos (add m b r) (add m c (sub m a r)) in
      same-mod m pos (add m (add m b r) (add m c (sub m a r))) (sum_of m (shares a b c)) (q₁ + q₂ + q₃ + q₄) (q + k₁) (add-lt m pos _ _) (sum_lt m pos _)
      (omega (arith, e, e₁, e₂, e₃, e₄))

  -- ---- Bit

  -- the bit a in shares c and a - c, kept or negated by the bit s
  chosen-sum : (a s c : ℕ) → a < 2 → s < 2 → sum_of m (chosen_shares m s c (sub m a c)) ≡ bit_xor a s
  chosen-sum a s c ha hs =
      by_bit (λ s. sum_of m (chosen_shares m s c (sub m a c)) ≡ bit_xor a s)
      (kept-sum ∙ sym (xor_zero_r a)) (negated-sum ∙ by_bit (λ a. 1 - a ≡ bit_xor a 1) refl refl a ha) s hs
    where
      kept-sum : sum_of m (shares 0 c (sub m a c)) ≡ a
      kept-sum = let (q, k, e) = sub_r m pos a c in sum_is m pos (shares 0 c (sub m a c)) a q k (omega (arith, two-le)) (omega (arith, e))

      negated-sum : sum_of m (shares 0 (sub m 1 c) (sub m 0 (sub m a c))) ≡ 1 - a
      negated-sum =
          let (q, k, e) = sub_r m pos a c in
          let (q₁, k₁, e₁) = sub_r m pos 1 c in
          let (q₀, k₀, e₀) = sub_r m pos 0 (sub m a c) in
          sum_is m pos (shares 0 (sub m 1 c) (sub m 0 (sub m a c))) (1 - a) (q₁ + q₀ + k) (k₁ + k₀ + q) (omega (arith, two-le)) (omega (arith, e, e₁, e₀))

  bit-sum : (j : ℕ) (u : Shares) (t : Tapes) → sum_of m ((bit m j).result u t) ≡ bit_at (xor_of u) j
  unfolding bit xor_of
  bit-sum j u t =
      chosen-sum (bit_xor (b t) (bit_at u.one j)) (bit_xor (s₂₃ v t) (s₃₂ v t)) (m₁₂ t)
      (bits-lt (b t) (bit_at u.one j) (low-lt (word t one 0)) (bit-lt u.one j))
      (bits-lt (s₂₃ v t) (s₃₂ v t) (s₂₃-lt j u t) (s₃₂-lt j u t))
      ∙ xor-two_masks (b t) (b₁₂ t) (bit_at u.one j) (bit_at u.two j) (bit_at u.three j)
      ∙ xor-bits_at j u
    where
      v : Shares
      v = bits_at j u

      bits-lt : (x y : ℕ) → x < 2 → y < 2 → bit_xor x y < 2
      bits-lt = xor_lt 1

  -- ---- Bits

  -- v and the random word r add up to the value
  exchanged_sum-sum : (u : Shares) (t : Tapes) → add m (exchanged_sum m (dealing m u t)) (word t one 0) ≡ sum_of m u
  exchanged_sum-sum u t =
      let r = word t one 0 in
      let v = exchanged_sum m (dealing m u t) in
      let (a, f) = sum_r m pos (shares (sub m u.one r) u.two u.three) in
      let (a', f') = sum_r m pos u in
      let (q, k, e) = sub_r m pos u.one r in
      let (q', e') = add_r m pos v r in
      same-mod m pos (add m v r) (sum_of m u) (q + q' + a) (k + a') (add-lt m pos v r) (sum_lt m pos u)
      (omega (arith, e, e', f, f', dealt-sum (sub m u.one r) u.two u.three (word t one 1)))

  rounds_carry : (k : ℕ) (u : Shares) (t : Tapes) → Contents m (rounds n k).draws t
      → StateHasCarries n k (sum_of m u) ((rounds n k).result u t)
  unfolding rounds ◌then◌ deal exchange round carry_p carry_s xor_of
  rounds_carry zero u t c =
      let t' = cut (counts 0 3 0 0) t in
      let v = exchanged_sum m (dealing m u t') in
      record {
        v = v;
        r = word t' one 0;
        v-word = add-lt m pos _ _;
        r_word = word_lt t'.one 0 (contents_cut m (deal n).draws (exchange n).draws t c One) (omega arith);
        adds_up = exchanged_sum-sum u t';
        p_is = xor_shared v (word t' one 0) (word t' one 2);
        s_is = and_shared v (word t' one 0) (word t' one 2);
        base_is = xor_shared v (word t' one 0) (word t' one 2);
      }
  rounds_carry (suc k) u t c =
      let t' = cut (rounds n k).draws t in
      let c' = contents_cut m (rounds n k).draws (round n k).draws t c in
      let h = (rounds n k).result u t' in
      let i = rounds_carry k u t' c' in
      record {
        v = i.v;
        r = i.r;
        v-word = i.v-word;
        r_word = i.r_word;
        adds_up = i.adds_up;
        p_is = xor-round_p (width n) k (masked_shares h.p h.q) ∙ ap (λ (x : ℕ). round_p (width n) k x 0) (xor_masked h.p h.q ∙ i.p_is);
        s_is =
            xor-round_s (width n) k (masked_shares h.p h.q) (masked_shares h.s h.t)
            ∙ ap₂ (λ (x y : ℕ). round_s (width n) k x 0 y 0) (xor_masked h.p h.q ∙ i.p_is) (xor_masked h.s h.t ∙ i.s_is);
        base_is = i.base_is;
      }

  bits-xor : (u : Shares) (t : Tapes) → Contents m (bits n).draws t → xor_of ((bits n).result u t) ≡ sum_of m u
  unfolding bits ◌then◌
  bits-xor u t c =
      let t' = cut (rounds n n).draws t in
      let h = (rounds n n).result u t' in
      let i = rounds_carry n u t' (contents_cut m (rounds n n).draws (counts 0 0 0 0) t c) in
      xor-sum_bits (width n) h
      ∙ xor_comm (shift_up (width n) (xor_of h.s)) (xor_of h.base)
      ∙ ap₂ (λ (x y : ℕ). bit_xor x (shift_up (width n) y)) i.base_is i.s_is
      ∙ carry_sum n i.v i.r i.v-word i.r_word
      ∙ i.adds_up

  -- ---- Equal

  -- shares 2 and 3 of p differ as the two values do
  comparison_r : (x : Operands) (t : Tapes)
      → (q : ℕ) × (k : ℕ) × ((comparison m x t).two + sum_of m x.v + q * m ≡ (comparison m x t).three + sum_of m x.u + k * m)
  comparison_r x t =
      let d = difference m x in
      let e₂ = add m d.two (word t one 0) in
      let e₃ = add m d.three (sub m d.one (word t one 0)) in
      let (a, f) = add_r m pos e₂ e₃ in
      let (q, k, g) = sub_r m pos 0 e₃ in
      let (q', k', g') = sub_r m pos (sum_of m x.u) (sum_of m x.v) in
      (k + q', a + q + k', omega (arith, f, g, g', dealt-sum d.one d.two d.three (word t one 0), (ring_combines m pos).difference_combines x))

  comparison-ones : (x : Operands) (t : Tapes) → eqb (xor_of (comparison m x t)) (m - 1) ≡ eqb (sum_of m x.u) (sum_of m x.v)
  unfolding xor_of
  comparison-ones x t = nat_eq_same (xor_of c) (m - 1) (sum_of m x.u) (sum_of m x.v) sums_equal all_ones
    where
      c : Shares
      c = comparison m x t

      sums_equal : bit_xor (bit_xor (m - 1) c.two) c.three ≡ m - 1 → sum_of m x.u ≡ sum_of m x.v
      sums_equal h =
          let (q, k, e) = comparison_r x t in
          same-mod m pos (sum_of m x.u) (sum_of m x.v) k q (sum_lt m pos x.u) (sum_lt m pos x.v) (omega (arith, e, xor_same (m - 1) c.two c.three h))

      all_ones : sum_of m x.u ≡ sum_of m x.v → bit_xor (bit_xor (m - 1) c.two) c.three ≡ m - 1
      all_ones h =
          let (q, k, e) = comparison_r x t in
          let same : c.two ≡ c.three = same-mod m pos c.two c.three q k (add-lt m pos _ _) (sub-lt m pos _ _) (omega (arith, e, h)) in
          rw same (xor_cancel (m - 1) c.three)

  folds-fold : (k : ℕ) (x : Operands) (t : Tapes) → StateHasFold n k (sum_of m x.u) (sum_of m x.v) ((folds n k).result x t)
  unfolding folds ◌then◌ compare first_masks fold fold_plain
  folds-fold zero x t =
      let t' = cut (counts 0 1 0 0) t in
      record {
        e = xor_of (comparison m x t');
        e_word = xor_of-lt (width n) (comparison m x t') (comparison-words m pos x t');
        tells = comparison-ones x t';
        p_is = refl;
      }
  folds-fold (suc k) x t =
      let h = (folds n k).result x (cut (folds n k).draws t) in
      let i = folds-fold k x (cut (folds n k).draws t) in
      record {
        e = i.e;
        e_word = i.e_word;
        tells = i.tells;
        p_is = xor-fold (width n) k (masked_shares h.p h.q) ∙ ap (λ (y : ℕ). fold_share (width n) k y 0) (xor_masked h.p h.q ∙ i.p_is);
      }

  equal-sum : (x : Operands) (t : Tapes) → sum_of m ((equal n).result x t) ≡ cond (eqb (sum_of m x.u) (sum_of m x.v)) 1 0
  unfolding equal ◌then◌
  equal-sum x t =
      let i = folds-fold n x (cut (folds n n).draws t) in
      bit-sum 0 ((folds n n).result x (cut (folds n n).draws t)).p _
      ∙ ap (λ (y : ℕ). bit_at y 0) i.p_is
      ∙ fold_ones n i.e i.e_word
      ∙ ap (λ (y : Bool). cond y 1 0) i.tells

  -- ---- Below

  below-sum : (x : Operands) (t : Tapes) → Contents m (below n).draws t
      → sum_of m ((below n).result x t) ≡ bit_at (sub m (sum_of m x.u) (sum_of m x.v)) (width n - 1)
  unfolding below ◌then◌
  below-sum x t c =
      let d = difference m x in
      let t' = cut (bits n).draws t in
      let c' = contents_cut m (bits n).draws (bit m (width n - 1)).draws t (contents_rest m (counts 0 0 0 0) _ t c) in
      bit-sum (width n - 1) ((bits n).result d t') _
      ∙ ap (λ (y : ℕ). bit_at y (width n - 1)) (bits-xor d t' c' ∙ (ring_combines m pos).difference_combines x)

  pub bits_combine : BitsCombine n
  bits_combine = record {
    bit_combines = bit-sum;
    bits_combines = bits-xor;
    equal_combines = equal-sum;
    below_combines = below-sum;
  }
