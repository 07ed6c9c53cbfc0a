-- New shares of the ring protocols add up to the right word, over any modulus above 0.
use Rattle.std.proofs.Common.{◌≡◌, ℕ, ◌+◌, ◌*◌, ◌<◌, get_or, refl, ap, ◌∙◌, ap₂, arith}
use Rattle.protocols.specs.declared.shares.Shares.{Shares}
use Rattle.protocols.specs.Word.{add, sub, mul}
use Rattle.protocols.specs.Shares.{Operands, sum_of}
use Rattle.protocols.specs.Place.{Tapes, words}
use Rattle.protocols.specs.Store.{store, dealt_shares}
use Rattle.protocols.specs.Local.{sum, difference, constant_multiple, constant_sum}
use Rattle.protocols.specs.Reshare.{fresh_shares, reshare}
use Rattle.protocols.specs.Multiply.{product, masked_u, masked_v, multiply}
use Rattle.protocols.specs.Open.{opening}
use Rattle.protocols.specs.Claims.{RingCombines}
use Rattle.protocols.proofs.Laws.Ring.{same-mod, add-lt, sub-lt, mul-lt, add_r, sub_r, mul_r}

module _ (m : ℕ) (pos : 0 < m) where
  -- ---- the sum of three shares

  pub sum_lt : (s : Shares) → sum_of m s < m
  unfolding sum_of
  sum_lt s = add-lt m pos (add m s.one s.two) s.three

  -- with its multiples of m
  pub sum_r : (s : Shares) → (q : ℕ) × (q * m + sum_of m s ≡ s.one + s.two + s.three)
  unfolding sum_of
  sum_r s =
      let (q, e) = add_r m pos s.one s.two in
      let (k, f) = add_r m pos (add m s.one s.two) s.three in
      (q + k, omega (arith, e, f))

  -- a word that differs from the shares' total by multiples of m is their sum
  pub sum_is : (s : Shares) (x a b : ℕ) → x < m → s.one + s.two + s.three + a * m ≡ x + b * m → sum_of m s ≡ x
  sum_is s x a b h e = let (q, f) = sum_r s in same-mod m pos (sum_of m s) x (q + a) b (sum_lt s) h (omega (arith, e, f))

  -- ---- shares of a word, fresh shares, and local commands

  dealt_shares-sum : (v : ℕ) → v < m → (b : Tapes) → sum_of m (dealt_shares m v b) ≡ v
  dealt_shares-sum v h b =
      let (q, k, e) = sub_r m pos v (get_or b.provider 0 0) in
      let (q', k', e') = sub_r m pos (sub m v (get_or b.provider 0 0)) (get_or b.provider 1 0) in
      sum_is (dealt_shares m v b) v (q + q') (k + k') h (omega (arith, e, e'))

  -- one fresh share
  fresh_r : (s r r' : ℕ) → (q : ℕ) × (k : ℕ) × (q * m + sub m (add m s r) r' + r' ≡ s + r + k * m)
  fresh_r s r r' =
      let (q, e) = add_r m pos s r in
      let (q', k, e') = sub_r m pos (add m s r) r' in
      (q + q', k, omega (arith, e, e'))

  pub fresh-sum : (s r : Shares) → sum_of m (fresh_shares m s r) ≡ sum_of m s
  fresh-sum s r =
      let (q, e) = sum_r s in
      let (q₁, k₁, e₁) = fresh_r s.one r.one r.three in
      let (q₂, k₂, e₂) = fresh_r s.two r.two r.one in
      let (q₃, k₃, e₃) = fresh_r s.three r.three r.two in
      sum_is (fresh_shares m s r) (sum_of m s) (q₁ + q₂ + q₃) (q + k₁ + k₂ + k₃) (sum_lt s) (omega (arith, e, e₁, e₂, e₃))

  sum-sum : (x : Operands) → sum_of m (sum m x) ≡ add m (sum_of m x.u) (sum_of m x.v)
  sum-sum x =
      let (a, f) = sum_r x.u in
      let (b, g) = sum_r x.v in
      let (q₁, e₁) = add_r m pos x.u.one x.v.one in
      let (q₂, e₂) = add_r m pos x.u.two x.v.two in
      let (q₃, e₃) = add_r m pos x.u.three x.v.three in
      let (k, h) = add_r m pos (sum_of m x.u) (sum_of m x.v) in
      sum_is (sum m x) (add m (sum_of m x.u) (sum_of m x.v)) (q₁ + q₂ + q₃) (a + b + k) (add-lt m pos _ _) (omega (arith, e₁, e₂, e₃, f, g, h))

  difference-sum : (x : Operands) → sum_of m (difference m x) ≡ sub m (sum_of m x.u) (sum_of m x.v)
  difference-sum x =
      let (a, f) = sum_r x.u in
      let (b, g) = sum_r x.v in
      let (q₁, k₁, e₁) = sub_r m pos x.u.one x.v.one in
      let (q₂, k₂, e₂) = sub_r m pos x.u.two x.v.two in
      let (q₃, k₃, e₃) = sub_r m pos x.u.three x.v.three in
      let (q, k, h) = sub_r m pos (sum_of m x.u) (sum_of m x.v) in
      sum_is (difference m x) (sub m (sum_of m x.u) (sum_of m x.v)) (q₁ + q₂ + q₃ + b + k) (a + q + k₁ + k₂ + k₃) (sub-lt m pos _ _)
      (omega (arith, e₁, e₂, e₃, f, g, h))

  shifted_sum : (c : ℕ) (u : Shares) → sum_of m (constant_sum m c u) ≡ add m (sum_of m u) c
  shifted_sum c u =
      let (a, f) = sum_r u in
      let (q, e) = add_r m pos u.one c in
      let (k, h) = add_r m pos (sum_of m u) c in
      sum_is (constant_sum m c u) (add m (sum_of m u) c) q (a + k) (add-lt m pos _ _) (omega (arith, e, f, h))

  multiple-sum : (c : ℕ) (u : Shares) → sum_of m (constant_multiple m c u) ≡ mul m (sum_of m u) c
  multiple-sum c u =
      let (a, f) = sum_r u in
      let (q₁, e₁) = mul_r m pos u.one c in
      let (q₂, e₂) = mul_r m pos u.two c in
      let (q₃, e₃) = mul_r m pos u.three c in
      let (k, h) = mul_r m pos (sum_of m u) c in
      sum_is (constant_multiple m c u) (mul m (sum_of m u) c) (q₁ + q₂ + q₃) (a * c + k) (mul-lt m pos _ _)
      (omega (arith, e₁, e₂, e₃, h, ap (λ (n : ℕ). n * c) f))

  -- ---- the product's nine terms

  -- one share of a product
  product_r : (u u' v v' : ℕ) → (q : ℕ) × (q * m + add m (add m (mul m u v) (mul m u v')) (mul m u' v) ≡ u * v + u * v' + u' * v)
  product_r u u' v v' =
      let (q₁, e₁) = mul_r m pos u v in
      let (q₂, e₂) = mul_r m pos u v' in
      let (q₃, e₃) = mul_r m pos u' v in
      let (k, f) = add_r m pos (mul m u v) (mul m u v') in
      let (k', f') = add_r m pos (add m (mul m u v) (mul m u v')) (mul m u' v) in
      (q₁ + q₂ + q₃ + k + k', omega (arith, e₁, e₂, e₃, f, f'))

  -- over plain numbers: u and v are the sums, a and b their quotients
  nine_terms : (a b u v u₁ u₂ u₃ v₁ v₂ v₃ : ℕ) → a * m + u ≡ u₁ + u₂ + u₃ → b * m + v ≡ v₁ + v₂ + v₃
      → (u₁ * v₁ + u₁ * v₃ + u₃ * v₁) + (u₂ * v₂ + u₂ * v₁ + u₁ * v₂) + (u₃ * v₃ + u₃ * v₂ + u₂ * v₃) ≡ u * v + (a * v + b * u + a * m * b) * m
  nine_terms a b u v u₁ u₂ u₃ v₁ v₂ v₃ e f = omega (arith, ap₂ ◌*◌ e f)

  product-sum : (u v : Shares) → sum_of m (product m u v) ≡ mul m (sum_of m u) (sum_of m v)
  product-sum u v =
      let (a, f) = sum_r u in
      let (b, g) = sum_r v in
      let (k, h) = mul_r m pos (sum_of m u) (sum_of m v) in
      let (q₁, e₁) = product_r u.one u.three v.one v.three in
      let (q₂, e₂) = product_r u.two u.one v.two v.one in
      let (q₃, e₃) = product_r u.three u.two v.three v.two in
      let d : ℕ = a * sum_of m v + b * sum_of m u + a * m * b in
      sum_is (product m u v) (mul m (sum_of m u) (sum_of m v)) (q₁ + q₂ + q₃) (k + d) (mul-lt m pos _ _)
      (omega (arith, e₁, e₂, e₃, h, nine_terms a b (sum_of m u) (sum_of m v) u.one u.two u.three v.one v.two v.three f g))

  pub ring_combines : RingCombines m
  unfolding store reshare multiply opening
  ring_combines = record {
    store_combines = dealt_shares-sum;
    sum_combines = sum-sum;
    difference_combines = difference-sum;
    constant_sum_combines = shifted_sum;
    constant_multiple_combines = multiple-sum;
    reshare_combines = λ u b. fresh-sum u (words b 0);
    multiply_combines = λ x b.
        product-sum (masked_u m x b) (masked_v m x b) ∙ ap₂ (mul m) (fresh-sum x.u (words b 0)) (fresh-sum x.v (words b 1));
    opening_combines = λ u b. fresh-sum u (words b 0);
    opening_shown = λ u b. refl;
  }
