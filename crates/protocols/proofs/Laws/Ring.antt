-- Laws of sums, differences and products modulo m, for any m above 0.
use Rattle.std.proofs.Common.{◌≡◌, ℕ, ◌+◌, ◌-◌, ◌*◌, ◌/◌, ◌%◌, ◌^◌, ◌<◌, sym, ap, ◌∙◌, lt_of_le_of_lt, le_of_lt, mod-lt, mod-eq_of_lt, mul-le-mul_left, mul-lt-mul_of_pos_right, div-add-mod', arith, pow_pos, pow-add}
use native.Mathlib.Nat.{add-mul-mod_self_right}
use Rattle.protocols.specs.Word.{add, sub, mul}

module _ (m : ℕ) (pos : 0 < m) where
  -- two words that differ by multiples of m are equal
  pub same-mod : (x y a b : ℕ) → x < m → y < m → x + a * m ≡ y + b * m → x ≡ y
  same-mod x y a b hx hy e = sym (mod-eq_of_lt hx) ∙ sym (add-mul-mod_self_right x a m) ∙ ap (λ (n : ℕ). n % m) e ∙ add-mul-mod_self_right y b m ∙ mod-eq_of_lt hy

  pub add-lt : (a b : ℕ) → add m a b < m
  unfolding add
  add-lt a b = mod-lt (a + b) pos

  pub sub-lt : (a b : ℕ) → sub m a b < m
  unfolding sub
  sub-lt a b = mod-lt (a + (m - b % m)) pos

  pub mul-lt : (a b : ℕ) → mul m a b < m
  unfolding mul
  mul-lt a b = mod-lt (a * b) pos

  -- sums and differences with their multiples of m, for omega
  add_q : (a b : ℕ) → (a + b) / m * m + add m a b ≡ a + b
  unfolding add
  add_q a b = div-add-mod' (a + b) m

  sub_q : (a b : ℕ) → (a + (m - b % m)) / m * m + sub m a b + b ≡ a + m + b / m * m
  unfolding sub
  sub_q a b = omega (arith, div-add-mod' (a + (m - b % m)) m, div-add-mod' b m, mod-lt b pos)

  -- the same with the quotients named
  pub add_r : (a b : ℕ) → (q : ℕ) × (q * m + add m a b ≡ a + b)
  add_r a b = ((a + b) / m, add_q a b)

  pub sub_r : (a b : ℕ) → (q : ℕ) × (k : ℕ) × (q * m + sub m a b + b ≡ a + k * m)
  sub_r a b = ((a + (m - b % m)) / m, 1 + b / m, omega (arith, sub_q a b))

  pub sub-sub : (c x : ℕ) → x < m → sub m c (sub m c x) ≡ x
  sub-sub c x h =
      let (q, k, e) = sub_r c x in
      let (q', k', e') = sub_r c (sub m c x) in
      same-mod (sub m c (sub m c x)) x (q' + k) (k' + q) (sub-lt c (sub m c x)) h (omega (arith, e, e'))

  pub sub_comm : (a b c : ℕ) → sub m (sub m a b) c ≡ sub m (sub m a c) b
  sub_comm a b c =
      let (q, k, e) = sub_r a b in
      let (q', k', e') = sub_r (sub m a b) c in
      let (p, l, f) = sub_r a c in
      let (p', l', f') = sub_r (sub m a c) b in
      same-mod (sub m (sub m a b) c) (sub m (sub m a c) b) (q + q' + l + l') (p + p' + k + k') (sub-lt (sub m a b) c) (sub-lt (sub m a c) b) (omega (arith, e, e', f, f'))

  -- the mask r, back from s + r - p
  pub mask_from_fresh : (s r p : ℕ) → r < m → sub m (add m (sub m (add m s r) p) p) s ≡ r
  mask_from_fresh s r p h =
      let (q1, e1) = add_r s r in
      let (q2, k2, e2) = sub_r (add m s r) p in
      let (q3, e3) = add_r (sub m (add m s r) p) p in
      let (q4, k4, e4) = sub_r (add m (sub m (add m s r) p) p) s in
      same-mod (sub m (add m (sub m (add m s r) p) p) s) r (q1 + q2 + q3 + q4) (k2 + k4) (sub-lt _ _) h (omega (arith, e1, e2, e3, e4))

  pub fresh_from_mask : (s w p : ℕ) → w < m → sub m (add m s (sub m (add m w p) s)) p ≡ w
  fresh_from_mask s w p h =
      let (q1, e1) = add_r w p in
      let (q2, k2, e2) = sub_r (add m w p) s in
      let (q3, e3) = add_r s (sub m (add m w p) s) in
      let (q4, k4, e4) = sub_r (add m s (sub m (add m w p) s)) p in
      same-mod (sub m (add m s (sub m (add m w p) s)) p) w (q1 + q2 + q3 + q4) (k2 + k4) (sub-lt _ _) h (omega (arith, e1, e2, e3, e4))

  pub mul_r : (a b : ℕ) → (q : ℕ) × (q * m + mul m a b ≡ a * b)
  unfolding mul
  mul_r a b = ((a * b) / m, div-add-mod' (a * b) m)

  -- u3 + ((u1 - r) - r2), as a difference from r
  pub regroup : (a b r q : ℕ) → add m a (sub m (sub m b r) q) ≡ sub m (sub m (add m a b) q) r
  regroup a b r q =
      let (k1, l1, e1) = sub_r b r in
      let (k2, l2, e2) = sub_r (sub m b r) q in
      let (k3, e3) = add_r a (sub m (sub m b r) q) in
      let (j1, f1) = add_r a b in
      let (j2, i2, f2) = sub_r (add m a b) q in
      let (j3, i3, f3) = sub_r (sub m (add m a b) q) r in
      same-mod (add m a (sub m (sub m b r) q)) (sub m (sub m (add m a b) q) r) (k1 + k2 + k3 + i2 + i3) (j1 + j2 + j3 + l1 + l2) (add-lt _ _) (sub-lt _ _) (omega (arith, e1, e2, e3, f1, f2, f3))

  pub add-sub-left : (s r : ℕ) → r < m → sub m (add m s r) s ≡ r
  add-sub-left s r h =
      let (q, e) = add_r s r in
      let (k, l, f) = sub_r (add m s r) s in
      same-mod (sub m (add m s r) s) r (q + k) l (sub-lt _ _) h (omega (arith, e, f))

  pub sub-add-left : (s d : ℕ) → d < m → add m s (sub m d s) ≡ d
  sub-add-left s d h =
      let (k, l, f) = sub_r d s in
      let (q, e) = add_r s (sub m d s) in
      same-mod (add m s (sub m d s)) d (q + k) l (add-lt _ _) h (omega (arith, e, f))

  -- the difference is the only word that gives a when b is added
  pub sub_unique : (r a b : ℕ) → r < m → a < m → (r + b) % m ≡ a → r ≡ sub m a b
  sub_unique r a b hr ha e =
      let (q, k, f) = sub_r a b in
      same-mod r (sub m a b) k ((r + b) / m + q) hr (sub-lt a b) (omega (arith, e, f, div-add-mod' (r + b) m))

-- a product of two words fits twice the width
pub product_lt : (w : ℕ) {a b : ℕ} → a < 2 ^ w → b < 2 ^ w → a * b < 2 ^ (w + w)
product_lt w {a} {b} ha hb =
    rw (pow-add 2 w w) (lt_of_le_of_lt (mul-le-mul_left a (le_of_lt hb)) (mul-lt-mul_of_pos_right ha (pow_pos w)))
