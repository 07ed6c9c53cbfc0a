-- Store, the local commands, reshare, multiply and open are blind.
use Rattle.std.proofs.Common.{◌≡◌, ℕ, ◌+◌, ◌<◌, List, [], ◌∷◌, get_or, sym, refl, ap, ◌∙◌, ap₂, arith}
use Rattle.protocols.specs.declared.place.Party.TheVariants.{Provider, One, Two, Three}
use Rattle.protocols.specs.declared.shares.Shares.{Shares}
use Rattle.protocols.specs.Word.{add, sub, mul}
use Rattle.protocols.specs.Shares.{Miner, one, two, three, prev, at, shares, SharesAreWords, Operands, sum_of}
use Rattle.protocols.specs.Place.{Tapes, tapes, tape, counts, word, words, miner, controller, list, to_controller}
use Rattle.protocols.specs.Protocol.{locally}
use Rattle.protocols.specs.Store.{store, dealt_shares}
use Rattle.protocols.specs.Local.{sum, difference, constant_multiple, constant_sum}
use Rattle.protocols.specs.Reshare.{fresh_shares, reshare}
use Rattle.protocols.specs.Multiply.{product, multiply}
use Rattle.protocols.specs.Open.{opening}
use Rattle.protocols.specs.Contents.{Contents}
use Rattle.protocols.specs.Blind.{Observer, watching, controlling, both, Sees, SameShares, SameOperands, SameOpened, Blind}
use Rattle.protocols.specs.Claims.{OperandsAreWords}
use Rattle.protocols.proofs.Laws.Ring.{same-mod, sub-lt, sub-sub, sub_comm, mask_from_fresh, fresh_from_mask}
use Rattle.protocols.proofs.Laws.RingCombine.{sum_r, fresh-sum}
use Rattle.protocols.proofs.Laws.Blocks.{word_lt}
use Rattle.protocols.proofs.Laws.Blind.Compose.{BlindFor, unmasked_for, blind_unmasked, blind-locally, blind_as_miner, blind_silent}
use Rattle.protocols.proofs.Laws.Blind.Cover.{Undone, changed_for, listed_get_or, Mixes, cover_for}
use Rattle.protocols.proofs.Laws.Blind.Miner.{SameAt, own_same, near_same, next_same, next_followed, pick, pick_words}

-- ---- local commands

module _ (m : ℕ) (o : Observer) where
  pub sum_blind : {Good : Operands → Type 0} → Blind m o (locally (sum m)) Good (SameOperands o) (SameShares o)
  sum_blind = blind-locally (sum m) (λ x x' r i e. own_same (λ j. add m) i _ _ _ _ (r.0 i e) (r.1 i e))

  pub difference_blind : {Good : Operands → Type 0} → Blind m o (locally (difference m)) Good (SameOperands o) (SameShares o)
  difference_blind = blind-locally (difference m) (λ x x' r i e. own_same (λ j. sub m) i _ _ _ _ (r.0 i e) (r.1 i e))

  pub constant_sum_blind : {Good : Shares → Type 0} (c : ℕ) → Blind m o (locally (constant_sum m c)) Good (SameShares o) (SameShares o)
  constant_sum_blind c =
      blind-locally (constant_sum m c) (λ u u' r. elim [ one ↦ λ e. ap (λ (x : ℕ). add m x c) (r one e) | two ↦ λ e. r two e | three ↦ λ e. r three e ])

  pub constant_multiple_blind : {Good : Shares → Type 0} (c : ℕ) → Blind m o (locally (constant_multiple m c)) Good (SameShares o) (SameShares o)
  constant_multiple_blind c = blind-locally (constant_multiple m c) (λ u u' r i e. own_same (λ j a b. mul m a c) i _ _ _ _ (r i e) (r i e))

module _ {m : ℕ} (pos : 0 < m) where
  -- ---- store

  -- for miner 3: its share is in place of the first word
  abbrev mask-three : ℕ → Tapes → List ℕ
  mask-three v b = sub m (sub m v (get_or b.provider 1 0)) (get_or b.provider 0 0) ∷ get_or b.provider 1 0 ∷ []

  mask-three_undone : (v : ℕ) → Undone m (counts 2 0 0 0) Provider (mask-three v) (mask-three v)
  mask-three_undone v = record {
    makes = λ b c. record { long = refl; below = (sub-lt m pos _ _, (word_lt b.provider 1 (c Provider) (omega arith), tt)) };
    undo = λ b c.
        ap (λ (x : ℕ). x ∷ get_or b.provider 1 0 ∷ []) (sub-sub m pos _ _ (word_lt b.provider 0 (c Provider) (omega arith)))
        ∙ listed_get_or 2 b.provider (c Provider);
  }

  dealt_shares-three-same : (v v' : ℕ) (b b' : Tapes) → mask-three v b ≡ mask-three v' b' → (dealt_shares m v b).three ≡ (dealt_shares m v' b').three
  dealt_shares-three-same v v' b b' e = sub_comm m pos _ _ _ ∙ ap (λ (l : List ℕ). get_or l 0 0) e ∙ sub_comm m pos _ _ _

  store_for : (i : Miner) (o : Observer) → Sees o (miner i) → BlindFor m i (store m) (λ v. v < m) (λ v v'. Unit {0}) (SameAt i)
  unfolding store
  store_for one o e = unmasked_for (λ v v' r b. (refl, refl))
  store_for two o e = unmasked_for (λ v v' r b. (refl, refl))
  store_for three o e =
      changed_for Provider (λ l t. refl) mask-three mask-three (λ v a. mask-three_undone v) (λ v a. mask-three_undone v) λ v v' r b b' d.
      let f = dealt_shares-three-same v v' b b' (ap (tape Provider) d) in (f, ap (λ (x : ℕ). x ∷ []) f)

  pub store_blind : (o : Observer) → Blind m o (store m) (λ v. v < m) (λ v v'. Unit {0}) (SameShares o)
  unfolding store
  store_blind = blind_silent (λ v b. refl) store_for

  -- ---- multiply

  ring_mixes : Mixes m (λ x a b. sub m (add m x a) b)
  ring_mixes = record { mix_lt = λ x a b hx ha hb. sub-lt m pos _ _; mix_mix = λ x a b h. sub-sub m pos _ b h }

  product-same : (i : Miner) (u v u' v' : Shares) → SameAt i u u' → SameAt (prev i) u u' → SameAt i v v' → SameAt (prev i) v v'
      → SameAt i (product m u v) (product m u' v')
  product-same = near_same (λ a a' b b'. add m (add m (mul m a b) (mul m a b')) (mul m a' b))

  multiply_for : (i : Miner) (o : Observer) → Sees o (miner i) → BlindFor m i (multiply m) (OperandsAreWords m) (SameOperands o) (SameAt i)
  unfolding multiply
  multiply_for i o e =
      cover_for i 2 refl ring_mixes (λ x k. pick k x.u x.v) (λ x a k. pick_words k x.u x.v a.0 a.1) λ x x' r b b' z.
      let eu = z.mixed_prev 0 (omega arith) in
      let ev = z.mixed_prev 1 (omega arith) in
      let masked_shares = next_followed i _ _ _ _ eu (next_same i _ _ ev) in
      let got = next_followed i _ _ _ _ (z.before 0) (next_followed i _ _ _ _ (z.before 1) masked_shares) in
      (product-same i _ _ _ _ (z.mixed_own 0 (r.0 i e)) eu (z.mixed_own 1 (r.1 i e)) ev, got)

  pub multiply_blind : (o : Observer) → Blind m o (multiply m) (OperandsAreWords m) (SameOperands o) (SameShares o)
  unfolding multiply
  multiply_blind = blind_silent (λ x b. refl) multiply_for

  -- ---- reshare

  fresh-same : (i : Miner) (s s' r : Shares) → SameAt i s s' → SameAt i (fresh_shares m s r) (fresh_shares m s' r)
  fresh-same i s s' r e = own_same (λ j a b. sub m (add m a (at j r)) (at (prev j) r)) i s s s' s' e e

  pub reshare_blind : (o : Observer) → Blind m o (reshare m) (SharesAreWords m) (SameShares o) (SameShares o)
  unfolding reshare
  reshare_blind o = blind_unmasked (λ s s' r b. (λ i e. fresh-same i s s' (words b 0) (r i e), λ q e. refl))

  -- ---- open

  -- shares with the same sum that agree for two miners agree for the third
  module _ (s s' : Shares) (h : SharesAreWords m s) (h' : SharesAreWords m s') (e : sum_of m s ≡ sum_of m s') where
    third_word : (x x' y : ℕ) → x < m → x' < m → s.one + s.two + s.three ≡ x + y → s'.one + s'.two + s'.three ≡ x' + y → x ≡ x'
    third_word x x' y hx hx' d d' =
        let (q, f) = sum_r m pos s in
        let (q', f') = sum_r m pos s' in
        same-mod m pos x x' q' q hx hx' (omega (arith, d, d', e, f, f'))

    third_share : (i : Miner) → SameAt i s s' → SameAt (prev i) s s' → s ≡ s'
    third_share one a b =
        let c = third_word s.two s'.two (s.one + s.three) (h two) (h' two) (omega arith) (omega arith) in
        λ k. shares (a k) (c k) (b k)
    third_share two a b =
        let c = third_word s.three s'.three (s.one + s.two) (h three) (h' three) (omega arith) (omega arith) in
        λ k. shares (b k) (a k) (c k)
    third_share three a b =
        let c = third_word s.one s'.one (s.two + s.three) (h one) (h' one) (omega arith) (omega arith) in
        λ k. shares (c k) (b k) (a k)

  fresh_all : (s s' r r' : Shares) → sum_of m s ≡ sum_of m s'
      → (i : Miner) → SameAt i (fresh_shares m s r) (fresh_shares m s' r') → SameAt (prev i) (fresh_shares m s r) (fresh_shares m s' r') → fresh_shares m s r ≡ fresh_shares m s' r'
  fresh_all s s' r r' e =
      third_share (fresh_shares m s r) (fresh_shares m s' r') (fresh-lt s r) (fresh-lt s' r') (fresh-sum m pos s r ∙ e ∙ sym (fresh-sum m pos s' r'))
    where
      fresh-lt : (s r : Shares) → SharesAreWords m (fresh_shares m s r)
      fresh-lt s r = elim [ one ↦ sub-lt m pos _ _ | two ↦ sub-lt m pos _ _ | three ↦ sub-lt m pos _ _ ]

  -- for the controller: the fresh shares of miners 1 and 3 are in place of the words of miners 1 and 2; and the inverse
  abbrev with_masks : Tapes → ℕ → ℕ → Tapes
  with_masks b x y = tapes b.provider (x ∷ []) (y ∷ []) b.three

  abbrev mask-controller : Shares → Tapes → Tapes
  mask-controller s b = with_masks b (fresh_shares m s (words b 0)).one (fresh_shares m s (words b 0)).three

  abbrev unmask-controller : Shares → Tapes → Tapes
  unmask-controller s b = with_masks b (sub m (add m (word b one 0) (word b three 0)) s.one) (fresh_shares m s (words b 0)).three

  module _ (b : Tapes) (c : Contents m (counts 0 1 1 1) b) where
    with_masks-words : (x y : ℕ) → x < m → y < m → Contents m (counts 0 1 1 1) (with_masks b x y)
    with_masks-words x y hx hy Provider = c Provider
    with_masks-words x y hx hy One = record { long = refl; below = (hx, tt) }
    with_masks-words x y hx hy Two = record { long = refl; below = (hy, tt) }
    with_masks-words x y hx hy Three = c Three

    with_masks-same : (x y : ℕ) → (word b one 0 < m → x ≡ word b one 0) → (word b two 0 < m → y ≡ word b two 0) → with_masks b x y ≡ b
    with_masks-same x y e f =
        ap₂ (with_masks b) (e (word_lt b.one 0 (c One) (omega arith))) (f (word_lt b.two 0 (c Two) (omega arith)))
        ∙ ap₂ (λ (k l : List ℕ). tapes b.provider k l b.three) (listed_get_or 1 b.one (c One)) (listed_get_or 1 b.two (c Two))

  opening-controlling : Blind m controlling (opening m) (SharesAreWords m) (SameOpened m controlling) (SameShares controlling)
  unfolding opening
  opening-controlling = record {
    mask = mask-controller;
    unmask = unmask-controller;
    mask_words = λ s a b c. with_masks-words b c _ _ (sub-lt m pos _ _) (sub-lt m pos _ _);
    unmask_words = λ s a b c. with_masks-words b c _ _ (sub-lt m pos _ _) (sub-lt m pos _ _);
    unmask_mask = λ s a b c. with_masks-same b c _ _ (mask_from_fresh m pos _ _ _) (sub-sub m pos _ _);
    mask_unmask = λ s a b c. with_masks-same b c _ _ (fresh_from_mask m pos _ _ _) (sub-sub m pos _ _);
    mask_own = λ s a b c. elim [ Provider ↦ λ e. absurd e | One ↦ λ e. absurd e | Two ↦ λ e. absurd e | Three ↦ λ e. absurd e ];
    same = λ s s' a a' r b b' c c' d.
        let all = fresh_all s s' (words b 0) (words b' 0) (r.1 tt) one (ap (λ (t : Tapes). word t one 0) d) (ap (λ (t : Tapes). word t two 0) d) in
        (λ i e. absurd e, elim [ miner j ↦ λ e. absurd e | controller ↦ λ e. ap (λ (x : Shares). list controller (to_controller x)) all ]);
  }

  -- for a miner that is the controller too: all fresh shares are the same
  opening_for : (i : Miner) → BlindFor m i (opening m) (SharesAreWords m) (SameOpened m (both i)) (λ s s'. s ≡ s')
  unfolding opening
  opening_for i =
      cover_for i 1 refl ring_mixes (λ s k. s) (λ s a k. a) λ s s' r b b' z.
      let all = fresh_all s s' (words b 0) (words b' 0) (r.1 tt) i (z.mixed_own 0 (r.0 i refl)) (z.mixed_prev 0 (omega arith)) in
      (all, next_followed i _ _ _ _ (z.before 0) (ap (λ (x : Shares). list (miner i) (to_controller x)) all))

  pub opening_blind : (o : Observer) → Blind m o (opening m) (SharesAreWords m) (SameOpened m o) (SameShares o)
  unfolding opening
  opening_blind (watching i) =
      blind_unmasked (λ s s' r b. (
        λ j e. fresh-same j s s' (words b 0) (r.0 j e),
        elim [ miner j ↦ λ e. elim j as (λ (k : Miner). list (miner k) ((opening m).received s b) ≡ list (miner k) ((opening m).received s' b)) [ one ↦ refl | two ↦ refl | three ↦ refl ] | controller ↦ λ e. absurd e ],
      ))
  opening_blind controlling = opening-controlling
  opening_blind (both i) =
      blind_as_miner i (both i) (λ j e. e) (opening_for i) (λ s s' e. ap (at i) e) λ e s s' b b' k.
      ap (λ (x : Shares). list controller (to_controller x)) k
