-- Bits is blind.
use Rattle.std.proofs.Common.{◌≡◌, ℕ, zero, suc, ◌^◌, ◌<◌, List, [], ◌∷◌, sym, refl, ap, ◌∙◌, arith, pow_pos}
use lib.Bits.{bit_xor, xor_lt}
use Rattle.protocols.specs.declared.place.Party.TheVariants.{One}
use Rattle.protocols.specs.declared.shares.Shares.{Shares}
use Rattle.protocols.specs.declared.bits.Dealing.{Dealing}
use Rattle.protocols.specs.declared.bits.CarryState.{CarryState}
use Rattle.protocols.specs.Word.{width, modulus, add, sub, shift_up}
use Rattle.protocols.specs.Shares.{Miner, one, two, three, prev, at, each, shares, SharesAreWords}
use Rattle.protocols.specs.Place.{Tapes, counts, word, words, miner}
use Rattle.protocols.specs.Masked.{masked_shares}
use Rattle.protocols.specs.Bits.{r₃, R₃, v₂, v₃, p₀, s₀, deal, exchange, round_s, round_p, round, rounds, sum_bits, bits}
use Rattle.protocols.specs.Contents.{Contents}
use Rattle.protocols.specs.Blind.{Observer, Sees, SameShares, Blind}
use Rattle.protocols.proofs.Laws.Ring.{sub-lt, sub-sub, sub_comm, regroup, add-sub-left, sub-add-left}
use Rattle.protocols.proofs.Laws.Bitwise.{xor_cancel_l}
use Rattle.protocols.proofs.Laws.Shared.{round_s-lt, round_p-lt}
use Rattle.protocols.proofs.Laws.Blocks.{word_lt}
use Rattle.protocols.proofs.Laws.Bounds.{DealingWords, dealing-words, p₀-words, s₀-words}
use Rattle.protocols.proofs.Laws.Blind.Compose.{BlindFor, Seen, blind_then, blind_then_any, unmasked_for, blind-locally, blind_silent}
use Rattle.protocols.proofs.Laws.Blind.Cover.{change, Undone, changed_for, listed_get_or, Mixes, Known, cover_for}
use Rattle.protocols.proofs.Laws.Blind.Miner.{SameAt, own_same, near_same, next_same, next_followed}
use Rattle.protocols.proofs.Laws.Blind.Miner.{two-three-same, pick, pick_words}

-- ---- what looks the same to miner i

-- after the dealing: its own masked share and R, and the masked share that it is to receive
record SameDealing (i : Miner) (d d' : Dealing) : Type 0 where
  own : SameAt i (shares 0 d.v2 d.v3) (shares 0 d'.v2 d'.v3)
  bar : SameAt i (shares 0 d.bar2 d.bar3) (shares 0 d'.bar2 d'.bar3)
  due : SameAt i (shares 0 d.v3 d.v2) (shares 0 d'.v3 d'.v2)

-- between two rounds: its shares, and the next round's masked shares, its own and those that it is to receive
record SameCarryState (i : Miner) (h h' : CarryState) : Type 0 where
  s : SameAt i h.s h'.s
  base : SameAt i h.base h'.base
  own_p : SameAt i (masked_shares h.p h.q) (masked_shares h'.p h'.q)
  own_s : SameAt i (masked_shares h.s h.t) (masked_shares h'.s h'.t)
  prev_p : SameAt (prev i) (masked_shares h.p h.q) (masked_shares h'.p h'.q)
  prev_s : SameAt (prev i) (masked_shares h.s h.t) (masked_shares h'.s h'.t)

-- ---- masks by exclusive or

abbrev pub xor_mix : ℕ → ℕ → ℕ → ℕ
xor_mix x a b = bit_xor (bit_xor x a) b

pub xor_mixes : (w : ℕ) → Mixes (2 ^ w) xor_mix
xor_mixes w = record {
  mix_lt = λ x a b hx ha hb. xor_lt w (bit_xor x a) b (xor_lt w x a hx ha) hb;
  mix_mix = λ x a b h. xor_cancel_l (bit_xor x a) b;
}

-- shares p, s with new masks q, t
abbrev state_of : Shares → Shares → Shares → Tapes → CarryState
state_of p s base b = record { p = p; s = s; q = words b 0; t = words b 1; base = base }

state_of-same : (i : Miner) (p p' s s' base base' : Shares) (b b' : Tapes) → SameAt i p p' → SameAt i s s' → SameAt i base base'
    → Known i 2 xor_mix (λ k. pick k p s) (λ k. pick k p' s') b b' → SameCarryState i (state_of p s base b) (state_of p' s' base' b')
state_of-same i p p' s s' base base' b b' ep es eb z = record {
  s = es;
  base = eb;
  own_p = z.mixed_own 0 ep;
  own_s = z.mixed_own 1 es;
  prev_p = z.mixed_prev 0 (omega arith);
  prev_s = z.mixed_prev 1 (omega arith);
}

module _ (n : ℕ) where
  abbrev m : ℕ
  m = modulus n

  pos : 0 < modulus n
  pos = pow_pos (width n)

  -- ---- the dealing: masks of miner 1's three words

  -- for miner 2: what miner 3 sends is in place of the first word
  abbrev mask-two : Shares → Tapes → List ℕ
  mask-two u t = sub m (sub m (add m u.three u.one) (word t one 1)) (word t one 0) ∷ word t one 1 ∷ word t one 2 ∷ []

  -- for miner 3: what it receives is in place of the words
  abbrev mask-three : Shares → Tapes → List ℕ
  mask-three u t = r₃ m u t ∷ v₂ m u t ∷ R₃ t ∷ []

  -- the inverse masks
  abbrev second_word : Shares → Tapes → ℕ
  second_word u t = sub m (word t one 1) u.two

  abbrev first_word : Shares → Tapes → ℕ
  first_word u t = sub m (sub m u.one (second_word u t)) (word t one 0)

  abbrev third_word : Shares → Tapes → ℕ
  third_word u t = bit_xor (first_word u t) (word t one 2)

  abbrev unmask-three : Shares → Tapes → List ℕ
  unmask-three u t = first_word u t ∷ second_word u t ∷ third_word u t ∷ []

  module _ (t : Tapes) (c : Contents m (counts 0 3 0 0) t) where
    drawn-lt : (k : ℕ) → k < 3 → word t one k < m
    drawn-lt k h = word_lt t.one k (c One) h

  mask-two_undone : (u : Shares) → Undone m (counts 0 3 0 0) One (mask-two u) (mask-two u)
  mask-two_undone u = record {
    makes = λ t c. record { long = refl; below = (sub-lt m pos _ _, (drawn-lt t c 1 (omega arith), (drawn-lt t c 2 (omega arith), tt))) };
    undo = λ t c.
        ap (λ (x : ℕ). x ∷ word t one 1 ∷ word t one 2 ∷ []) (sub-sub m pos _ _ (drawn-lt t c 0 (omega arith))) ∙ listed_get_or 3 t.one (c One);
  }

  mask-three_undone : (u : Shares) → Undone m (counts 0 3 0 0) One (mask-three u) (unmask-three u)
  mask-three_undone u = record {
    makes = λ t c.
        let d = dealing-words (width n) u t c in
        record { long = refl; below = (sub-lt m pos _ _, (d.v2, (d.bar3, tt))) };
    undo = λ t c.
        let t' = change One (mask-three u t) t in
        let e₁ : second_word u t' ≡ word t one 1 = add-sub-left m pos u.two (word t one 1) (drawn-lt t c 1 (omega arith)) in
        let f₀ : first_word u t' ≡ sub m (sub m u.one (word t one 1)) (r₃ m u t) = ap (λ (x : ℕ). sub m (sub m u.one x) (r₃ m u t)) e₁ in
        let g₀ = ap (sub m (sub m u.one (word t one 1))) (sub_comm m pos u.one (word t one 0) (word t one 1)) in
        let e₀ : first_word u t' ≡ word t one 0 = f₀ ∙ g₀ ∙ sub-sub m pos _ _ (drawn-lt t c 0 (omega arith)) in
        let e₂ : third_word u t' ≡ word t one 2 = ap (λ (x : ℕ). bit_xor x (R₃ t)) e₀ ∙ xor_cancel_l (word t one 0) (word t one 2) in
        cc (e₀, e₁, e₂) ∙ listed_get_or 3 t.one (c One);
  }

  unmask-three_undone : (u : Shares) → Undone m (counts 0 3 0 0) One (unmask-three u) (mask-three u)
  unmask-three_undone u = record {
    makes = λ t c.
        let h₂ = xor_lt (width n) _ _ (sub-lt m pos _ _) (drawn-lt t c 2 (omega arith)) in
        record { long = refl; below = (sub-lt m pos _ _, (sub-lt m pos _ _, (h₂, tt))) };
    undo = λ t c.
        let t' = change One (unmask-three u t) t in
        let e₁ : v₂ m u t' ≡ word t one 1 = sub-add-left m pos u.two (word t one 1) (drawn-lt t c 1 (omega arith)) in
        let f₀ = sub_comm m pos u.one (first_word u t) (second_word u t) in
        let e₀ : r₃ m u t' ≡ word t one 0 = f₀ ∙ sub-sub m pos _ _ (drawn-lt t c 0 (omega arith)) in
        let e₂ : R₃ t' ≡ word t one 2 = xor_cancel_l (first_word u t) (word t one 2) in
        cc (e₀, e₁, e₂) ∙ listed_get_or 3 t.one (c One);
  }

  deal_for : {Good : Shares → Type 0} (i : Miner) (o : Observer) → Sees o (miner i) → BlindFor m i (deal n) Good (SameShares o) (SameDealing i)
  unfolding deal
  deal_for one o e = unmasked_for (λ u u' r t. (record { own = refl; bar = refl; due = refl }, refl))
  deal_for two o e =
      changed_for One (λ l t. refl) mask-two mask-two (λ u a. mask-two_undone u) (λ u a. mask-two_undone u) λ u u' r t t' d.
      let own = r two e in
      let e₀ : v₃ m u t ≡ v₃ m u' t' = regroup m pos _ _ _ _ ∙ ap (λ (x : Tapes). word x one 0) d ∙ sym (regroup m pos _ _ _ _) in
      let e₁ : word t one 1 ≡ word t' one 1 = ap (λ (x : Tapes). word x one 1) d in
      let e₂ : word t one 2 ≡ word t' one 2 = ap (λ (x : Tapes). word x one 2) d in
      (record { own = cc (own, e₁); bar = e₂; due = e₀ }, cc (e₁, e₂))
  deal_for three o e =
      changed_for One (λ l t. refl) mask-three unmask-three (λ u a. mask-three_undone u) (λ u a. unmask-three_undone u) λ u u' r t t' d.
      let own = r three e in
      let e₀ : r₃ m u t ≡ r₃ m u' t' = ap (λ (x : Tapes). word x one 0) d in
      let e₁ : v₂ m u t ≡ v₂ m u' t' = ap (λ (x : Tapes). word x one 1) d in
      let e₂ : R₃ t ≡ R₃ t' = ap (λ (x : Tapes). word x one 2) d in
      (record { own = cc (own, e₀); bar = e₂; due = e₁ }, cc (e₀, e₂))

  deal-blind : {Good : Shares → Type 0} (o : Observer) → Blind m o (deal n) Good (SameShares o) (Seen SameDealing o)
  unfolding deal
  deal-blind = blind_silent (λ u t. refl) deal_for

  -- ---- the exchange

  -- the shares after the exchange
  p₀_same : (i : Miner) (d d' : Dealing) → SameDealing i d d' → SameAt i (p₀ m d) (p₀ m d')
  p₀_same one d d' h = refl
  p₀_same two d d' h = cc (h.own, h.bar, h.due)
  p₀_same three d d' h = h.bar

  s₀_same : (i : Miner) (d d' : Dealing) → SameDealing i d d' → SameAt i (s₀ m d) (s₀ m d')
  s₀_same one d d' h = refl
  s₀_same two d d' h = cc (h.own, h.bar, h.due)
  s₀_same three d d' h = cc (h.own, h.bar, h.due)

  exchange_for : (i : Miner) (o : Observer) → Sees o (miner i)
      → BlindFor m i (exchange n) (DealingWords m) (Seen SameDealing o) (SameCarryState i)
  unfolding exchange
  exchange_for i o e =
      cover_for i 2 refl (xor_mixes (width n)) (λ d k. pick k (p₀ m d) (s₀ m d))
      (λ d a k. pick_words k _ _ (p₀-words (width n) a) (s₀-words (width n) a)) λ d d' r b b' z.
      let y = r i e in
      let ep = p₀_same i d d' y in
      let due = two-three-same i _ _ _ _ y.due in
      let got = next_followed i _ _ _ _ (z.before 0) (next_followed i _ _ _ _ (z.before 1) due) in
      (state_of-same i _ _ _ _ _ _ b b' ep (s₀_same i d d' y) ep z, got)

  exchange-blind : (o : Observer) → Blind m o (exchange n) (DealingWords m) (Seen SameDealing o) (Seen SameCarryState o)
  unfolding exchange
  exchange-blind = blind_silent (λ d t. refl) exchange_for

  -- ---- the rounds

  -- the shares after round k
  abbrev new_p : ℕ → CarryState → Shares
  new_p k h = let p = masked_shares h.p h.q in each (λ i. round_p (width n) k (at i p) (at (prev i) p))

  abbrev new_s : ℕ → CarryState → Shares
  new_s k h =
      let p = masked_shares h.p h.q in
      let s = masked_shares h.s h.t in
      each (λ i. round_s (width n) k (at i p) (at (prev i) p) (at i s) (at (prev i) s))

  new_p_words : (k : ℕ) (h : CarryState) → SharesAreWords m (new_p k h)
  new_p_words k h = elim [ one ↦ round_p-lt (width n) k _ _ | two ↦ round_p-lt (width n) k _ _ | three ↦ round_p-lt (width n) k _ _ ]

  new_s_words : (k : ℕ) (h : CarryState) → SharesAreWords m (new_s k h)
  new_s_words k h = elim [ one ↦ round_s-lt (width n) k _ _ _ _ | two ↦ round_s-lt (width n) k _ _ _ _ | three ↦ round_s-lt (width n) k _ _ _ _ ]

  round_for : {Good : CarryState → Type 0} (k : ℕ) (i : Miner) (o : Observer) → Sees o (miner i)
      → BlindFor m i (round n k) Good (Seen SameCarryState o) (SameCarryState i)
  unfolding round
  round_for k i o e =
      cover_for i 2 refl (xor_mixes (width n)) (λ h l. pick l (new_p k h) (new_s k h))
      (λ h a l. pick_words l (new_p k h) (new_s k h) (new_p_words k h) (new_s_words k h)) λ h h' r b b' z.
      let y = r i e in
      let ep = near_same (λ p p' s s'. round_p (width n) k p p') i _ _ _ _ y.own_p y.prev_p y.own_p y.prev_p in
      let es = near_same (round_s (width n) k) i _ _ _ _ y.own_p y.prev_p y.own_s y.prev_s in
      let masks = next_followed i _ _ _ _ (z.before 0) (next_same i _ _ (z.before 1)) in
      let got = next_followed i _ _ _ _ y.prev_p (next_followed i _ _ _ _ y.prev_s masks) in
      (state_of-same i _ _ _ _ _ _ b b' ep es y.base z, got)

  round-blind : {Good : CarryState → Type 0} (k : ℕ) (o : Observer) → Blind m o (round n k) Good (Seen SameCarryState o) (Seen SameCarryState o)
  unfolding round
  round-blind k = blind_silent (λ h t. refl) (round_for k)

  rounds-blind : {Good : Shares → Type 0} (k : ℕ) (o : Observer) → Blind m o (rounds n k) Good (SameShares o) (Seen SameCarryState o)
  unfolding rounds deal
  rounds-blind zero o = blind_then (deal-blind o) (λ u a t c. dealing-words (width n) u t c) (exchange-blind o)
  rounds-blind (suc k) o = blind_then_any (rounds-blind k o) (round-blind k o)

  pub bits_blind : {Good : Shares → Type 0} (o : Observer) → Blind (modulus n) o (bits n) Good (SameShares o) (SameShares o)
  unfolding bits
  bits_blind o =
      blind_then_any (rounds-blind n o)
      (blind-locally (sum_bits (width n)) (λ h h' r i e. own_same (λ j s v. bit_xor (shift_up (width n) s) v) i _ _ _ _ (r i e).s (r i e).base))
