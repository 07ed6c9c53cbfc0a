-- Equal and Below are blind.
use Rattle.std.proofs.Common.{◌≡◌, ℕ, zero, suc, ◌-◌, ◌<◌, List, [], ◌∷◌, refl, ap, ◌∙◌, arith, pow_pos}
use Rattle.protocols.specs.declared.place.Party.TheVariants.{One}
use Rattle.protocols.specs.declared.shares.Shares.{Shares}
use Rattle.protocols.specs.declared.equal.FoldState.{FoldState}
use Rattle.protocols.specs.Word.{width, modulus}
use Rattle.protocols.specs.Shares.{Miner, one, two, three, prev, at, each, SharesAreWords, Operands}
use Rattle.protocols.specs.Place.{Tapes, counts, word, words, miner}
use Rattle.protocols.specs.Masked.{masked_shares}
use Rattle.protocols.specs.Equal.{r₃, compare, first_masks, fold_share, fold, folds, equal}
use Rattle.protocols.specs.Below.{below}
use Rattle.protocols.specs.Blind.{Observer, Sees, SameShares, SameOperands, Blind}
use Rattle.protocols.proofs.Laws.Ring.{sub-lt, sub-sub}
use Rattle.protocols.proofs.Laws.Shared.{fold_share-lt}
use Rattle.protocols.proofs.Laws.Blocks.{word_lt}
use Rattle.protocols.proofs.Laws.Bounds.{comparison-words}
use Rattle.protocols.proofs.Laws.Blind.Compose.{BlindFor, Seen, blind_then, blind_then_any, unmasked_for, blind-locally, blind_silent}
use Rattle.protocols.proofs.Laws.Blind.Cover.{Undone, changed_for, listed_get_or, Known, cover_for}
use Rattle.protocols.proofs.Laws.Blind.Miner.{SameAt, near_same, next_same, next_followed}
use Rattle.protocols.proofs.Laws.Blind.Ring.{difference_blind}
use Rattle.protocols.proofs.Laws.Blind.Bit.{bit_blind}
use Rattle.protocols.proofs.Laws.Blind.Bits.{xor_mix, xor_mixes, bits_blind}

-- what looks the same to miner i between two rounds: its share, and the next round's masked shares, its own and the
-- one that it is to receive
record SameFoldState (i : Miner) (h h' : FoldState) : Type 0 where
  p : SameAt i h.p h'.p
  own_p : SameAt i (masked_shares h.p h.q) (masked_shares h'.p h'.q)
  prev_p : SameAt (prev i) (masked_shares h.p h.q) (masked_shares h'.p h'.q)

-- shares p with a new mask q
folding-same : (i : Miner) (p p' : Shares) (b b' : Tapes) → SameAt i p p' → Known i 1 xor_mix (λ k. p) (λ k. p') b b'
    → SameFoldState i (record { p = p; q = words b 0 }) (record { p = p'; q = words b' 0 })
folding-same i p p' b b' e z = record { p = e; own_p = z.mixed_own 0 e; prev_p = z.mixed_prev 0 (omega arith) }

module _ (n : ℕ) where
  abbrev m : ℕ
  m = modulus n

  pos : 0 < modulus n
  pos = pow_pos (width n)

  -- ---- the comparison

  -- for miner 3: what it receives is in place of the word
  abbrev mask-three : Operands → Tapes → List ℕ
  mask-three x t = r₃ m x t ∷ []

  mask-three_undone : (x : Operands) → Undone m (counts 0 1 0 0) One (mask-three x) (mask-three x)
  mask-three_undone x = record {
    makes = λ t c. record { long = refl; below = (sub-lt m pos _ _, tt) };
    undo = λ t c. ap (λ (y : ℕ). y ∷ []) (sub-sub m pos _ _ (word_lt t.one 0 (c One) (omega arith))) ∙ listed_get_or 1 t.one (c One);
  }

  compare_for : {Good : Operands → Type 0} (i : Miner) (o : Observer) → Sees o (miner i)
      → BlindFor m i (compare n) Good (SameOperands o) (SameAt i)
  unfolding compare
  compare_for one o e = unmasked_for (λ x x' r t. (refl, refl))
  compare_for two o e = unmasked_for (λ x x' r t. let u = r.0 two e in let v = r.1 two e in (cc (u, v), refl))
  compare_for three o e =
      changed_for One (λ l t. refl) mask-three mask-three (λ x a. mask-three_undone x) (λ x a. mask-three_undone x) λ x x' r t t' d.
      let u = r.0 three e in
      let v = r.1 three e in
      let e₀ : r₃ m x t ≡ r₃ m x' t' = ap (λ (y : Tapes). word y one 0) d in
      (cc (u, v, e₀), ap (λ (y : ℕ). y ∷ []) e₀)

  compare-blind : {Good : Operands → Type 0} (o : Observer) → Blind m o (compare n) Good (SameOperands o) (SameShares o)
  unfolding compare
  compare-blind = blind_silent (λ x t. refl) compare_for

  -- ---- the rounds

  first_masks_for : (i : Miner) (o : Observer) → Sees o (miner i) → BlindFor m i first_masks (SharesAreWords m) (SameShares o) (SameFoldState i)
  unfolding first_masks
  first_masks_for i o e =
      cover_for i 1 refl (xor_mixes (width n)) (λ p k. p) (λ p a k. a) λ p p' r b b' z.
      (folding-same i _ _ b b' (r i e) z, next_same i _ _ (z.before 0))

  first_masks-blind : (o : Observer) → Blind m o first_masks (SharesAreWords m) (SameShares o) (Seen SameFoldState o)
  unfolding first_masks
  first_masks-blind = blind_silent (λ p t. refl) first_masks_for

  -- the shares after round k
  abbrev new_p : ℕ → FoldState → Shares
  new_p k h = let p = masked_shares h.p h.q in each (λ i. fold_share (width n) k (at i p) (at (prev i) p))

  new_p_words : (k : ℕ) (h : FoldState) → SharesAreWords m (new_p k h)
  new_p_words k h = elim [ one ↦ fold_share-lt (width n) k _ _ | two ↦ fold_share-lt (width n) k _ _ | three ↦ fold_share-lt (width n) k _ _ ]

  fold_for : {Good : FoldState → Type 0} (k : ℕ) (i : Miner) (o : Observer) → Sees o (miner i)
      → BlindFor m i (fold n k) Good (Seen SameFoldState o) (SameFoldState i)
  unfolding fold
  fold_for k i o e =
      cover_for i 1 refl (xor_mixes (width n)) (λ h l. new_p k h) (λ h a l. new_p_words k h) λ h h' r b b' z.
      let y = r i e in
      let ep = near_same (λ p p' v v'. fold_share (width n) k p p') i _ _ _ _ y.own_p y.prev_p y.own_p y.prev_p in
      (folding-same i _ _ b b' ep z, next_followed i _ _ _ _ y.prev_p (next_same i _ _ (z.before 0)))

  fold-blind : {Good : FoldState → Type 0} (k : ℕ) (o : Observer) → Blind m o (fold n k) Good (Seen SameFoldState o) (Seen SameFoldState o)
  unfolding fold
  fold-blind k = blind_silent (λ h t. refl) (fold_for k)

  folds-blind : {Good : Operands → Type 0} (k : ℕ) (o : Observer) → Blind m o (folds n k) Good (SameOperands o) (Seen SameFoldState o)
  unfolding folds compare
  folds-blind zero o = blind_then (compare-blind o) (λ x a t c. comparison-words m pos x t) (first_masks-blind o)
  folds-blind (suc k) o = blind_then_any (folds-blind k o) (fold-blind k o)

  -- ---- Equal and Below

  pub equal_blind : {Good : Operands → Type 0} (o : Observer) → Blind (modulus n) o (equal n) Good (SameOperands o) (SameShares o)
  unfolding equal
  equal_blind o = blind_then_any (folds-blind n o) (blind_then_any (blind-locally (λ h. h.p) (λ h h' r i e. (r i e).p)) (bit_blind n 0 o))

  pub below_blind : {Good : Operands → Type 0} (o : Observer) → Blind (modulus n) o (below n) Good (SameOperands o) (SameShares o)
  unfolding below
  below_blind o = blind_then_any (difference_blind m o) (blind_then_any (bits_blind n o) (bit_blind n (width n - 1) o))
