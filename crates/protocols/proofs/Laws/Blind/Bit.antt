-- Bit is blind.
use Rattle.std.proofs.Common.{◌≡◌, ℕ, ◌<◌, List, [], ◌∷◌, sym, refl, ap, ◌∙◌, mod-eq_of_lt, arith, pow_pos}
use lib.Bits.{bit_xor, xor_lt, xor_comm, xor_mod}
use Rattle.protocols.specs.declared.place.Party.TheVariants.{One}
use Rattle.protocols.specs.declared.shares.Shares.{Shares}
use Rattle.protocols.specs.Word.{width, modulus, sub, low_bit, bit_at}
use Rattle.protocols.specs.Shares.{Miner, one, two, three}
use Rattle.protocols.specs.Place.{Tapes, counts, word, miner}
use Rattle.protocols.specs.Bit.{bits_at, b, b₁₂, b₁₃, m₁₂, m₁₃, s₂₃, s₃₂, bit}
use Rattle.protocols.specs.Contents.{Contents}
use Rattle.protocols.specs.Blind.{Observer, Sees, SameShares, Blind}
use Rattle.protocols.proofs.Laws.Ring.{sub-lt, sub-sub}
use Rattle.protocols.proofs.Laws.Bitwise.{bit-lt, lt-pow, xor_assoc, xor_cancel_l}
use Rattle.protocols.proofs.Laws.Blocks.{word_lt}
use Rattle.protocols.proofs.Laws.Bounds.{low-lt}
use Rattle.protocols.proofs.Laws.Blind.Miner.{SameAt}
use Rattle.protocols.proofs.Laws.Blind.Compose.{BlindFor, unmasked_for, blind_silent}
use Rattle.protocols.proofs.Laws.Blind.Cover.{change, Undone, changed_for, listed_get_or}

-- the lowest bit of a word masked by a bit
low-xor : (a x : ℕ) → a < 2 → low_bit (bit_xor a x) ≡ bit_xor (low_bit x) a
low-xor a x h = xor_mod a x 1 ∙ ap (λ (c : ℕ). bit_xor c (low_bit x)) (mod-eq_of_lt h) ∙ xor_comm a (low_bit x)

module _ (n j : ℕ) where
  abbrev m : ℕ
  m = modulus n

  pos : 0 < modulus n
  pos = pow_pos (width n)

  -- ---- masks of miner 1's three words

  -- for miner 2: what miner 3 sends is in place of the first word's lowest bit
  abbrev mask-two : Shares → Tapes → List ℕ
  mask-two u t = bit_xor (bit_xor (b₁₂ t) (bit_at u.three j)) (word t one 0) ∷ word t one 1 ∷ word t one 2 ∷ []

  -- for miner 3: what miner 1 sends is in place of the first word's lowest bit and of the second word, and what miner 2
  -- sends in place of the third word's lowest bit
  abbrev mask-three : Shares → Tapes → List ℕ
  mask-three u t = bit_xor (b₁₂ t) (word t one 0) ∷ m₁₃ m (bits_at j u) t ∷ bit_xor (bit_at u.two j) (word t one 2) ∷ []

  -- the inverse masks
  abbrev third_word : Shares → Tapes → ℕ
  third_word u t = bit_xor (bit_at u.two j) (word t one 2)

  abbrev first_word : Shares → Tapes → ℕ
  first_word u t = bit_xor (low_bit (third_word u t)) (word t one 0)

  abbrev second_word : Shares → Tapes → ℕ
  second_word u t = sub m (bit_xor (low_bit (first_word u t)) (bit_at u.one j)) (word t one 1)

  abbrev unmask-three : Shares → Tapes → List ℕ
  unmask-three u t = first_word u t ∷ second_word u t ∷ third_word u t ∷ []

  module _ (t : Tapes) (c : Contents m (counts 0 3 0 0) t) where
    drawn-lt : (k : ℕ) → k < 3 → word t one k < m
    drawn-lt k h = word_lt t.one k (c One) h

    -- a word masked by a bit
    masked-lt : (a k : ℕ) → a < 2 → k < 3 → bit_xor a (word t one k) < m
    masked-lt a k h l = xor_lt (width n) a (word t one k) (omega (arith, lt-pow (width n), pow_pos n)) (drawn-lt k l)

  b₁₂-xor-lt : (u : Shares) (t : Tapes) → bit_xor (b₁₂ t) (bit_at u.three j) < 2
  b₁₂-xor-lt u t = xor_lt 1 (b₁₂ t) (bit_at u.three j) (low-lt (word t one 2)) (bit-lt u.three j)

  mask-two_undone : (u : Shares) → Undone m (counts 0 3 0 0) One (mask-two u) (mask-two u)
  mask-two_undone u = record {
    makes = λ t c.
        let h₀ = masked-lt t c _ 0 (b₁₂-xor-lt u t) (omega arith) in
        record { long = refl; below = (h₀, (drawn-lt t c 1 (omega arith), (drawn-lt t c 2 (omega arith), tt))) };
    undo = λ t c.
        ap (λ (x : ℕ). x ∷ word t one 1 ∷ word t one 2 ∷ []) (xor_cancel_l (bit_xor (b₁₂ t) (bit_at u.three j)) (word t one 0))
        ∙ listed_get_or 3 t.one (c One);
  }

  mask-three_undone : (u : Shares) → Undone m (counts 0 3 0 0) One (mask-three u) (unmask-three u)
  mask-three_undone u = record {
    makes = λ t c.
        let h₀ = masked-lt t c (b₁₂ t) 0 (low-lt (word t one 2)) (omega arith) in
        let h₂ = masked-lt t c _ 2 (bit-lt u.two j) (omega arith) in
        record { long = refl; below = (h₀, (sub-lt m pos _ _, (h₂, tt))) };
    undo = λ t c.
        let t' = change One (mask-three u t) t in
        let e₂ : third_word u t' ≡ word t one 2 = xor_cancel_l (bit_at u.two j) (word t one 2) in
        let e₀ : first_word u t' ≡ word t one 0 = ap (λ (x : ℕ). bit_xor (low_bit x) (word t' one 0)) e₂ ∙ xor_cancel_l (b₁₂ t) (word t one 0) in
        let f₁ = ap (λ (x : ℕ). sub m (bit_xor (low_bit x) (bit_at u.one j)) (word t' one 1)) e₀ in
        let e₁ : second_word u t' ≡ word t one 1 = f₁ ∙ sub-sub m pos _ _ (drawn-lt t c 1 (omega arith)) in
        cc (e₀, e₁, e₂) ∙ listed_get_or 3 t.one (c One);
  }

  unmask-three_undone : (u : Shares) → Undone m (counts 0 3 0 0) One (unmask-three u) (mask-three u)
  unmask-three_undone u = record {
    makes = λ t c.
        let h₀ = masked-lt t c _ 0 (low-lt (third_word u t)) (omega arith) in
        let h₂ = masked-lt t c _ 2 (bit-lt u.two j) (omega arith) in
        record { long = refl; below = (h₀, (sub-lt m pos _ _, (h₂, tt))) };
    undo = λ t c.
        let e₂ = xor_cancel_l (bit_at u.two j) (word t one 2) in
        let e₀ = xor_cancel_l (low_bit (third_word u t)) (word t one 0) in
        let e₁ : m₁₃ m (bits_at j u) (change One (unmask-three u t) t) ≡ word t one 1 = sub-sub m pos _ _ (drawn-lt t c 1 (omega arith)) in
        cc (e₀, e₁, e₂) ∙ listed_get_or 3 t.one (c One);
  }

  -- ---- what the masked words determine

  s₃₂-low : (u : Shares) (t : Tapes) → s₃₂ (bits_at j u) t ≡ low_bit (word (change One (mask-two u t) t) one 0)
  s₃₂-low u t =
      xor_assoc (b t) (b₁₂ t) (bit_at u.three j) ∙ sym (low-xor (bit_xor (b₁₂ t) (bit_at u.three j)) (word t one 0) (b₁₂-xor-lt u t))

  b₁₃-low : (u : Shares) (t : Tapes) → b₁₃ t ≡ low_bit (word (change One (mask-three u t) t) one 0)
  b₁₃-low u t = sym (low-xor (b₁₂ t) (word t one 0) (low-lt (word t one 2)))

  s₂₃-low : (u : Shares) (t : Tapes) → s₂₃ (bits_at j u) t ≡ low_bit (word (change One (mask-three u t) t) one 2)
  s₂₃-low u t = sym (low-xor (bit_at u.two j) (word t one 2) (bit-lt u.two j))

  bit_for : {Good : Shares → Type 0} (i : Miner) (o : Observer) → Sees o (miner i) → BlindFor m i (bit m j) Good (SameShares o) (SameAt i)
  unfolding bit
  bit_for one o e = unmasked_for (λ u u' r t. (refl, refl))
  bit_for two o e =
      changed_for One (λ l t. refl) mask-two mask-two (λ u a. mask-two_undone u) (λ u a. mask-two_undone u) λ u u' r t t' d.
      let own = r two e in
      let e₀ = s₃₂-low u t ∙ ap (λ (x : Tapes). low_bit (word x one 0)) d ∙ sym (s₃₂-low u' t') in
      let e₁ : m₁₂ t ≡ m₁₂ t' = ap (λ (x : Tapes). word x one 1) d in
      let e₂ : b₁₂ t ≡ b₁₂ t' = ap (λ (x : Tapes). low_bit (word x one 2)) d in
      (cc (own, e₀, e₁, e₂), cc (e₀, e₁, e₂))
  bit_for three o e =
      changed_for One (λ l t. refl) mask-three unmask-three (λ u a. mask-three_undone u) (λ u a. unmask-three_undone u) λ u u' r t t' d.
      let own = r three e in
      let e₀ = b₁₃-low u t ∙ ap (λ (x : Tapes). low_bit (word x one 0)) d ∙ sym (b₁₃-low u' t') in
      let e₁ : m₁₃ m (bits_at j u) t ≡ m₁₃ m (bits_at j u') t' = ap (λ (x : Tapes). word x one 1) d in
      let e₂ = s₂₃-low u t ∙ ap (λ (x : Tapes). low_bit (word x one 2)) d ∙ sym (s₂₃-low u' t') in
      (cc (own, e₀, e₁, e₂), cc (e₀, e₁, e₂))

  pub bit_blind : {Good : Shares → Type 0} (o : Observer) → Blind (modulus n) o (bit (modulus n) j) Good (SameShares o) (SameShares o)
  unfolding bit
  bit_blind = blind_silent (λ u t. refl) bit_for
