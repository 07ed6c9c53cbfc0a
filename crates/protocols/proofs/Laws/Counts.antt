-- What each protocol draws, delivers and makes: laws of HasCounts, and each protocol's row.
use Rattle.std.proofs.Common.{◌≡◌, ℕ, zero, suc, ◌+◌, ◌-◌, ◌*◌, ◌<◌, ◌≤◌, [], ◌∷◌, length, refl, ◌∙◌, ap₂, subst₂, arith, length-append, pow_pos, pow_mono}
use lib.Bits.{bit_xor, xor_lt}
use Rattle.protocols.specs.declared.place.Party.TheVariants.{Provider, One}
use Rattle.protocols.specs.declared.place.Drawn.{Drawn}
use Rattle.protocols.specs.declared.place.Received.{Received}
use Rattle.protocols.specs.declared.shares.Shares.{Shares}
use Rattle.protocols.specs.declared.bits.CarryState.{CarryState}
use Rattle.protocols.specs.declared.equal.FoldState.{FoldState}
use Rattle.protocols.specs.Word.{width, modulus, sub, bit_at, shift_up}
use Rattle.protocols.specs.Shares.{one, two, three, prev, at, SharesAreWords}
use Rattle.protocols.specs.Place.{Tapes, word, words, counts, plus, cut, rest, silence, ◌followed_by◌}
use Rattle.protocols.specs.Place.{Lists, Receiver, miner, controller, list, to_next, to_two_three, to_each, to_controller}
use Rattle.protocols.specs.Protocol.{Protocol, locally, ◌then◌}
use Rattle.protocols.specs.Store.{store}
use Rattle.protocols.specs.Local.{difference}
use Rattle.protocols.specs.Reshare.{reshare}
use Rattle.protocols.specs.Multiply.{masked_u, masked_v, multiply}
use Rattle.protocols.specs.Masked.{masked_shares}
use Rattle.protocols.specs.Bit.{bits_at, b, m₁₂, m₁₃, s₂₃, s₃₂, bit}
use Rattle.protocols.specs.Bits.{deal, exchange, round, rounds, sum_bits, bits}
use Rattle.protocols.specs.Equal.{compare, first_masks, fold, folds, equal}
use Rattle.protocols.specs.Open.{opening}
use Rattle.protocols.specs.Below.{below}
use Rattle.protocols.specs.Contents.{Words, Contents}
use Rattle.protocols.specs.Counts.{received_counts, list_lengths, plus_received, count_for, HasCounts}
use Rattle.protocols.specs.Claims.{OperandsAreWords, Rows, RowsAt32}
use Rattle.protocols.proofs.Laws.Ring.{add-lt, sub-lt, mul-lt}
use Rattle.protocols.proofs.Laws.Shared.{round_s-lt, round_p-lt, fold_share-lt, up_lt}
use Rattle.protocols.proofs.Laws.Bounds.{words_of, words-three, drawn-words, fresh-words, difference-words, comparison-words, product-words, choose_word, low-lt, b₁₃-lt, s₂₃-lt, s₃₂-lt, masked-words}
use Rattle.protocols.proofs.Laws.Bounds.{DealingWords, dealing-words, p₀-words, s₀-words}
use Rattle.protocols.proofs.Laws.Blocks.{words_append, word_lt, contents_cut, contents_rest}

-- ---- counts

-- equal counts, number by number
abbrev pub SameDrawn : Drawn → Drawn → Type 0
SameDrawn n n' = (n.provider ≡ n'.provider) × (n.one ≡ n'.one) × (n.two ≡ n'.two) × (n.three ≡ n'.three)

abbrev pub SameReceived : Received → Received → Type 0
SameReceived k k' = (k.one ≡ k'.one) × (k.two ≡ k'.two) × (k.three ≡ k'.three) × (k.controller ≡ k'.controller)

drawn_path : {n n' : Drawn} → SameDrawn n n' → n ≡ n'
drawn_path e = λ i. counts (e.0 i) (e.1 i) (e.2 i) (e.3 i)

received_path : {k k' : Received} → SameReceived k k' → k ≡ k'
received_path e = λ i. received_counts (e.0 i) (e.1 i) (e.2 i) (e.3 i)

-- ---- lengths of received lists

pub due-list_lengths : (r : Receiver) (l : Lists) → count_for r (list_lengths l) ≡ length (list r l)
due-list_lengths (miner one) l = refl
due-list_lengths (miner two) l = refl
due-list_lengths (miner three) l = refl
due-list_lengths controller l = refl

-- lists of k words
abbrev Long : Received → Lists → Type 0
Long k l = (r : Receiver) → length (list r l) ≡ count_for r k

-- each list has its own length: for lists of fixed shape the counts compute
own_long : (l : Lists) → Long (received_counts (length l.one) (length l.two) (length l.three) (length l.controller)) l
own_long l (miner one) = refl
own_long l (miner two) = refl
own_long l (miner three) = refl
own_long l controller = refl

followed_by_long : {j k : Received} (l l' : Lists) → Long j l → Long k l' → Long (plus_received j k) (l followed_by l')
followed_by_long l l' g h (miner one) = length-append l.one l'.one ∙ ap₂ ◌+◌ (g (miner one)) (h (miner one))
followed_by_long l l' g h (miner two) = length-append l.two l'.two ∙ ap₂ ◌+◌ (g (miner two)) (h (miner two))
followed_by_long l l' g h (miner three) = length-append l.three l'.three ∙ ap₂ ◌+◌ (g (miner three)) (h (miner three))
followed_by_long l l' g h controller = length-append l.controller l'.controller ∙ ap₂ ◌+◌ (g controller) (h controller)

-- ---- received lists of words

-- lists of k words below m
abbrev WordLists : ℕ → Received → Lists → Type 0
WordLists m k l = (r : Receiver) → Words m (count_for r k) (list r l)

module _ {m : ℕ} where
  followed_by_words : {j k : Received} {l l' : Lists} → WordLists m j l → WordLists m k l' → WordLists m (plus_received j k) (l followed_by l')
  followed_by_words g h (miner one) = words_append m _ _ _ _ (g (miner one)) (h (miner one))
  followed_by_words g h (miner two) = words_append m _ _ _ _ (g (miner two)) (h (miner two))
  followed_by_words g h (miner three) = words_append m _ _ _ _ (g (miner three)) (h (miner three))
  followed_by_words g h controller = words_append m _ _ _ _ (g controller) (h controller)

  no_words : Words m 0 []
  no_words = record { long = refl; below = tt }

  one_word : {x : ℕ} → x < m → Words m 1 (x ∷ [])
  one_word h = record { long = refl; below = (h, tt) }

  silence-words : WordLists m (received_counts 0 0 0 0) silence
  silence-words (miner one) = no_words
  silence-words (miner two) = no_words
  silence-words (miner three) = no_words
  silence-words controller = no_words

  next_words : {s : Shares} → SharesAreWords m s → WordLists m (received_counts 1 1 1 0) (to_next s)
  next_words h (miner one) = one_word (h three)
  next_words h (miner two) = one_word (h one)
  next_words h (miner three) = one_word (h two)
  next_words h controller = no_words

  two-three-words : {a b : ℕ} → a < m → b < m → WordLists m (received_counts 0 1 1 0) (to_two_three a b)
  two-three-words g h (miner one) = no_words
  two-three-words g h (miner two) = one_word g
  two-three-words g h (miner three) = one_word h
  two-three-words g h controller = no_words

  each-words : {s : Shares} → SharesAreWords m s → WordLists m (received_counts 1 1 1 0) (to_each s)
  each-words h (miner one) = one_word (h one)
  each-words h (miner two) = one_word (h two)
  each-words h (miner three) = one_word (h three)
  each-words h controller = no_words

  controller-words : {s : Shares} → SharesAreWords m s → WordLists m (received_counts 0 0 0 3) (to_controller s)
  controller-words h (miner one) = no_words
  controller-words h (miner two) = no_words
  controller-words h (miner three) = no_words
  controller-words h controller = record { long = refl; below = (h one, (h two, (h three, tt))) }

-- ---- the laws of HasCounts

module _ {m : ℕ} {S T : Type 0} {Good : S → Type 0} {Made : T → Type 0} where
  pub counts-locally : {f : S → T} → ((s : S) → Good s → Made (f s)) → HasCounts m (locally f) Good Made (counts 0 0 0 0) (received_counts 0 0 0 0)
  counts-locally h = record { drawn = refl; long = λ s b. own_long _; delivered = λ s g b c. silence-words; made = λ s g b c. h s g }

  pub counts_along : {f : Protocol S T} {n n' : Drawn} {k k' : Received}
      → HasCounts m f Good Made n k → SameDrawn n n' → SameReceived k k' → HasCounts m f Good Made n' k'
  counts_along {f} c e d = subst₂ (HasCounts m f Good Made) (drawn_path e) (received_path d) c

  pub counts_then : {Z : Type 0} {Last : Z → Type 0} {f : Protocol S T} {g : Protocol T Z} {n n' : Drawn} {k k' : Received}
      → HasCounts m f Good Made n k → HasCounts m g Made Last n' k' → HasCounts m (f then g) Good Last (plus n n') (plus_received k k')
  unfolding ◌then◌
  counts_then {f = f} {g} c d = record {
    drawn = ap₂ plus c.drawn d.drawn;
    long = λ s b. followed_by_long _ _ (c.long s _) (d.long _ _);
    delivered = λ s h b w. followed_by_words (c.delivered s h _ (first b w)) (d.delivered _ (c.made s h _ (first b w)) _ (second b w));
    made = λ s h b w. d.made _ (c.made s h _ (first b w)) _ (second b w);
  }
    where
      first : (b : Tapes) → Contents m (f then g).draws b → Contents m f.draws (cut f.draws b)
      first b w = contents_cut m f.draws g.draws b w

      second : (b : Tapes) → Contents m (f then g).draws b → Contents m g.draws (rest f.draws b)
      second b w = contents_rest m f.draws g.draws b w

-- ---- the ring protocols

module _ (m : ℕ) (pos : 0 < m) where
  store-counts : HasCounts m (store m) (λ v. v < m) (SharesAreWords m) (counts 2 0 0 0) (received_counts 1 1 1 0)
  unfolding store
  store-counts = record { drawn = refl; long = λ v b. own_long _; delivered = λ v g b h. each-words (words-of_input v b h); made = λ v g b h. words-of_input v b h }
    where
      words-of_input : (v : ℕ) (b : Tapes) → Contents m (counts 2 0 0 0) b → SharesAreWords m ((store m).result v b)
      words-of_input v b h =
          words-three (word_lt b.provider 0 (h Provider) (omega arith)) (word_lt b.provider 1 (h Provider) (omega arith)) (sub-lt m pos _ _)

  reshare-counts : HasCounts m (reshare m) (SharesAreWords m) (SharesAreWords m) (counts 0 1 1 1) (received_counts 1 1 1 0)
  unfolding reshare
  reshare-counts = record {
    drawn = refl;
    long = λ s b. own_long _;
    delivered = λ s g b h. next_words (drawn-words 0 (omega arith) h);
    made = λ s g b h. fresh-words m pos s (words b 0);
  }

  opening-counts : HasCounts m (opening m) (SharesAreWords m) (SharesAreWords m) (counts 0 1 1 1) (received_counts 1 1 1 3)
  unfolding opening
  opening-counts = record {
    drawn = refl;
    long = λ s b. own_long _;
    delivered = λ s g b h.
        followed_by_words (next_words (drawn-words 0 (omega arith) h)) (controller-words (fresh-words m pos s (words b 0)));
    made = λ s g b h. fresh-words m pos s (words b 0);
  }

  multiply-counts : HasCounts m (multiply m) (OperandsAreWords m) (SharesAreWords m) (counts 0 2 2 2) (received_counts 4 4 4 0)
  unfolding multiply
  multiply-counts = record {
    drawn = refl;
    long = λ x b. own_long _;
    delivered = λ x g b h.
        followed_by_words (next_words (drawn-words 0 (omega arith) h))
        (followed_by_words (next_words (drawn-words 1 (omega arith) h))
        (followed_by_words (next_words (fresh-words m pos x.u (words b 0))) (next_words (fresh-words m pos x.v (words b 1)))));
    made = λ x g b h. product-words m pos (masked_u m x b) (masked_v m x b);
  }

-- ---- Bit

module _ (m : ℕ) (two-le : 2 ≤ m) where
  bit-counts : (j : ℕ) → HasCounts m (bit m j) (SharesAreWords m) (SharesAreWords m) (counts 0 3 0 0) (received_counts 0 3 3 0)
  unfolding bit
  bit-counts j = record {
    drawn = refl;
    long = λ u t. own_long _;
    delivered = λ u g t h.
        followed_by_words (two-three-words (m₁₂-word t h) (m₁₃-word u t))
        (followed_by_words (two-three-words (is_word (low-lt (word t one 2))) (is_word (b₁₃-lt t)))
        (two-three-words (is_word (s₃₂-lt j u t)) (is_word (s₂₃-lt j u t))));
    made = λ u g t h.
        let v = bits_at j u in
        let s = bit_xor (s₂₃ v t) (s₃₂ v t) in
        words-three pos (choose_word s (m₁₂-word t h) (sub-lt m pos 1 (m₁₂ t))) (choose_word s (m₁₃-word u t) (sub-lt m pos 0 (m₁₃ m v t)));
  }
    where
      pos : 0 < m
      pos = omega arith

      is_word : {x : ℕ} → x < 2 → x < m
      is_word h = omega arith

      m₁₂-word : (t : Tapes) → Contents m (counts 0 3 0 0) t → m₁₂ t < m
      m₁₂-word t h = word_lt t.one 1 (h One) (omega arith)

      m₁₃-word : (u : Shares) (t : Tapes) → m₁₃ m (bits_at j u) t < m
      m₁₃-word u t = sub-lt m pos (bit_xor (b t) (bit_at u.one j)) (m₁₂ t)

-- ---- what the miners hold in the rounds of Bits and Equal: every share is a word

pub record CarryStateWords (m : ℕ) (h : CarryState) : Type 0 where
  pub p : SharesAreWords m h.p
  pub s : SharesAreWords m h.s
  pub q : SharesAreWords m h.q
  pub t : SharesAreWords m h.t
  pub base : SharesAreWords m h.base

pub record FoldStateWords (m : ℕ) (h : FoldState) : Type 0 where
  pub p : SharesAreWords m h.p
  pub q : SharesAreWords m h.q

module _ (n : ℕ) where
  abbrev m : ℕ
  m = modulus n

  m_pos : 0 < m
  m_pos = pow_pos (width n)

  two-le : 2 ≤ m
  two-le = pow_mono (pow_pos n)

  -- ---- Bits

  deal-counts : HasCounts m (deal n) (SharesAreWords m) (DealingWords m) (counts 0 3 0 0) (received_counts 0 2 2 0)
  unfolding deal
  deal-counts = record {
    drawn = refl;
    long = λ u t. own_long _;
    delivered = λ u g t h.
        let d = dealing-words (width n) u t h in
        followed_by_words (two-three-words (word_lt t.one 1 (h One) (omega arith)) (sub-lt m m_pos _ _))
        (two-three-words d.bar2 d.bar3);
    made = λ u g t h. dealing-words (width n) u t h;
  }

  exchange-counts : HasCounts m (exchange n) (DealingWords m) (CarryStateWords m) (counts 0 2 2 2) (received_counts 2 3 3 0)
  unfolding exchange
  exchange-counts = record {
    drawn = refl;
    long = λ d t. own_long _;
    delivered = λ d g t h.
        followed_by_words (next_words (drawn-words 0 (omega arith) h))
        (followed_by_words (next_words (drawn-words 1 (omega arith) h)) (two-three-words g.v3 g.v2));
    made = λ d g t h.
        let p = p₀-words (width n) g in
        record {
          p = p;
          s = s₀-words (width n) g;
          q = drawn-words 0 (omega arith) h;
          t = drawn-words 1 (omega arith) h;
          base = p;
        };
  }

  round-counts : (k : ℕ) → HasCounts m (round n k) (CarryStateWords m) (CarryStateWords m) (counts 0 2 2 2) (received_counts 4 4 4 0)
  unfolding round
  round-counts k = record {
    drawn = refl;
    long = λ h t. own_long _;
    delivered = λ h g t c.
        followed_by_words (next_words (masked-words (width n) g.p g.q))
        (followed_by_words (next_words (masked-words (width n) g.s g.t))
        (followed_by_words (next_words (drawn-words 0 (omega arith) c)) (next_words (drawn-words 1 (omega arith) c))));
    made = λ h g t c.
        let p = masked_shares h.p h.q in
        let s = masked_shares h.s h.t in
        record {
          p = words_of (λ i. round_p-lt (width n) k (at i p) (at (prev i) p));
          s = words_of (λ i. round_s-lt (width n) k (at i p) (at (prev i) p) (at i s) (at (prev i) s));
          q = drawn-words 0 (omega arith) c;
          t = drawn-words 1 (omega arith) c;
          base = g.base;
        };
  }

  pub rounds-counts : (k : ℕ)
      → HasCounts (modulus n) (rounds n k) (SharesAreWords (modulus n)) (CarryStateWords (modulus n))
      (counts 0 (5 + 2 * k) (2 + 2 * k) (2 + 2 * k)) (received_counts (2 + 4 * k) (5 + 4 * k) (5 + 4 * k) 0)
  unfolding rounds
  rounds-counts zero = counts_then deal-counts exchange-counts
  rounds-counts (suc k) = counts_along (counts_then (rounds-counts k) (round-counts k)) (omega arith) (omega arith)

  bits-counts : HasCounts m (bits n) (SharesAreWords m) (SharesAreWords m)
      (counts 0 (5 + 2 * n) (2 + 2 * n) (2 + 2 * n)) (received_counts (2 + 4 * n) (5 + 4 * n) (5 + 4 * n) 0)
  unfolding bits
  bits-counts = counts_along (counts_then (rounds-counts n) (counts-locally sum_bits-words)) (omega arith) (omega arith)
    where
      sum_bits-words : (h : CarryState) → CarryStateWords m h → SharesAreWords m (sum_bits (width n) h)
      sum_bits-words h g = words_of (λ i. xor_lt (width n) (shift_up (width n) (at i h.s)) (at i h.base) (up_lt (width n) (at i h.s)) (g.base i))

  -- ---- Equal

  compare-counts : HasCounts m (compare n) (OperandsAreWords m) (SharesAreWords m) (counts 0 1 0 0) (received_counts 0 1 1 0)
  unfolding compare
  compare-counts = record {
    drawn = refl;
    long = λ x t. own_long _;
    delivered = λ x g t h. two-three-words (word_lt t.one 0 (h One) (omega arith)) (sub-lt m m_pos (sub m x.u.one x.v.one) (word t one 0));
    made = λ x g t h. comparison-words m m_pos x t;
  }

  first_masks-counts : HasCounts m first_masks (SharesAreWords m) (FoldStateWords m) (counts 0 1 1 1) (received_counts 1 1 1 0)
  unfolding first_masks
  first_masks-counts = record {
    drawn = refl;
    long = λ p t. own_long _;
    delivered = λ p g t h. next_words (drawn-words 0 (omega arith) h);
    made = λ p g t h. record { p = g; q = drawn-words 0 (omega arith) h };
  }

  fold-counts : (k : ℕ) → HasCounts m (fold n k) (FoldStateWords m) (FoldStateWords m) (counts 0 1 1 1) (received_counts 2 2 2 0)
  unfolding fold
  fold-counts k = record {
    drawn = refl;
    long = λ h t. own_long _;
    delivered = λ h g t c. followed_by_words (next_words (masked-words (width n) g.p g.q)) (next_words (drawn-words 0 (omega arith) c));
    made = λ h g t c.
        let p = masked_shares h.p h.q in
        record { p = words_of (λ i. fold_share-lt (width n) k (at i p) (at (prev i) p)); q = drawn-words 0 (omega arith) c };
  }

  pub folds-counts : (k : ℕ)
      → HasCounts (modulus n) (folds n k) (OperandsAreWords (modulus n)) (FoldStateWords (modulus n))
      (counts 0 (2 + k) (1 + k) (1 + k)) (received_counts (1 + 2 * k) (2 + 2 * k) (2 + 2 * k) 0)
  unfolding folds
  folds-counts zero = counts_then compare-counts first_masks-counts
  folds-counts (suc k) = counts_along (counts_then (folds-counts k) (fold-counts k)) (omega arith) (omega arith)

  equal-counts : HasCounts m (equal n) (OperandsAreWords m) (SharesAreWords m)
      (counts 0 (5 + n) (1 + n) (1 + n)) (received_counts (1 + 2 * n) (5 + 2 * n) (5 + 2 * n) 0)
  unfolding equal
  equal-counts =
      counts_along (counts_then (folds-counts n) (counts_then (counts-locally (λ h g. g.p)) (bit-counts m two-le 0))) (omega arith) (omega arith)

  -- ---- the rows

  difference-counts : HasCounts m (locally (difference m)) (OperandsAreWords m) (SharesAreWords m) (counts 0 0 0 0) (received_counts 0 0 0 0)
  difference-counts = counts-locally (λ x g. difference-words m m_pos x)

  pub rows : Rows n
  unfolding below
  rows = record {
    store_row = store-counts m m_pos;
    sum_row = counts-locally (λ x g. words_of (λ i. add-lt m m_pos (at i x.u) (at i x.v)));
    difference_row = difference-counts;
    constant_sum_row = λ c. counts-locally (λ u g. words-three (add-lt m m_pos u.one c) (g two) (g three));
    constant_multiple_row = λ c. counts-locally (λ u g. words_of (λ i. mul-lt m m_pos (at i u) c));
    multiply_row = multiply-counts m m_pos;
    reshare_row = reshare-counts m m_pos;
    bits_row = bits-counts;
    bit_row = bit-counts m two-le;
    equal_row = equal-counts;
    opening_row = opening-counts m m_pos;
    below_row =
        counts_along (counts_then difference-counts (counts_then bits-counts (bit-counts m two-le (width n - 1)))) (omega arith) (omega arith);
  }

pub rows_at_32 : RowsAt32
rows_at_32 = record { bits_row = (rows 5).bits_row; equal_row = (rows 5).equal_row; below_row = (rows 5).below_row }
