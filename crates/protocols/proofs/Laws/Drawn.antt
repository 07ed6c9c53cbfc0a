-- Protocols on the block of all words that they draw.
use Rattle.std.specs.Prelude.{Option, Some, None, unwrap_or}
use Rattle.std.specs.Borrow.{Bor}
use Rattle.std.proofs.Common.{◌≡◌, ℕ, ◌+◌, ◌*◌, ◌<◌, ◌≤◌, Bool, true, false, cond, List, [], ◌∷◌, ◌++◌, length, get_or, take, drop, take_all, sym, refl, ap, ◌∙◌, arith, length-drop, drop_of_length-le, get_or-drop, add-zero}
use lib.Seq.{length-sets}
use Rattle.protocols.specs.declared.place.Party.TheVariants.{Provider, One, Two, Three}
use Rattle.protocols.specs.declared.bits.CarryState.{CarryState}
use Rattle.protocols.specs.declared.equal.FoldState.{FoldState}
use Rattle.protocols.specs.declared.place.Drawn.{Drawn}
use Rattle.protocols.specs.declared.place.Place.{Place}
use Rattle.protocols.specs.declared.place.Received.{Received}
use Rattle.protocols.specs.declared.shares.Shares.{Shares}
use Rattle.protocols.specs.Word.{width, modulus}
use Rattle.protocols.specs.Shares.{one, two, three, Operands}
use Rattle.protocols.specs.Place.{Tapes, tapes, Lists, lists, Receiver, miner, controller, list, word, advance, counts, tape_spent, Draw, draw_of, spent_draw, draw_answer, draw, enough, block, cut, rest, ◌followed_by◌}
use Rattle.protocols.specs.Counts.{received_counts, plus_received, count_for}
use Rattle.protocols.specs.Draws.{draw_each, draw_pairs, draw_block}
use Rattle.protocols.specs.Lent.{lent_blocks}
use Rattle.protocols.specs.Private.Lending.{Block, words_at, tape_of_one, with_words_at}
use Rattle.protocols.specs.Protocol.{Protocol, locally, ◌then◌, ProtocolAnswer, done, spent, perform}
use Rattle.protocols.specs.Outcome.{success, failure, delivery_of, delivery, with_fronts}
use Rattle.protocols.specs.Bit.{bit}
use Rattle.protocols.specs.Bits as bits
use Rattle.protocols.specs.Private.Bits as bits_code
use Rattle.protocols.specs.Bits.{deal, exchange, round, rounds, sum_bits, bits}
use Rattle.protocols.specs.Equal as equal
use Rattle.protocols.specs.Private.Equal as equal_code
use Rattle.protocols.specs.Equal.{compare, first_masks, fold, folds, equal}
use Rattle.protocols.specs.Local.{difference}
use Rattle.protocols.specs.Below.{below}
use Rattle.protocols.proofs.Laws.Blocks.{tapes_ext}
use Rattle.protocols.proofs.Laws.Puts.{tail_sets, all_lent, all_back}
use Rattle.protocols.proofs.Laws.Deliveries.{fronts_puts, words_lack}
use Rattle.protocols.proofs.Laws.Draws.{enough_true, draw_some, block-first, block-word}
use Rattle.protocols.proofs.Laws.Counts.{rows_at_32}
use Rattle.protocols.proofs.Laws.Perform.{Performance, performs, perform-locally, then_done, followed_by_silence, round-done, delivery-done}
use Rattle.protocols.proofs.Laws.Lent.{deal_performs, exchange_performs, round_performs, compare_performs, first_masks_perform, fold_performs}

-- ---- a block is drawn, or a tape is spent

module _ (n : Drawn) (p : Place) (t : Tapes) where
  by_enough : {w : Tapes} {q : Place} (e : Bool) → cond e (draw_of (block n p t) (advance p n)) (spent_draw p) ≡ draw_of w q
      → (e ≡ true) × (w ≡ block n p t) × (q ≡ advance p n)
  by_enough {w} true z = (refl, sym (ap (λ (d : Draw Tapes). unwrap_or d.words w) z), sym (ap (λ (d : Draw Tapes). d.place) z))
  by_enough false z = absurd (omega (arith, ap (λ (d : Draw Tapes). d.number) z))

  spent_by : (e : Bool) → cond {A = Draw Tapes} e (draw_of (block n p t) (advance p n)) (spent_draw p) ≡ spent_draw p → e ≡ false
  spent_by false z = refl
  spent_by true z = absurd (omega (arith, ap (λ (d : Draw Tapes). d.number) z))

  -- from the code's answer r
  module _ {r : Option ((Bor (List ℕ) × Bor (List ℕ) × Bor (List ℕ)) × Place)} where
    pub block_drawn : {a b c : Bor (List ℕ)} {q : Place} → r ≡ Some ((a, b, c), q) → draw_answer p (lent_blocks r) ≡ draw_block n p t
        → (enough n p t ≡ true) × (tapes [] a.now b.now c.now ≡ block n p t) × (q ≡ advance p n)
    unfolding draw_block
    block_drawn z e = by_enough (enough n p t) (sym e ∙ rw z)

    pub block_spent : r ≡ None → draw_answer p (lent_blocks r) ≡ draw_block n p t → enough n p t ≡ false
    unfolding draw_block
    block_spent z e = spent_by (enough n p t) (sym e ∙ rw z)

-- what a protocol delivers from a drawn block
module _ {S : Type 0} (f : Protocol S Shares) (n : Drawn) (draws : f.draws ≡ n) (s : S) (p : Place) (t : Tapes) where
  module _ {r : Option ((Bor (List ℕ) × Bor (List ℕ) × Bor (List ℕ)) × Place)} where
    pub spent_delivers : r ≡ None → draw_answer p (lent_blocks r) ≡ draw_block n p t → (l : Lists)
        → delivery_of (failure tape_spent p) l ≡ delivery p (perform f s p t) l
    spent_delivers z e l = words_lack f n draws s p t l (block_spent n p t z e)

    pub delivery_drawn : {a b c : Bor (List ℕ)} {q : Place} {l₀ l : Lists} {x : Shares} → r ≡ Some ((a, b, c), q) → draw_answer p (lent_blocks r) ≡ draw_block n p t
        → (k : Received) → ((s : S) (b : Tapes) (r : Receiver) → length (list r (f.received s b)) ≡ count_for r k) → ((r : Receiver) → count_for r k ≤ length (list r l₀))
        → (x ≡ f.result s (tapes [] a.now b.now c.now)) × (l ≡ with_fronts l₀ (f.received s (tapes [] a.now b.now c.now)))
        → delivery_of (success x q) l ≡ delivery p (perform f s p t) l₀
    delivery_drawn {a} {b} {c} {q} {l₀} {l} {x} z e k long room h =
        let w = tapes [] a.now b.now c.now in
        let d = block_drawn n p t z e in
        let v : block f.draws p t ≡ w = ap (λ (m : Drawn). block m p t) draws ∙ sym d.1 in
        let g : advance p f.draws ≡ q = ap (advance p) draws ∙ sym d.2 in
        let is : perform f s p t ≡ done x (f.received s w) q = performs f s p t (rw draws d.0) ∙ cc (v, g, h.0) in
        let made : Performance f s p t l₀ x l k q = record { words = f.received s w; is = is; are = h.1; long = long s w } in
        delivery-done f s p t made room

-- ---- on a block: tapes of its words alone, from their start

-- the place after j words of miner 1's and k of each other's, from the block's start
abbrev pub within : ℕ → ℕ → Place
within j k = record { handles = 0; inputs = 0; drawn = counts 0 j k k; received = received_counts 0 0 0 0 }

first_three : (l : List ℕ) → 3 ≤ length l → take 3 l ≡ get_or l 0 0 ∷ get_or l 1 0 ∷ get_or l 2 0 ∷ []
first_three [] h = absurd (omega (arith, h))
first_three (x ∷ []) h = absurd (omega (arith, h))
first_three (x ∷ y ∷ []) h = absurd (omega (arith, h))
first_three (x ∷ y ∷ z ∷ l) h = refl

first_one : (l : List ℕ) → 1 ≤ length l → take 1 l ≡ get_or l 0 0 ∷ []
first_one [] h = absurd (omega (arith, h))
first_one (x ∷ l) h = refl

module _ (w : Tapes) where
  pub block-one : 1 ≤ length w.one → draw 1 One w.one (within 0 0) ≡ draw_of (word w one 0 ∷ []) (within 1 0)
  block-one h = draw_some 1 One w.one (within 0 0) h ∙ rw (first_one w.one h)

  pub block-three : 3 ≤ length w.one → draw 3 One w.one (within 0 0) ≡ draw_of (word w one 0 ∷ word w one 1 ∷ word w one 2 ∷ []) (within 3 0)
  block-three h = draw_some 3 One w.one (within 0 0) h ∙ rw (first_three w.one h)

  module _ (j k : ℕ) where
    enough_here : (n : ℕ) → j + n ≤ length w.one → k + n ≤ length w.two → k + n ≤ length w.three → enough (counts 0 n n n) (within j k) w ≡ true
    enough_here n a b c = enough_true (counts 0 n n n) (within j k) w (elim [ Provider ↦ omega arith | One ↦ omega (arith, a) | Two ↦ omega (arith, b) | Three ↦ omega (arith, c) ])

    pub block-each : j + 1 ≤ length w.one → k + 1 ≤ length w.two → k + 1 ≤ length w.three
        → draw_each (within j k) w ≡ draw_of (words_at w j k) (within (j + 1) (k + 1))
    unfolding draw_each block
    block-each a b c = rw (enough_here 1 a b c)
        (cc (block-first 1 j w.one (omega arith), block-first 1 k w.two (omega arith), block-first 1 k w.three (omega arith)))

    pub block-pairs : j + 2 ≤ length w.one → k + 2 ≤ length w.two → k + 2 ≤ length w.three
        → draw_pairs (within j k) w ≡ draw_of {T = Shares × Shares} (words_at w j k, words_at w (j + 1) (k + 1)) (within (j + 2) (k + 2))
    unfolding draw_pairs block
    block-pairs a b c = rw (enough_here 2 a b c)
        (cc (
          block-first 2 j w.one (omega arith),
          block-first 2 k w.two (omega arith),
          block-first 2 k w.three (omega arith),
          block-word 2 j 1 w.one (omega arith),
          block-word 2 k 1 w.two (omega arith),
          block-word 2 k 1 w.three (omega arith),
        ))

-- a block of exactly the drawn words is the whole tapes
pub block-whole : (a b c : ℕ) (w : Tapes) → Block a b c w → block (counts 0 a b c) (within 0 0) w ≡ w
unfolding block
block-whole a b c w h = tapes_ext (block (counts 0 a b c) (within 0 0) w) w
    (elim [ Provider ↦ sym h.0 | One ↦ take_all a w.one (omega (arith, h.1)) | Two ↦ take_all b w.two (omega (arith, h.2)) | Three ↦ take_all c w.three (omega (arith, h.3)) ])

-- what a protocol makes of it
pub block-done : {S T : Type 0} (f : Protocol S T) (s : S) (w : Tapes) {l₀ l : Lists} {x : T} {k : Received} {q : Place} → block f.draws (within 0 0) w ≡ w
    → Performance f s (within 0 0) w l₀ x l k q → (x ≡ f.result s w) × (l ≡ with_fronts l₀ (f.received s w))
unfolding perform
block-done {T = T} f s w {l₀} {l} {x} {q = q} e d = go (enough f.draws (within 0 0) w) (rw e at d.is)
  where
    made : ProtocolAnswer T → T
    made (done y m q) = y
    made spent = x

    sent : ProtocolAnswer T → Lists
    sent (done y m q) = m
    sent spent = d.words

    number : ProtocolAnswer T → ℕ
    number (done y m q) = 0
    number spent = 1

    go : (i : Bool) → cond i (done (f.result s w) (f.received s w) (advance (within 0 0) f.draws)) spent ≡ done x d.words q → (x ≡ f.result s w) × (l ≡ with_fronts l₀ (f.received s w))
    go true z = (sym (ap made z), d.are ∙ ap (with_fronts l₀) (sym (ap sent z)))
    go false z = absurd (omega (arith, ap number z))

-- ---- Bits, on its drawn words

-- the dealing and k rounds are done, on the words that they draw
abbrev pub RoundsDone : Shares → Tapes → Lists → ℕ → CarryState → Lists → Type 0
RoundsDone u w l₀ k h l = Performance (rounds 5 k) u (within 0 0) w l₀ h l (bits_code.received_before k) (within (5 + 2 * k) (2 + 2 * k))

module _ (u : Shares) (w : Tapes) (long : Block 15 12 12 w) (l₀ : Lists) where
  dealing-done : let b = tape_of_one (word w one 0 ∷ word w one 1 ∷ word w one 2 ∷ []) in
      perform (deal 5) u (within 0 0) w ≡ done ((deal 5).result u b) ((deal 5).received u b) (within 3 0)
  dealing-done = deal_performs 5 u (within 0 0) w ∙ rw (block-three w (omega (arith, long.1)))

  pub no_round-done : (q t : Shares) → q ≡ words_at w 3 0 → t ≡ words_at w 4 1
      → let b = tape_of_one (word w one 0 ∷ word w one 1 ∷ word w one 2 ∷ []) in
      (h : CarryState) → h ≡ bits_code.state_before_rounds 5 u b q t
      → (l : Lists) → l ≡ with_fronts l₀ (bits_code.sent_before_rounds 5 u b q t) → RoundsDone u w l₀ 0 h l
  unfolding rounds deal
  no_round-done q t e f h is l are =
      let drawn : draw_pairs (within 3 0) w ≡ draw_of {T = Shares × Shares} (q, t) (within 5 2)
      = block-pairs w 3 0 (omega (arith, long.1)) (omega (arith, long.2)) (omega (arith, long.3)) ∙ rw (e, f) in
      record {
        words = bits_code.sent_before_rounds 5 u (tape_of_one (word w one 0 ∷ word w one 1 ∷ word w one 2 ∷ [])) q t;
        is = then_done (deal 5) (exchange 5) u (within 0 0) w dealing-done
            ∙ rw (exchange_performs, drawn, is);
        are = are;
        long = elim [ miner one ↦ refl | miner two ↦ refl | miner three ↦ refl | controller ↦ refl ];
      }

  pub one_more-done : (k : ℕ) → k < 5 → {h : CarryState} {l : Lists} → RoundsDone u w l₀ k h l
      → (q t : Shares) → q ≡ words_at w (5 + 2 * k) (2 + 2 * k) → t ≡ words_at w (5 + 2 * k + 1) (2 + 2 * k + 1)
      → (h' : CarryState) → h' ≡ bits.after_round (width 5) k h q t
      → (l' : Lists) → l' ≡ with_words_at (bits_code.received_before k) l (bits.sent_in_round h q t) → RoundsDone u w l₀ (k + 1) h' l'
  unfolding rounds
  one_more-done k less {h = h} d q t e f h' is l' are =
      let i : 5 + 2 * k + 2 ≡ 5 + 2 * (k + 1) = omega arith in
      let j : 2 + 2 * k + 2 ≡ 2 + 2 * (k + 1) = omega arith in
      let drawn : draw_pairs (within (5 + 2 * k) (2 + 2 * k)) w
      ≡ draw_of {T = Shares × Shares} (q, t) (within (5 + 2 * (k + 1)) (2 + 2 * (k + 1)))
      = block-pairs w (5 + 2 * k) (2 + 2 * k) (omega (arith, long.1, less)) (omega (arith, long.2, less)) (omega (arith, long.3, less))
      ∙ rw (e, f, i, j) in
      round-done (deal 5 then exchange 5) (round 5) u (within 0 0) w k d (bits.sent_in_round h q t)
      (round_performs 5 k h (within (5 + 2 * k) (2 + 2 * k)) w ∙ rw (drawn, is)) l' are (bits_code.received_before (k + 1))
      (elim [ miner one ↦ omega arith | miner two ↦ omega arith | miner three ↦ omega arith | controller ↦ refl ])

  pub all-done : {h : CarryState} {l : Lists} → RoundsDone u w l₀ 5 h l
      → (sum_bits (width 5) h ≡ (bits 5).result u w) × (l ≡ with_fronts l₀ ((bits 5).received u w))
  unfolding bits
  all-done {h} {l} d =
      let whole : block (bits 5).draws (within 0 0) w ≡ w = rw rows_at_32.bits_row.drawn (block-whole 15 12 12 w long) in
      let made : Performance (bits 5) u (within 0 0) w l₀ (sum_bits (width 5) h) l (bits_code.received_before 5) (within 15 12) = record {
        words = d.words;
        is = then_done (rounds 5 5) (locally (sum_bits (width 5))) u (within 0 0) w d.is ∙ rw (perform-locally, followed_by_silence);
        are = d.are;
        long = d.long;
      } in
      block-done (bits 5) u w whole made

-- ---- Equal up to its last fold round, on its drawn words

-- the comparison and k rounds are done, on the words that they draw
abbrev pub FoldsDone : Operands → Tapes → Lists → ℕ → FoldState → Lists → Type 0
FoldsDone x w l₀ k h l = Performance (folds 5 k) x (within 0 0) w l₀ h l (equal_code.received_before k) (within (2 + k) (1 + k))

pub folds_draw : (folds 5 5).draws ≡ counts 0 7 6 6
unfolding folds compare first_masks fold ◌then◌
folds_draw = refl

pub folds_long : (x : Operands) (w : Tapes) (r : Receiver) → length (list r ((folds 5 5).received x w)) ≡ count_for r (received_counts 11 12 12 0)
unfolding folds compare first_masks fold ◌then◌
folds_long x w = elim [ miner one ↦ refl | miner two ↦ refl | miner three ↦ refl | controller ↦ refl ]

module _ (x : Operands) (w : Tapes) (long : Block 7 6 6 w) (l₀ : Lists) where
  comparison-done : let b = tape_of_one (word w one 0 ∷ []) in
      perform (compare 5) x (within 0 0) w ≡ done ((compare 5).result x b) ((compare 5).received x b) (within 1 0)
  comparison-done = compare_performs 5 x (within 0 0) w ∙ rw (block-one w (omega (arith, long.1)))

  pub no_fold-done : (q : Shares) → q ≡ words_at w 1 0
      → let b = tape_of_one (word w one 0 ∷ []) in
      (h : FoldState) → h ≡ equal_code.state_before_rounds 5 x b q
      → (l : Lists) → l ≡ with_fronts l₀ (equal_code.sent_before_rounds 5 x b q) → FoldsDone x w l₀ 0 h l
  unfolding folds compare
  no_fold-done q e h is l are =
      let drawn : draw_each (within 1 0) w ≡ draw_of q (within 2 1)
      = block-each w 1 0 (omega (arith, long.1)) (omega (arith, long.2)) (omega (arith, long.3)) ∙ rw e in
      record {
        words = equal_code.sent_before_rounds 5 x (tape_of_one (word w one 0 ∷ [])) q;
        is = then_done (compare 5) first_masks x (within 0 0) w comparison-done
            ∙ rw (first_masks_perform, drawn, is);
        are = are;
        long = elim [ miner one ↦ refl | miner two ↦ refl | miner three ↦ refl | controller ↦ refl ];
      }

  pub fold-done : (k : ℕ) → k < 5 → {h : FoldState} {l : Lists} → FoldsDone x w l₀ k h l
      → (q : Shares) → q ≡ words_at w (1 + (1 + k)) (1 + k)
      → (h' : FoldState) → h' ≡ equal.after_round (width 5) k h q
      → (l' : Lists) → l' ≡ with_words_at (equal_code.received_before k) l (equal.sent_in_round h q) → FoldsDone x w l₀ (k + 1) h' l'
  unfolding folds
  fold-done k less {h = h} d q e h' is l' are =
      let i : 2 + k + 1 ≡ 2 + (k + 1) = omega arith in
      let j : 1 + k + 1 ≡ 1 + (k + 1) = omega arith in
      let m : 1 + (1 + k) ≡ 2 + k = omega arith in
      let drawn : draw_each (within (2 + k) (1 + k)) w ≡ draw_of q (within (2 + (k + 1)) (1 + (k + 1)))
      = block-each w (2 + k) (1 + k) (omega (arith, long.1, less)) (omega (arith, long.2, less)) (omega (arith, long.3, less))
      ∙ rw (e, m, i, j) in
      round-done (compare 5 then first_masks) (fold 5) x (within 0 0) w k d (equal.sent_in_round h q)
      (fold_performs 5 k h (within (2 + k) (1 + k)) w ∙ rw (drawn, is)) l' are (equal_code.received_before (k + 1))
      (elim [ miner one ↦ omega arith | miner two ↦ omega arith | miner three ↦ omega arith | controller ↦ refl ])

  pub all_folds-done : {h : FoldState} {l : Lists} → FoldsDone x w l₀ 5 h l
      → (h ≡ (folds 5 5).result x w) × (l ≡ with_fronts l₀ ((folds 5 5).received x w))
  all_folds-done d =
      let whole : block (folds 5 5).draws (within 0 0) w ≡ w = rw folds_draw (block-whole 7 6 6 w long) in
      block-done (folds 5 5) x w whole d

-- ---- Bit as the last part: on the last three words of miner 1, and on the tails of lists 2 and 3

module _ (m j : ℕ) (l₀ l : Lists) (w : Lists) (k : Received) (long : (r : Receiver) → length (list r w) ≡ count_for r k) (are : l ≡ with_fronts l₀ w)
    (room : (r : Receiver) → count_for r (plus_received k (received_counts 0 3 3 0)) ≤ length (list r l₀)) where
  bit_behind : (y : Shares) (v : Tapes) {a b : List ℕ} → lists [] a b [] ≡ with_fronts (lists [] (drop k.two l.two) (drop k.three l.three) []) ((bit m j).received y v)
      → lists l.one (take k.two l.two ++ a) (take k.three l.three ++ b) l.controller ≡ with_fronts l₀ (w followed_by (bit m j).received y v)
  unfolding bit
  bit_behind y v {a} {b} h =
      let w' = (bit m j).received y v in
      let long_two : length l.two ≡ length l₀.two = ap (λ (x : Lists). length x.two) are ∙ length-sets l₀.two 0 w.two in
      let long_three : length l.three ≡ length l₀.three = ap (λ (x : Lists). length x.three) are ∙ length-sets l₀.three 0 w.three in
      ap (λ (x : Lists). lists l.one (take k.two l.two ++ x.two) (take k.three l.three ++ x.three) l.controller) h
      ∙ (λ i. lists l.one (tail_sets l.two w'.two k.two (omega (arith, long_two, room (miner two))) i)
      (tail_sets l.three w'.three k.three (omega (arith, long_three, room (miner three))) i) l.controller)
      ∙ ap (λ (x : Lists). with_words_at k x w') are
      ∙ fronts_puts l₀ w w' k long

  -- where these tails are the last three entries of their lists
  pub bit_last : length l₀.two ≡ k.two + 3 → length l₀.three ≡ k.three + 3 → (y : Shares) (v : Tapes) {a b : List ℕ}
      → lists [] a b [] ≡ with_fronts (lists [] (take 3 (drop k.two l.two)) (take 3 (drop k.three l.three)) []) ((bit m j).received y v)
      → lists l.one (take k.two l.two ++ (a ++ drop 3 (drop k.two l.two))) (take k.three l.three ++ (b ++ drop 3 (drop k.three l.three))) l.controller
      ≡ with_fronts l₀ (w followed_by (bit m j).received y v)
  bit_last e f y v {a} {b} h =
      let two_long : length l.two ≤ k.two + 3 = omega (arith, ap (λ (x : Lists). length x.two) are, length-sets l₀.two 0 w.two, e) in
      let three_long : length l.three ≤ k.three + 3 = omega (arith, ap (λ (x : Lists). length x.three) are, length-sets l₀.three 0 w.three, f) in
      rw (all_back l.two k.two 3 a two_long, all_back l.three k.three 3 b three_long)
      (bit_behind y v (rw (all_lent l.two k.two 3 two_long, all_lent l.three k.three 3 three_long) at h))

-- miner 1's first j words with all words of the others, and miner 1's three words from j on
abbrev pub first_words : ℕ → Tapes → Tapes
first_words j w = tapes [] (take j w.one) w.two w.three

abbrev pub last_words : ℕ → Tapes → Tapes
last_words j w = tape_of_one (word w one j ∷ word w one (j + 1) ∷ word w one (j + 2) ∷ [])

last_three : (j : ℕ) (l : List ℕ) → length l ≡ j + 3 → drop j l ≡ get_or l j 0 ∷ get_or l (j + 1) 0 ∷ get_or l (j + 2) 0 ∷ []
last_three j l h =
    let n : length (drop j l) ≡ 3 = length-drop j l ∙ omega (arith, h) in
    sym (take_all 3 (drop j l) (omega (arith, n))) ∙ first_three (drop j l) (omega (arith, n))
    ∙ rw (get_or-drop j l 0 0, get_or-drop j l 1 0, get_or-drop j l 2 0, add-zero)

module _ (j k : ℕ) (w : Tapes) (long : Block (j + 3) k k w) where
  first_cut : cut (counts 0 j k k) w ≡ first_words j w
  first_cut = tapes_ext _ _ (elim [ Provider ↦ refl | One ↦ refl | Two ↦ take_all k w.two (omega (arith, long.2)) | Three ↦ take_all k w.three (omega (arith, long.3)) ])

  last_rest : rest (counts 0 j k k) w ≡ last_words j w
  last_rest = tapes_ext _ _ (elim [
    | Provider ↦ long.0
    | One ↦ last_three j w.one long.1
    | Two ↦ drop_of_length-le w.two {i = k} (omega (arith, long.2))
    | Three ↦ drop_of_length-le w.three {i = k} (omega (arith, long.3))
  ])

module _ (x : Operands) (w : Tapes) where
  pub below_parts : Block 18 12 12 w → let y = (bits 5).result (difference (modulus 5) x) (first_words 15 w) in
      ((below 5).result x w ≡ (bit (modulus 5) 31).result y (last_words 15 w))
      × ((below 5).received x w ≡ (bits 5).received (difference (modulus 5) x) (first_words 15 w) followed_by (bit (modulus 5) 31).received y (last_words 15 w))
  unfolding below ◌then◌
  below_parts h = rw (rows_at_32.bits_row.drawn, first_cut 15 12 w h, last_rest 15 12 w h) (refl, refl)

  pub equal_parts : Block 10 6 6 w → let y = ((folds 5 5).result x (first_words 7 w)).p in
      ((equal 5).result x w ≡ (bit (modulus 5) 0).result y (last_words 7 w))
      × ((equal 5).received x w ≡ (folds 5 5).received x (first_words 7 w) followed_by (bit (modulus 5) 0).received y (last_words 7 w))
  unfolding equal ◌then◌
  equal_parts h = rw (folds_draw, first_cut 7 6 w h, last_rest 7 6 w h) (refl, refl)
