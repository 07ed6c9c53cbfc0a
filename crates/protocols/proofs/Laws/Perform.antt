-- Protocols on lent tapes in general: their draws, one after the other, in rounds, and what they leave.
use Rattle.std.proofs.Common.{◌≡◌, ℕ, ◌+◌, ◌-◌, ◌≤◌, Bool, true, false, cond, ◌&&◌, leb, List, length, take, drop, refl, ap, ◌∙◌, ap₂, append-nil, add-zero, add-one, arith, length-append}
use Rattle.protocols.specs.declared.place.Party.{Party}
use Rattle.protocols.specs.declared.place.Party.TheVariants.{Provider, One, Two, Three}
use Rattle.protocols.specs.Outcome.{success, delivery_of, delivery, with_fronts}
use Rattle.protocols.proofs.Laws.Deliveries.{fronts_puts, room_true}
use Rattle.protocols.specs.declared.place.Received.{Received}
use Rattle.protocols.specs.Counts.{count_for}
use Rattle.protocols.specs.declared.place.Drawn.{Drawn}
use Rattle.protocols.specs.declared.place.Place.{Place}
use Rattle.protocols.specs.declared.shares.Shares.{Shares}
use Rattle.protocols.specs.Shares.{one, two, three}
use Rattle.protocols.specs.Place.{Tapes, Lists, lists, Receiver, miner, controller, list, words, tape, count, counts, plus, cut, rest, advance, after_draw, Draw, draw_of, spent_draw, draw, enough, block, ◌followed_by◌, silence}
use Rattle.protocols.specs.Draws.{draw_each, draw_pairs}
use Rattle.protocols.specs.Protocol.{Protocol, ◌then◌, with_rounds, locally, from_part, ProtocolAnswer, done, spent, perform}
use Rattle.protocols.specs.Claims.{OnTapes}
use Rattle.protocols.specs.Private.Lending.{with_words_at}
use Rattle.protocols.proofs.Laws.Draws.{after, only, enough_only, block_only, advance_only, enough_true, enough_false, Agree, enough_agree, block_agree, enough-plus, cut-block, rest-block, advance-plus}

-- ---- a protocol by its draws

module _ {S T : Type 0} where
  -- one word of each miner's tape
  pub by_each : (R : S → Shares → T) (L : S → Shares → Lists) (s : S) (p : Place) (t : Tapes)
      → perform (record { draws = counts 0 1 1 1; result = λ s b. R s (words b 0); received = λ s b. L s (words b 0) }) s p t
      ≡ after (draw_each p t) (λ r q. done (R s r) (L s r) q) spent
  unfolding perform draw_each
  by_each R L s p t = go (enough (counts 0 1 1 1) p t)
    where
      r : Shares
      r = words (block (counts 0 1 1 1) p t) 0

      q : Place
      q = advance p (counts 0 1 1 1)

      go : (e : Bool) → cond e (done (R s r) (L s r) q) spent ≡ after {T = Shares} (cond e (draw_of r q) (spent_draw p)) (λ r q. done (R s r) (L s r) q) spent
      go true = refl
      go false = refl

  -- two words of each miner's tape
  pub by_pairs : (R : S → Shares → Shares → T) (L : S → Shares → Shares → Lists) (s : S) (p : Place) (t : Tapes)
      → perform (record { draws = counts 0 2 2 2; result = λ s b. R s (words b 0) (words b 1); received = λ s b. L s (words b 0) (words b 1) }) s p t
      ≡ after {T = Shares × Shares} (draw_pairs p t) (λ x q. done (R s x.0 x.1) (L s x.0 x.1) q) spent
  unfolding perform draw_pairs
  by_pairs R L s p t = go (enough (counts 0 2 2 2) p t)
    where
      b : Tapes
      b = block (counts 0 2 2 2) p t

      q : Place
      q = advance p (counts 0 2 2 2)

      go : (e : Bool) → cond e (done (R s (words b 0) (words b 1)) (L s (words b 0) (words b 1)) q) spent
          ≡ after {T = Shares × Shares} (cond {A = Draw (Shares × Shares)} e (draw_of {T = Shares × Shares} (words b 0, words b 1) q) (spent_draw p)) (λ x q. done (R s x.0 x.1) (L s x.0 x.1) q) spent
      go true = refl
      go false = refl

  -- k words of one party's tape
  pub by_words : (i : Party) (k : ℕ) (R : S → List ℕ → T) (L : S → List ℕ → Lists) (s : S) (p : Place) (t : Tapes)
      → perform (record { draws = only i k; result = λ s b. R s (tape i b); received = λ s b. L s (tape i b) }) s p t
      ≡ after (draw k i (tape i t) p) (λ w q. done (R s w) (L s w) q) spent
  unfolding perform draw
  by_words i k R L s p t =
      rw (enough_only p t i k, block_only p t i k, advance_only p t i k) (go (leb k (length (tape i t) - count i p.drawn)))
    where
      w : List ℕ
      w = take k (drop (count i p.drawn) (tape i t))

      go : (e : Bool) → cond e (done (R s w) (L s w) (after_draw k i p)) spent ≡ after {T = List ℕ} (cond e (draw_of w (after_draw k i p)) (spent_draw p)) (λ w q. done (R s w) (L s w) q) spent
      go true = refl
      go false = refl

-- ---- by its count of words

module _ {S T : Type 0} (f : Protocol S T) (s : S) (p : Place) (t : Tapes) where
  pub performs : enough f.draws p t ≡ true
      → let b = block f.draws p t in perform f s p t ≡ done (f.result s b) (f.received s b) (advance p f.draws)
  unfolding perform
  performs e = rw e

-- ---- one protocol after another

-- what follows an answer, and words before those of an answer
abbrev pub and_then : {S T : Type 0} → ProtocolAnswer S → (S → Lists → Place → ProtocolAnswer T) → ProtocolAnswer T
and_then (done s l q) k = k s l q
and_then spent k = spent

abbrev pub words_before : {T : Type 0} → Lists → ProtocolAnswer T → ProtocolAnswer T
words_before l (done s k q) = done s (l followed_by k) q
words_before l spent = spent

module _ {S T Z : Type 0} (f : Protocol S T) (g : Protocol T Z) (s : S) (p : Place) (t : Tapes) where
  -- f and g done, each on its block
  both-done : Tapes → Tapes → Place → ProtocolAnswer Z
  both-done b d q = done (g.result (f.result s b) d) (f.received s b followed_by g.received (f.result s b) d) q

  pub perform_then : perform (f then g) s p t ≡ and_then (perform f s p t) (λ x l q. words_before l (perform g x q t))
  unfolding perform ◌then◌ both-done
  perform_then =
      ap₂ (λ (e : Bool) (y : ProtocolAnswer Z). cond e y spent) (enough-plus f.draws g.draws p t) blocks ∙ first (enough f.draws p t)
    where
      b : Tapes
      b = block f.draws p t

      q : Place
      q = advance p f.draws

      d : Tapes
      d = block g.draws q t

      whole : Tapes
      whole = block (plus f.draws g.draws) p t

      blocks : both-done (cut f.draws whole) (rest f.draws whole) (advance p (plus f.draws g.draws)) ≡ both-done b d (advance q g.draws)
      blocks = cc (cut-block f.draws g.draws p t, rest-block f.draws g.draws p t, advance-plus f.draws g.draws p)

      second : (c : Bool) → cond c (both-done b d (advance q g.draws)) spent
          ≡ words_before (f.received s b) (cond c (done (g.result (f.result s b) d) (g.received (f.result s b) d) (advance q g.draws)) spent)
      second true = refl
      second false = refl

      first : (a : Bool) → cond (a && enough g.draws q t) (both-done b d (advance q g.draws)) spent
          ≡ and_then (cond a (done (f.result s b) (f.received s b) q) spent) (λ x l q. words_before l (perform g x q t))
      first true = second (enough g.draws q t)
      first false = refl

-- a local step draws and sends nothing
advance_none : (p : Place) → advance p (counts 0 0 0 0) ≡ p
advance_none p =
    let n = p.drawn in
    λ i. record {
      handles = p.handles;
      inputs = p.inputs;
      received = p.received;
      drawn = counts (add-zero n.provider i) (add-zero n.one i) (add-zero n.two i) (add-zero n.three i);
    }

pub perform-locally : {S T : Type 0} (f : S → T) (s : S) (p : Place) (t : Tapes) → perform (locally f) s p t ≡ done (f s) silence p
unfolding perform
perform-locally f s p t =
    rw (enough_true (counts 0 0 0 0) p t (elim [ Provider ↦ omega arith | One ↦ omega arith | Two ↦ omega arith | Three ↦ omega arith ]))
    (ap (done (f s) silence) (advance_none p))

-- ---- parts done or spent

module _ {S T Z : Type 0} (f : Protocol S T) (g : Protocol T Z) (s : S) (p : Place) (t : Tapes) where
  -- if the first part is done, the whole goes on
  pub then_done : {x : T} {l : Lists} {q : Place} → perform f s p t ≡ done x l q → perform (f then g) s p t ≡ words_before l (perform g x q t)
  then_done e = perform_then f g s p t ∙ ap (λ (a : ProtocolAnswer T). and_then a (λ x l q. words_before l (perform g x q t))) e

-- ---- tapes that are not drawn from

pub perform-from_part : {S T Z : Type 0} (part : S → T) (f : Protocol T Z) (s : S) (p : Place) (t : Tapes) → perform (from_part part f) s p t ≡ perform f (part s) p t
unfolding perform
perform-from_part part f s p t = refl

pub perform_agree : {S T : Type 0} (f : Protocol S T) (s : S) (p : Place) (t t' : Tapes) → Agree f.draws t t' → perform f s p t ≡ perform f s p t'
unfolding perform
perform_agree f s p t t' h = rw (enough_agree f.draws p t t' h, block_agree f.draws p t t' h)

-- ---- parts before and after

pub followed_by_silence : (l : Lists) → l followed_by silence ≡ l
followed_by_silence l = λ i. lists (append-nil l.one i) (append-nil l.two i) (append-nil l.three i) (append-nil l.controller i)

-- f is done: the miners hold x, and the place is q; its words, which k counts, turned the lists l₀ into l
pub record Performance {S T : Type 0} (f : Protocol S T) (s : S) (p : Place) (t : Tapes) (l₀ : Lists) (x : T) (l : Lists) (k : Received) (q : Place) : Type 0 where
  pub words : Lists
  pub is : perform f s p t ≡ done x words q
  pub are : l ≡ with_fronts l₀ words
  pub long : (r : Receiver) → length (list r words) ≡ count_for r k

-- ---- rounds

module _ {S T : Type 0} (f : Protocol S T) (g : ℕ → Protocol T T) (s : S) (p : Place) (t : Tapes) where
  module _ (k : ℕ) {l₀ l : Lists} {h : T} {n : Received} {q : Place} (d : Performance (with_rounds f g k) s p t l₀ h l n q) where
    pub round-done : {x : T} (w : Lists) {q' : Place} → perform (g k) h q t ≡ done x w q' → (l' : Lists) → l' ≡ with_words_at n l w
        → (j : Received) → ((r : Receiver) → count_for r n + length (list r w) ≡ count_for r j) → Performance (with_rounds f g (k + 1)) s p t l₀ x l' j q'
    round-done w e l' a j c = record {
      words = d.words followed_by w;
      is = rw add-one (then_done (with_rounds f g k) (g k) s p t d.is ∙ rw e);
      are = a ∙ rw d.are (fronts_puts l₀ d.words w n d.long);
      long = λ r. longer r;
    }
      where
        longer : (r : Receiver) → length (list r (d.words followed_by w)) ≡ count_for r j
        longer (miner one) = omega (arith, length-append d.words.one w.one, d.long (miner one), c (miner one))
        longer (miner two) = omega (arith, length-append d.words.two w.two, d.long (miner two), c (miner two))
        longer (miner three) = omega (arith, length-append d.words.three w.three, d.long (miner three), c (miner three))
        longer controller = omega (arith, length-append d.words.controller w.controller, d.long controller, c controller)

-- ---- deliveries

-- the delivery of a protocol that is done, where every list has room
pub delivery-done : {S : Type 0} (f : Protocol S Shares) (s : S) (p : Place) (t : Tapes) {l₀ l : Lists} {x : Shares} {k : Received} {q : Place}
    → Performance f s p t l₀ x l k q → ((r : Receiver) → count_for r k ≤ length (list r l₀)) → delivery_of (success x q) l ≡ delivery p (perform f s p t) l₀
delivery-done f s p t {l₀ = l₀} d h = rw (d.is, d.are, room_true l₀ d.words (λ r. omega (arith, d.long r, h r)))

-- ---- done or spent, exactly

-- the words of a block, tape by tape
block_of : (n : Drawn) (p : Place) (t : Tapes) (i : Party) → tape i (block n p t) ≡ take (count i n) (drop (count i p.drawn) (tape i t))
unfolding block
block_of n p t Provider = refl
block_of n p t One = refl
block_of n p t Two = refl
block_of n p t Three = refl

pub on_tapes : {S T : Type 0} (f : Protocol S T) (s : S) (p : Place) (t : Tapes) → OnTapes f s p t
unfolding perform
on_tapes f s p t = record {
  spent_if = λ i h. rw (enough_false f.draws p t i h);
  done_if = λ h. rw (enough_true f.draws p t (λ i. omega (arith, h i)));
  next_words = block_of f.draws p t;
  next_place = refl;
  other_tapes = λ t' h. perform_agree f s p t t' h;
}
