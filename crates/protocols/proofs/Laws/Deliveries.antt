-- Deliveries: the received words at the fronts of the lent lists.
use Rattle.std.proofs.Common.{◌≡◌, ℕ, ◌<◌, ◌≤◌, Bool, true, false, ◌&&◌, leb, List, [], ◌∷◌, ◌++◌, length, drop, drop_of_length-le, append-nil, sym, refl, ap, ◌∙◌, subst, zero-add, arith, le-leb, leb-true}
use borrow.Author.Tests.{lt-leb}
use lib.Dec.{leb-zero}
use lib.Seq.{sets, sets-eq}
use Rattle.protocols.specs.declared.place.Drawn.{Drawn}
use Rattle.protocols.specs.declared.place.Place.{Place}
use Rattle.protocols.specs.declared.place.Received.{Received}
use Rattle.protocols.specs.declared.shares.Shares.{Shares}
use Rattle.protocols.specs.Shares.{one, two, three}
use Rattle.protocols.specs.Place.{Tapes, Lists, lists, Receiver, miner, controller, list, advance, tape_spent, enough, block, silence, ◌followed_by◌}
use Rattle.protocols.specs.Protocol.{Protocol, done, perform}
use Rattle.protocols.specs.Outcome.{Outcome, Delivery, list_full, success, failure, delivery_of, delivery, have_room_for, with_fronts}
use Rattle.protocols.specs.Counts.{received_counts, count_for}
use Rattle.protocols.specs.Private.Lending.{HaveRoom, with_words_at}
use Rattle.protocols.specs.Claims.{Delivers}
use Rattle.protocols.proofs.Laws.Puts.{sets_behind}

-- ---- room

and-false : (a : Bool) → a && false ≡ false
and-false true = refl
and-false false = refl

pub room_true : (l w : Lists) → ((r : Receiver) → length (list r w) ≤ length (list r l)) → have_room_for l w ≡ true
room_true l w h =
    rw (le-leb (length w.controller) (length l.controller) (h controller), le-leb (length w.one) (length l.one) (h (miner one)), le-leb (length w.two) (length l.two) (h (miner two)), le-leb (length w.three) (length l.three) (h (miner three)))

pub both : (a b : Bool) → (a && b) ≡ true → (a ≡ true) × (b ≡ true)
both true b e = (refl, e)
both false b e = absurd (subst tells e tt)
  where
    tells : Bool → Type 0
    tells true = ⊥
    tells false = Unit {0}

-- three tests of room at once
pub has_room : (a b c x y z : ℕ) → leb a x && (leb b y && leb c z) ≡ true → (a ≤ x) × (b ≤ y) × (c ≤ z)
has_room a b c x y z h =
    let e = both (leb a x) (leb b y && leb c z) h in
    let f = both (leb b y) (leb c z) e.1 in
    (leb-true a x e.0, leb-true b y f.0, leb-true c z f.1)

-- room for the counts of the three miners
pub due_fits : (a b c : ℕ) (l : Lists) → HaveRoom a b c l → (r : Receiver) → count_for r (received_counts a b c 0) ≤ length (list r l)
due_fits a b c l h (miner one) = h.0
due_fits a b c l h (miner two) = h.1
due_fits a b c l h (miner three) = h.2
due_fits a b c l h controller = omega arith

-- ---- words behind words

pub fronts_puts : (l w v : Lists) (k : Received) → ((r : Receiver) → length (list r w) ≡ count_for r k) → with_words_at k (with_fronts l w) v ≡ with_fronts l (w followed_by v)
fronts_puts l w v k h = λ i.
    lists (sets_behind l.one w.one v.one k.one (sym (h (miner one))) i) (sets_behind l.two w.two v.two k.two (sym (h (miner two))) i)
    (sets_behind l.three w.three v.three k.three (sym (h (miner three))) i)
    (sets_behind l.controller w.controller v.controller k.controller (sym (h controller)) i)

-- ---- by the tapes and the room

module _ {S : Type 0} (f : Protocol S Shares) (s : S) (p : Place) (t : Tapes) (l : Lists) where
  pub delivery-spent : enough f.draws p t ≡ false → delivery_of (failure tape_spent p) l ≡ delivery p (perform f s p t) l
  unfolding perform
  delivery-spent e = rw e

  pub delivery_full : enough f.draws p t ≡ true → have_room_for l (f.received s (block f.draws p t)) ≡ false → delivery_of (failure list_full p) l ≡ delivery p (perform f s p t) l
  unfolding perform
  delivery_full e g = rw (e, g)

-- the same by counts: n words drawn, k delivered
module _ {S : Type 0} (f : Protocol S Shares) (n : Drawn) (drawn : f.draws ≡ n) (s : S) (p : Place) (t : Tapes) (l : Lists) where
  pub words_lack : enough n p t ≡ false → delivery_of (failure tape_spent p) l ≡ delivery p (perform f s p t) l
  words_lack e = delivery-spent f s p t l (rw drawn e)

  pub room_lacks : (k : Received) → ((s : S) (b : Tapes) (r : Receiver) → length (list r (f.received s b)) ≡ count_for r k) → enough n p t ≡ true
      → leb k.controller (length l.controller) && (leb k.one (length l.one) && (leb k.two (length l.two) && leb k.three (length l.three))) ≡ false
      → delivery_of (failure list_full p) l ≡ delivery p (perform f s p t) l
  room_lacks k long e g =
      let b = block f.draws p t in
      delivery_full f s p t l (rw drawn e) (rw (long s b controller, long s b (miner one), long s b (miner two), long s b (miner three)) g)

-- ---- the cases of a delivery

room_false : (l w : Lists) (r : Receiver) → length (list r l) < length (list r w) → have_room_for l w ≡ false
room_false l w (miner one) h = rw (lt-leb (length w.one) (length l.one) h, and-false (leb (length w.controller) (length l.controller)))
room_false l w (miner two) h = rw (lt-leb (length w.two) (length l.two) h, and-false (leb (length w.one) (length l.one)), and-false (leb (length w.controller) (length l.controller)))
room_false l w (miner three) h =
    rw (lt-leb (length w.three) (length l.three) h, and-false (leb (length w.two) (length l.two)), and-false (leb (length w.one) (length l.one)), and-false (leb (length w.controller) (length l.controller)))
room_false l w controller h = rw (lt-leb (length w.controller) (length l.controller) h)

pub begins_with : (l w : List ℕ) → length w ≤ length l → sets l 0 w ≡ w ++ drop (length w) l
begins_with l w h = sets-eq w l 0 (omega arith) ∙ ap (λ (k : ℕ). w ++ drop k l) (zero-add (length w))

pub delivers : (p : Place) (l : Lists) (s : Shares) (w : Lists) (q : Place) → Delivers p l s w q
delivers p l s w q = record {
  full_if = λ r h. rw (room_false l w r h);
  done_if = λ h. rw (room_true l w h);
  begins = λ h r. begins r (h r);
  spent_if = refl;
}
  where
    begins : (r : Receiver) → length (list r w) ≤ length (list r l) → list r (with_fronts l w) ≡ list r w ++ drop (length (list r w)) (list r l)
    begins (miner one) h = begins_with l.one w.one h
    begins (miner two) h = begins_with l.two w.two h
    begins (miner three) h = begins_with l.three w.three h
    begins controller h = begins_with l.controller w.controller h

-- n words in place of a list's first n
in_place : (l a : List ℕ) (n : ℕ) → length a ≡ n → n ≤ length l → a ++ drop n l ≡ sets l 0 a
in_place l a n e h = ap (λ (k : ℕ). a ++ drop k l) (sym e) ∙ sym (begins_with l a (omega (arith, e, h)))

pub fronts_written : (l w : Lists) (k : Received) → ((r : Receiver) → length (list r w) ≡ count_for r k) → ((r : Receiver) → count_for r k ≤ length (list r l))
    → {a b c : List ℕ} → lists a b c [] ≡ w → lists (a ++ drop k.one l.one) (b ++ drop k.two l.two) (c ++ drop k.three l.three) l.controller ≡ with_fronts l w
fronts_written l w k long fits {a} {b} {c} e =
    (λ i. lists (in_place l.one a k.one (ap (λ (x : Lists). length x.one) e ∙ long (miner one)) (fits (miner one)) i)
    (in_place l.two b k.two (ap (λ (x : Lists). length x.two) e ∙ long (miner two)) (fits (miner two)) i)
    (in_place l.three c k.three (ap (λ (x : Lists). length x.three) e ∙ long (miner three)) (fits (miner three)) i) l.controller)
    ∙ ap (with_fronts l) e

-- words as many as the list has replace all of it
all_of : (l w : List ℕ) → length w ≡ length l → sets l 0 w ≡ w
all_of l w e = begins_with l w (omega (arith, e)) ∙ rw (drop_of_length-le l {i = length w} (omega (arith, e)), append-nil) refl

pub fronts_whole : (l w : Lists) (k : Received) → ((r : Receiver) → length (list r w) ≡ count_for r k)
    → length l.one ≡ k.one → length l.two ≡ k.two → length l.three ≡ k.three → length l.controller ≡ k.controller → with_fronts l w ≡ w
fronts_whole l w k long a b c d = λ i.
    lists (all_of l.one w.one (long (miner one) ∙ sym a) i) (all_of l.two w.two (long (miner two) ∙ sym b) i)
    (all_of l.three w.three (long (miner three) ∙ sym c) i) (all_of l.controller w.controller (long controller ∙ sym d) i)

-- ---- lists that receive nothing

nothing : (l : List ℕ) → length l ≡ 0 → l ≡ []
nothing [] e = refl
nothing (x ∷ l) e = absurd (omega (arith, e))

pub delivery-silence : (x : Shares) (p q : Place) (l : Lists) → delivery_of (success x q) l ≡ delivery p (done x silence q) l
delivery-silence x p q l = rw (room_true l silence (λ r. none r))
  where
    none : (r : Receiver) → length (list r silence) ≤ length (list r l)
    none (miner one) = omega arith
    none (miner two) = omega arith
    none (miner three) = omega arith
    none controller = omega arith

-- the controller's list, or miner 1's, may be any list if no word is for it
module _ {S : Type 0} (f : Protocol S Shares) (s : S) (p : Place) (t : Tapes) (a b c d : List ℕ) (o : Outcome) where
  pub controller_kept : {x y z : List ℕ} → ((v : Tapes) → length (list controller (f.received s v)) ≡ 0) → delivery_of o (lists x y z []) ≡ delivery p (perform f s p t) (lists a b c [])
      → delivery_of o (lists x y z d) ≡ delivery p (perform f s p t) (lists a b c d)
  unfolding perform
  controller_kept {x} {y} {z} silent h = by_tapes (enough f.draws p t) refl
    where
      v : Lists
      v = f.received s (block f.draws p t)

      none : v.controller ≡ []
      none = nothing v.controller (silent (block f.draws p t))

      others : Bool
      others = leb (length v.one) (length a) && (leb (length v.two) (length b) && leb (length v.three) (length c))

      keep : Delivery → Delivery
      keep r = delivery_of r.outcome (lists r.lists.one r.lists.two r.lists.three d)

      by_room : enough f.draws p t ≡ true → (i : Bool) → others ≡ i → delivery_of o (lists x y z d) ≡ delivery p (perform f s p t) (lists a b c d)
      by_room e true g =
          let is : delivery_of o (lists x y z []) ≡ delivery_of (success (f.result s (block f.draws p t)) (advance p f.draws)) (with_fronts (lists a b c []) v) = h ∙ rw (e, none, g) in
          ap keep is ∙ sym (rw (e, none, leb-zero, g))
      by_room e false g = let is : delivery_of o (lists x y z []) ≡ delivery_of (failure list_full p) (lists a b c []) = h ∙ rw (e, none, g) in ap keep is ∙ sym (rw (e, none, leb-zero, g))

      by_tapes : (i : Bool) → enough f.draws p t ≡ i → delivery_of o (lists x y z d) ≡ delivery p (perform f s p t) (lists a b c d)
      by_tapes true e = by_room e others refl
      by_tapes false e = let is : delivery_of o (lists x y z []) ≡ delivery_of (failure tape_spent p) (lists a b c []) = h ∙ rw e in ap keep is ∙ sym (rw e)
