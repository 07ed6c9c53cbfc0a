-- A protocol made of parts that are played apart is played apart.
use Rattle.std.proofs.Common.{◌≡◌, ℕ, zero, suc, [], ◌∷◌, ◌++◌, take, drop, refl, sym, ap, ◌∙◌}
use Rattle.std.proofs.lemmas.List.{append_assoc, append-nil}
use Rattle.protocols.specs.declared.place.Party.{Party}
use Rattle.protocols.specs.declared.place.Party.TheVariants.{Provider, One, Two, Three}
use Rattle.protocols.specs.declared.place.Drawn.{Drawn}
use Rattle.protocols.specs.Place.{Tapes, tape, Lists, silence, ◌followed_by◌, count, cut, rest}
use Rattle.protocols.specs.Protocol.{Protocol, locally, from_part, ◌then◌, with_rounds}
use Rattle.protocols.specs.Parties.{Process, for_party, in_turn, sent_lengths, Connection, connection, connect, PlayedApart}

-- r rounds and k more
abbrev more : ℕ → ℕ → ℕ
more zero k = k
more (suc r) k = suc (more r k)

-- one program, and then another from what the first one ends with
abbrev bind : (A B : Type 0) (r k : ℕ) → Process r A → (A → Process k B) → Process (more r k) B
bind A B zero k p q = q p
bind A B (suc r) k p q = record { sends = p.sends; next = λ m. bind A B r k (p.next m) q }

-- functions that agree at each party are equal
pub by_party : {B : Type 0} {f g : Party → B}
    → f Provider ≡ g Provider → f One ≡ g One → f Two ≡ g Two → f Three ≡ g Three → f ≡ g
by_party {f = f} {g = g} a b c d = λ i p. same p i
  where
    same : (p : Party) → f p ≡ g p
    same Provider = a
    same One = b
    same Two = c
    same Three = d

-- equal ends, lists and timetables make equal connections
pub alike : {B : Type 0} {c d : Connection B} → c.ends Provider ≡ d.ends Provider → c.ends One ≡ d.ends One
    → c.ends Two ≡ d.ends Two → c.ends Three ≡ d.ends Three → c.received ≡ d.received → c.sent ≡ d.sent → c ≡ d
alike {c = c} {d = d} p q r s e t = λ k. connection (by_party {f = c.ends} {g = d.ends} p q r s k) (e k) (t k)

followed_by_assoc : (a b c : Lists) → (a followed_by b) followed_by c ≡ a followed_by (b followed_by c)
followed_by_assoc a b c = simp append_assoc

followed_by_silence : (a : Lists) → a followed_by silence ≡ a
followed_by_silence a = simp append-nil

-- ---- one part after the other

-- two connected parts in sequence
abbrev sequence : {A B : Type 0} → Connection A → ((Party → A) → Connection B) → Connection B
sequence c d = connection (d c.ends).ends (c.received followed_by (d c.ends).received) (c.sent ++ (d c.ends).sent)

connect-bind : {A B : Type 0} (r k : ℕ) (p : Party → Process r A) (q : Party → A → Process k B)
    → connect (more r k) (λ i. bind _ _ r k (p i) (q i)) ≡ sequence (connect r p) (λ e. connect k (λ i. q i (e i)))
unfolding connect
connect-bind zero k p q = refl
connect-bind (suc r) k p q =
    let o = in_turn (λ i. (p i).sends) in
    let t = sent_lengths (λ i. (p i).sends) in
    let p' = λ (i : Party). (p i).next (λ j. for_party i (p j).sends) in
    let c = connect r p' in
    let d = connect k (λ i. q i (c.ends i)) in
    ap (λ x. connection x.ends (o followed_by x.received) (t ∷ x.sent)) (connect-bind r k p' q)
    ∙ ap (λ l. connection d.ends l (t ∷ (c.sent ++ d.sent))) (sym (followed_by_assoc o c.received d.received))

-- a party's words in the first part of a block, and in the rest
tape-cut : (n : Drawn) (b : Tapes) (i : Party) → tape i (cut n b) ≡ take (count i n) (tape i b)
tape-cut n b Provider = refl
tape-cut n b One = refl
tape-cut n b Two = refl
tape-cut n b Three = refl

pub tape-rest : (n : Drawn) (b : Tapes) (i : Party) → tape i (rest n b) ≡ drop (count i n) (tape i b)
tape-rest n b Provider = refl
tape-rest n b One = refl
tape-rest n b Two = refl
tape-rest n b Three = refl

pub apart_then : {S T Z A B C : Type 0} {f : Protocol S T} {g : Protocol T Z}
    {before : Party → S → A} {mid : Party → T → B} {after : Party → Z → C}
    → PlayedApart f before mid → PlayedApart g mid after → PlayedApart (f then g) before after
unfolding ◌then◌
apart_then {B = B} {C = C} {f = f} {g = g} {before = before} {mid = mid} F G = record {
  rounds = more F.rounds G.rounds;
  timetable = F.timetable ++ G.timetable;
  program = λ i a l.
      let first = F.program i a (take (count i f.draws) l) in
      bind _ _ F.rounds G.rounds first (λ x. G.program i x (drop (count i f.draws) l));
  plays = λ s b.
      let p = λ (i : Party). F.program i (before i s) (take (count i f.draws) (tape i b)) in
      let q = λ (i : Party) (x : B). G.program i x (drop (count i f.draws) (tape i b)) in
      let t = f.result s (cut f.draws b) in
      let first = ap (connect F.rounds) (λ k i. F.program i (before i s) (sym (tape-cut f.draws b i) k)) in
      let second = ap (connect G.rounds) (λ k i. G.program i (mid i t) (sym (tape-rest f.draws b i) k)) in
      connect-bind F.rounds G.rounds p q
      ∙ ap (λ (c : Connection B). sequence c (λ e. connect G.rounds (λ i. q i (e i)))) (first ∙ F.plays s (cut f.draws b))
      ∙ ap (λ (c : Connection C).
      connection c.ends (f.received s (cut f.draws b) followed_by c.received) (F.timetable ++ c.sent))
      (second ∙ G.plays t (rest f.draws b));
}

-- f, and then the first k rounds of g
pub apart-with_rounds : {S T A B : Type 0} {f : Protocol S T} {g : ℕ → Protocol T T}
    {before : Party → S → A} {after : Party → T → B}
    → PlayedApart f before after → ((k : ℕ) → PlayedApart (g k) after after)
    → (k : ℕ) → PlayedApart (with_rounds f g k) before after
apart-with_rounds F G zero = F
apart-with_rounds F G (suc k) = apart_then (apart-with_rounds F G k) (G k)

pub then_received : {S T Z : Type 0} (f : Protocol S T) (g : Protocol T Z) (s : S) (b : Tapes)
    → (f then g).received s b
    ≡ f.received s (cut f.draws b) followed_by g.received (f.result s (cut f.draws b)) (rest f.draws b)
unfolding ◌then◌
then_received f g s b = refl

-- ---- a single part

-- a step that sends nothing, done by each party on what it has
pub apart-locally : {S T A B : Type 0} {g : S → T} {before : Party → S → A} {after : Party → T → B} (h : Party → A → B)
    → ((i : Party) (s : S) → h i (before i s) ≡ after i (g s)) → PlayedApart (locally g) before after
unfolding connect
apart-locally h e = record {
  rounds = 0;
  timetable = [];
  program = λ i a l. h i a;
  plays = λ s b k. connection (λ i. e i s k) silence [];
}

-- words that are drawn and not used
pub apart-unused : {S A : Type 0} (before : Party → S → A) (d : Drawn)
    → PlayedApart (record { draws = d; result = λ s b. s; received = λ s b. silence }) before before
unfolding connect
apart-unused before d = record { rounds = 0; timetable = []; program = λ i a l. a; plays = λ s b. refl }

-- ---- a protocol within a larger step

-- A larger step in which each party plays f on a part of what it has, and ends with something made of what it had and
-- of what f leaves it.
pub apart-within : {S T V Z A B C D : Type 0} {f : Protocol T V} {g : Protocol S Z}
    {before : Party → S → A} {mid : Party → T → B} {made : Party → V → C} {after : Party → Z → D}
    (part : S → T) (pick : Party → A → B) (keep : Party → A → C → D)
    → ((i : Party) (s : S) → pick i (before i s) ≡ mid i (part s))
    → ((i : Party) (s : S) (b : Tapes) → keep i (before i s) (made i (f.result (part s) b)) ≡ after i (g.result s b))
    → ((s : S) (b : Tapes) → g.received s b ≡ f.received (part s) b)
    → PlayedApart f mid made → PlayedApart g before after
unfolding connect
apart-within {C = C} {f = f} {g = g} {before = before} part pick keep picked kept heard F = record {
  rounds = more F.rounds 0;
  timetable = F.timetable ++ [];
  program = λ i a l. bind _ _ F.rounds 0 (F.program i (pick i a) l) (keep i a);
  plays = λ s b.
      let p = λ (i : Party). F.program i (pick i (before i s)) (tape i b) in
      let q = λ (i : Party). keep i (before i s) in
      let words = followed_by_silence (f.received (part s) b) ∙ sym (heard s b) in
      connect-bind F.rounds 0 p q
      ∙ ap (λ (c : Connection C). sequence c (λ e. connect 0 (λ i. q i (e i))))
      (ap (connect F.rounds) (λ k i. F.program i (picked i s k) (tape i b)) ∙ F.plays (part s) b)
      ∙ (λ k. connection (λ i. kept i s b k) (words k) (F.timetable ++ []));
}

-- f on a part of what is held, which each party finds in what it has
pub apart-from_part : {S T Z A B C : Type 0} {part : S → T} {f : Protocol T Z}
    {before : Party → S → A} {mid : Party → T → B} {after : Party → Z → C} (pick : A → B)
    → ((i : Party) (s : S) → pick (before i s) ≡ mid i (part s))
    → PlayedApart f mid after → PlayedApart (from_part part f) before after
apart-from_part {part = part} pick picked =
    apart-within part (λ i. pick) (λ i a c. c) picked (λ i s b. refl) (λ s b. refl)
