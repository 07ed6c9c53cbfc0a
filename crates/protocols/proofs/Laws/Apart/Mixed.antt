-- If two runs by parties apart deliver the same words, so does each run mixed from the two.
use Rattle.std.proofs.Common.{◌≡◌, ℕ, zero, suc, Bool, true, false, cond, List, [], ◌∷◌, ◌++◌, length, take, drop}
use Rattle.std.proofs.Common.{refl, sym, ap, ◌∙◌}
use Rattle.std.proofs.Math.Seq.{take-append_seam, drop-append_seam}
use Rattle.protocols.specs.declared.place.Party.{Party}
use Rattle.protocols.specs.declared.place.Party.TheVariants.{Provider, One, Two, Three}
use Rattle.protocols.specs.declared.shares.Shares.{Shares}
use Rattle.protocols.specs.Shares.{one, two, three, Operands}
use Rattle.protocols.specs.Place.{Tapes, tape, Lists, lists, ◌followed_by◌, Receiver, miner, controller, list}
use Rattle.protocols.specs.Protocol.{Protocol}
use Rattle.protocols.specs.Counts.{count_for}
use Rattle.protocols.specs.Parties.{Process, for_party, in_turn, SentCounts, sent_lengths, Connection, connection, connect, PlayedApart}
use Rattle.protocols.specs.Own.{share, pair, input}
use Rattle.protocols.specs.Apart.{mixed_shares, mixed_operands, mixed_tapes, MixedProtocolRuns}
use Rattle.protocols.proofs.Laws.Apart.Lengths.{list-round, sender, length-sent}

-- ---- the words of a round, in each list

-- equally long fronts of equal lists are equal, and so is what follows them
fronts_alike : {a a' l l' : List ℕ} → length a ≡ length a' → a ++ l ≡ a' ++ l' → (a ≡ a') × (l ≡ l')
fronts_alike {a} {a'} {l} {l'} long same = (
  sym (take-append_seam a l) ∙ (λ k. take (long k) (same k)) ∙ take-append_seam a' l',
  sym (drop-append_seam a l) ∙ (λ k. drop (long k) (same k)) ∙ drop-append_seam a' l',
)

pub by_list : {a b : Lists} → ((q : Receiver) → list q a ≡ list q b) → a ≡ b
by_list e = λ k. lists (e (miner one) k) (e (miner two) k) (e (miner three) k) (e controller k)

-- two rounds of equal lengths, followed by any words: if the lists are equal, so are the words of each sender
module _ (o o' : Party → Lists) (l l' : Lists) (times : sent_lengths o ≡ sent_lengths o')
    (same : in_turn o followed_by l ≡ in_turn o' followed_by l') where
  as_long : (q : Receiver) (j : Party) → length (list q (o j)) ≡ length (list q (o' j))
  as_long q j = sym (length-sent q j o) ∙ ap (λ (t : SentCounts). count_for q (sender j t)) times ∙ length-sent q j o'

  words_alike : (q : Receiver) → ((j : Party) → list q (o j) ≡ list q (o' j)) × (list q l ≡ list q l')
  words_alike q =
      let whole = sym (list-round q o l) ∙ ap (list q) same ∙ list-round q o' l' in
      let provider = fronts_alike (as_long q Provider) whole in
      let one = fronts_alike (as_long q One) provider.1 in
      let two = fronts_alike (as_long q Two) one.1 in
      let three = fronts_alike (as_long q Three) two.1 in
      (elim [ Provider ↦ provider.0 | One ↦ one.0 | Two ↦ two.0 | Three ↦ three.0 ], three.1)

  sends_alike : (j : Party) → o j ≡ o' j
  sends_alike j = by_list (λ q. (words_alike q).0 j)

  later_alike : l ≡ l'
  later_alike = by_list (λ q. (words_alike q).1)

-- ---- four programs, each from one of two sets of four

abbrev first_round : SentCounts → List SentCounts → SentCounts
first_round t [] = t
first_round t (u ∷ times) = u

abbrev later_rounds : List SentCounts → List SentCounts
later_rounds [] = []
later_rounds (t ∷ times) = times

-- what each party has in c or, if `first` is false for it, in c'
abbrev pub mixed : {B : Type 0} → (Party → Bool) → (Party → B) → (Party → B) → Party → B
mixed first c c' i = cond (first i) (c i) (c' i)

module _ {B : Type 0} (first : Party → Bool) where
  pub connect-mixed : (r : ℕ) (p p' : Party → Process r B) → let c = connect r p in let c' = connect r p' in
      c.received ≡ c'.received → c.sent ≡ c'.sent
      → connect r (mixed first p p') ≡ connection (mixed first c.ends c'.ends) c.received c.sent
  unfolding connect
  connect-mixed zero p p' e t = refl
  connect-mixed (suc r) p p' e t =
      let o = λ (i : Party). (p i).sends in
      let o' = λ (i : Party). (p' i).sends in
      let q = λ (i : Party). (p i).next (λ j. for_party i (o j)) in
      let q' = λ (i : Party). (p' i).next (λ j. for_party i (o' j)) in
      let c = connect r q in
      let c' = connect r q' in
      let times = ap (first_round (sent_lengths o)) t in
      let alike : (i : Party) → o i ≡ o' i = sends_alike o o' c.received c'.received times e in
      let four = mixed first p p' in
      let sends : (i : Party) → (four i).sends ≡ o i =
      λ i. elim (first i) as (λ b. (cond b (p i) (p' i)).sends ≡ o i) [ true ↦ refl | false ↦ sym (alike i) ] in
      let goes_on : (i : Party) → (four i).next (λ j. for_party i (o j)) ≡ mixed first q q' i =
      λ i. elim (first i) as (λ b. (cond b (p i) (p' i)).next (λ j. for_party i (o j)) ≡ cond b (q i) (q' i))
      [ true ↦ refl | false ↦ λ k. (p' i).next (λ j. for_party i (alike j k)) ] in
      let later : connect r (λ i. (four i).next (λ j. for_party i ((four j).sends))) ≡ connect r (mixed first q q') =
      ap (connect r) (λ k i. (four i).next (λ j. for_party i (sends j k))) ∙ ap (connect r) (λ k i. goes_on i k) in
      let before = λ (s : Party → Lists) (d : Connection B).
      connection d.ends (in_turn s followed_by d.received) (sent_lengths s ∷ d.sent) in
      (λ k. before (λ i. sends i k) (later k))
      ∙ ap (before o)
      (connect-mixed r q q' (later_alike o o' c.received c'.received times e) (ap later_rounds t))

-- ---- a protocol

pub tape-mixed : (first : Party → Bool) (b b' : Tapes) (i : Party)
    → tape i (mixed_tapes first b b') ≡ mixed first (λ j. tape j b) (λ j. tape j b') i
tape-mixed first b b' = elim [ Provider ↦ refl | One ↦ refl | Two ↦ refl | Three ↦ refl ]

-- the runs from s, from s', and from u, in which each party has its part of s or of s'
module _ {S A : Type 0} {f : Protocol S Shares} {part : Party → S → A} (F : PlayedApart f part share)
    (first : Party → Bool) (s s' u : S) (its : (i : Party) → part i u ≡ mixed first (λ j. part j s) (λ j. part j s') i)
    (b b' : Tapes) where
  abbrev t : Tapes
  t = mixed_tapes first b b'

  abbrev program : Party → A → List ℕ → Process F.rounds ℕ
  program = F.program

  abbrev four : S → Tapes → Party → Process F.rounds ℕ
  four x w i = program i (part i x) (tape i w)

  four-mixed : (i : Party) → four u t i ≡ mixed first (four s b) (four s' b') i
  four-mixed i =
      (λ k. program i (its i k) (tape-mixed first b b' i k))
      ∙ elim (first i) as (λ c. program i (cond c (part i s) (part i s')) (cond c (tape i b) (tape i b'))
      ≡ cond c (four s b i) (four s' b' i)) [ true ↦ refl | false ↦ refl ]

  whole : f.received s b ≡ f.received s' b'
      → connection (λ i. share i (f.result u t)) (f.received u t) F.timetable
      ≡ connection (mixed first (λ i. share i (f.result s b)) (λ i. share i (f.result s' b')))
      (f.received s b) F.timetable
  whole same =
      let one = F.plays s b in
      let other = F.plays s' b' in
      sym (F.plays u t)
      ∙ ap (connect F.rounds) (λ k i. four-mixed i k)
      ∙ connect-mixed first F.rounds (four s b) (four s' b')
      (ap (λ (c : Connection ℕ). c.received) one ∙ same ∙ sym (ap (λ (c : Connection ℕ). c.received) other))
      (ap (λ (c : Connection ℕ). c.sent) one ∙ sym (ap (λ (c : Connection ℕ). c.sent) other))
      ∙ (λ k. connection (mixed first (one k).ends (other k).ends) (one k).received (one k).sent)

  received-mixed : f.received s b ≡ f.received s' b' → f.received u t ≡ f.received s b
  received-mixed same = ap (λ (c : Connection ℕ). c.received) (whole same)

  result_mixed : f.received s b ≡ f.received s' b' → f.result u t ≡ mixed_shares first (f.result s b) (f.result s' b')
  result_mixed same = λ k. let e = (whole same k).ends in record { one = e One; two = e Two; three = e Three }

runs_mixed : {S A : Type 0} {f : Protocol S Shares} {part : Party → S → A} {mix : (Party → Bool) → S → S → S}
    → ((first : Party → Bool) (s s' : S) (i : Party)
    → part i (mix first s s') ≡ mixed first (λ j. part j s) (λ j. part j s') i)
    → PlayedApart f part share → MixedProtocolRuns f mix
runs_mixed {mix = mix} its F = record {
  received = λ first s s' b b'. received-mixed F first s s' (mix first s s') (its first s s') b b';
  result = λ first s s' b b'. result_mixed F first s s' (mix first s s') (its first s s') b b';
}

-- a party that has nothing has 0 in both
nothing : (first : Bool) → ◌≡◌ {A = ℕ} 0 (cond first 0 0)
nothing true = refl
nothing false = refl

share_mixed : (first : Party → Bool) (s s' : Shares) (i : Party)
    → share i (mixed_shares first s s') ≡ mixed first (λ j. share j s) (λ j. share j s') i
share_mixed first s s' Provider = nothing (first Provider)
share_mixed first s s' One = refl
share_mixed first s s' Two = refl
share_mixed first s s' Three = refl

pub mixed_of_input : (f : Protocol ℕ Shares) → PlayedApart f input share
    → MixedProtocolRuns f (λ first v v'. cond (first Provider) v v')
mixed_of_input f =
    runs_mixed λ first v v'.
    elim [ Provider ↦ refl | One ↦ nothing (first One) | Two ↦ nothing (first Two) | Three ↦ nothing (first Three) ]

pub mixed_of_shares : (f : Protocol Shares Shares) → PlayedApart f share share → MixedProtocolRuns f mixed_shares
mixed_of_shares f = runs_mixed share_mixed

pub mixed_of_operands : (f : Protocol Operands Shares) → PlayedApart f pair share → MixedProtocolRuns f mixed_operands
mixed_of_operands f =
    runs_mixed λ first x x' i.
    (λ k. record { u = share_mixed first x.u x'.u i k; v = share_mixed first x.v x'.v i k })
    ∙ elim (first i) as (λ c. let its = λ (a b : Shares). cond c (share i a) (share i b) in
    record { u = its x.u x'.u; v = its x.v x'.v } ≡ cond c (pair i x) (pair i x')) [ true ↦ refl | false ↦ refl ]
