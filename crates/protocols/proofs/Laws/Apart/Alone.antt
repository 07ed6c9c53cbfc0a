-- A party by itself, on its received list, does what it does when it is connected with the others.
use Rattle.std.proofs.Common.{◌≡◌, ℕ, zero, suc, List, ◌∷◌, ◌++◌, length, take, drop, refl, sym, ap, ◌∙◌, ◌+◌}
use Rattle.std.proofs.lemmas.List.{append_assoc, drop-drop}
use Rattle.std.proofs.Math.Seq.{take-append_seam, drop-append_seam}
use Rattle.protocols.specs.declared.place.Party.{Party}
use Rattle.protocols.specs.declared.place.Party.TheVariants.{Provider, One, Two, Three}
use Rattle.protocols.specs.Place.{Lists, ◌followed_by◌}
use Rattle.protocols.specs.Counts.{list_lengths}
use Rattle.protocols.specs.Parties.{Messages, Process, for_party, in_turn, sent_lengths, connect}
use Rattle.protocols.specs.Alone.{number_for, sent_to, behind, in_front, Alone, alone, sends_of, words_sent, Agree}
use Rattle.protocols.specs.Apart.{ByItself}
use Rattle.protocols.proofs.Laws.Apart.Compose.{by_party}

-- ---- a round's words in front of a list

for-followed : (i : Party) (o : Party → Lists) (l : Lists)
    → let w = λ (j : Party). for_party i (o j) in
    for_party i (in_turn o followed_by l) ≡ w Provider ++ (w One ++ (w Two ++ (w Three ++ for_party i l)))
for-followed Provider o l = refl
for-followed One o l = simp append_assoc
for-followed Two o l = simp append_assoc
for-followed Three o l = simp append_assoc

number-length : (i : Party) (l : Lists) → number_for i (list_lengths l) ≡ length (for_party i l)
number-length Provider l = refl
number-length One l = refl
number-length Two l = refl
number-length Three l = refl

take-front : {n : ℕ} {m : List ℕ} (a l : List ℕ) → n ≡ length a → m ≡ a ++ l → take n m ≡ a
take-front a l e f = rw (e, f) (take-append_seam a l)

drop-front : {n : ℕ} {m : List ℕ} (a l : List ℕ) → n ≡ length a → m ≡ a ++ l → drop n m ≡ l
drop-front a l e f = rw (e, f) (drop-append_seam a l)

-- the same after words that are already dropped
drop-two_fronts : (k n : ℕ) (m a l : List ℕ) → n ≡ length a → drop k m ≡ a ++ l → drop (k + n) m ≡ l
drop-two_fronts k n m a l e f = sym (drop-drop n k m) ∙ drop-front a l e f

module _ (i : Party) (o : Party → Lists) (l : Lists) where
  abbrev its : Party → List ℕ
  its j = for_party i (o j)

  abbrev all : List ℕ
  all = for_party i (in_turn o followed_by l)

  abbrev number : Party → ℕ
  number = sent_to i (sent_lengths o)

  past_provider : drop (number Provider) all ≡ its One ++ (its Two ++ (its Three ++ for_party i l))
  past_provider = drop-front (its Provider) _ (number-length i (o Provider)) (for-followed i o l)

  past_one : drop (number Provider + number One) all ≡ its Two ++ (its Three ++ for_party i l)
  past_one = drop-two_fronts _ _ _ (its One) _ (number-length i (o One)) past_provider

  past_two : drop (number Provider + number One + number Two) all ≡ its Three ++ for_party i l
  past_two = drop-two_fronts _ _ _ (its Two) _ (number-length i (o Two)) past_one

  past_three : behind (sent_to i (sent_lengths o)) all ≡ for_party i l
  past_three = drop-two_fronts _ _ _ (its Three) _ (number-length i (o Three)) past_two

  its_mail : in_front (sent_to i (sent_lengths o)) all ≡ its
  its_mail =
      by_party (take-front (its Provider) _ (number-length i (o Provider)) (for-followed i o l))
      (take-front (its One) _ (number-length i (o One)) past_provider)
      (take-front (its Two) _ (number-length i (o Two)) past_one)
      (take-front (its Three) _ (number-length i (o Three)) past_two)

-- ---- a party by itself

pub alone_is : {B : Type 0} (r : ℕ) (p : Party → Process r B) (i : Party) → let c = connect r p in
    alone B r i c.sent (p i) (for_party i c.received) ≡ record { ends = c.ends i; sends = sends_of B r p i }
unfolding connect alone sends_of
alone_is zero p i = refl
alone_is {B = B} (suc r) p i =
    let o = λ (j : Party). (p j).sends in
    let p' = λ (j : Party). (p j).next (λ k. for_party j (o k)) in
    let c = connect r p' in
    (λ k. let a = alone B r i c.sent ((p i).next (its_mail i o c.received k)) (past_three i o c.received k) in
    record { ends = a.ends; sends = o i ∷ a.sends })
    ∙ ap (λ (a : Alone B). record { ends = a.ends; sends = o i ∷ a.sends }) (alone_is r p' i)

-- the lists of the connected programs agree with what each sends
words_sent-sends : (B : Type 0) (r : ℕ) (p : Party → Process r B) → (connect r p).received ≡ words_sent r (sends_of B r p)
unfolding connect sends_of words_sent
words_sent-sends B zero p = refl
words_sent-sends B (suc r) p =
    let o = λ (j : Party). (p j).sends in
    ap (λ w. in_turn o followed_by w) (words_sent-sends B r (λ j. (p j).next (λ k. for_party j (o k))))

agrees : (B : Type 0) (r : ℕ) (p : Party → Process r B)
    → let c = connect r p in Agree B r c.sent p c.received
agrees B r p = words_sent-sends B r p ∙ ap (words_sent r) (λ k i. (sym (alone_is r p i) k).sends)

-- and no other lists do
pub agree_only : (B : Type 0) (r : ℕ) (p : Party → Process r B) (w : Lists)
    → let c = connect r p in Agree B r c.sent p w → w ≡ c.received
unfolding connect alone words_sent
agree_only B zero p w e = e
agree_only B (suc r) p w e =
    let o = λ (j : Party). (p j).sends in
    let p' = λ (j : Party). (p j).next (λ k. for_party j (o k)) in
    let c = connect r p' in
    let its = λ (i : Party). sent_to i (sent_lengths o) in
    let later = λ (i : Party) (mail : Messages) (l : List ℕ). (alone B r i c.sent ((p i).next mail) l).sends in
    let sends = λ (i : Party) (l : List ℕ). later i (in_front (its i) l) (behind (its i) l) in
    let v = words_sent r (λ i. sends i (for_party i w)) in
    let same : (i : Party) → sends i (for_party i w) ≡ (alone B r i c.sent (p' i) (for_party i v)).sends =
    λ i. ap (λ (x : Lists). sends i (for_party i x)) e ∙ (λ k. later i (its_mail i o v k) (past_three i o v k)) in
    e ∙ ap (λ x. in_turn o followed_by x) (agree_only B r p' v (ap (words_sent r) (λ k i. same i k)))

pub by_itself : {B : Type 0} (r : ℕ) (p : Party → Process r B) → ByItself B r p
by_itself {B = B} r p = record { alike = alone_is r p; agree = agrees B r p; only = agree_only B r p }
