-- One party by itself, on its received list, with nobody to send to it.
use Rattle.std.specs.Prelude.{ℕ, ◌≡◌, zero, suc, ◌+◌, List, [], ◌∷◌, take, drop}
use Rattle.protocols.specs.declared.place.Party.{Party}
use Rattle.protocols.specs.declared.place.Party.TheVariants.{Provider, One, Two, Three}
use Rattle.protocols.specs.declared.place.Received.{Received}
use Rattle.protocols.specs.Place.{Lists, silence, ◌followed_by◌}
use Rattle.protocols.specs.Parties.{Messages, Process, for_party, in_turn, SentCounts}

-- ---- a party's received list, round by round

-- how many of the counted words are for a party
abbrev pub number_for : Party → Received → ℕ
number_for Provider k = 0
number_for One k = k.one
number_for Two k = k.two
number_for Three k = k.three

-- how many words each party sends to party i in a round
abbrev pub sent_to : Party → SentCounts → Party → ℕ
sent_to i t Provider = number_for i t.provider
sent_to i t One = number_for i t.one
sent_to i t Two = number_for i t.two
sent_to i t Three = number_for i t.three

-- a round's messages from the front of a list, k words of each sender: the provider's, then those of miners 1, 2, 3
abbrev pub in_front : (Party → ℕ) → List ℕ → Messages
in_front k l Provider = take (k Provider) l
in_front k l One = take (k One) (drop (k Provider) l)
in_front k l Two = take (k Two) (drop (k Provider + k One) l)
in_front k l Three = take (k Three) (drop (k Provider + k One + k Two) l)

-- the list after them
abbrev pub behind : (Party → ℕ) → List ℕ → List ℕ
behind k l = drop (k Provider + k One + k Two + k Three) l

-- ---- the party

-- what it ends with, and what it sends, round by round
pub record Alone (B : Type 0) : Type 0 where
  pub ends : B
  pub sends : List Lists

-- party i's program on the list l of its received words, which the timetable divides into rounds
unfoldable pub alone : (B : Type 0) (r : ℕ) → Party → List SentCounts → Process r B → List ℕ → Alone B
alone B zero i times p l = record { ends = p; sends = [] }
alone B (suc r) i [] p l =
    let a = alone B r i [] (p.next (λ j. [])) l in
    record { ends = a.ends; sends = p.sends ∷ a.sends }
alone B (suc r) i (t ∷ times) p l =
    let k = sent_to i t in
    let a = alone B r i times (p.next (in_front k l)) (behind k l) in
    record { ends = a.ends; sends = p.sends ∷ a.sends }

-- what party i sends, round by round, when it is connected with the others
unfoldable pub sends_of : (B : Type 0) (r : ℕ) → (Party → Process r B) → Party → List Lists
sends_of B zero p i = []
sends_of B (suc r) p i = (p i).sends ∷ sends_of B r (λ j. (p j).next (λ k. for_party j (p k).sends)) i

-- ---- received lists that agree with what is sent

-- what a party sends in its first round; nothing if there is none
abbrev pub first_round : List Lists → Lists
first_round [] = silence
first_round (o ∷ l) = o

-- what it sends in the rounds after that
abbrev pub later_rounds : List Lists → List Lists
later_rounds [] = []
later_rounds (o ∷ l) = l

-- what the four send in r rounds, as received lists
unfoldable pub words_sent : ℕ → (Party → List Lists) → Lists
words_sent zero s = silence
words_sent (suc r) s = in_turn (λ i. first_round (s i)) followed_by words_sent r (λ i. later_rounds (s i))

-- the received lists w hold exactly what the four send, each by itself on its list of w
abbrev pub Agree : (B : Type 0) (r : ℕ) → List SentCounts → (Party → Process r B) → Lists → Type 0
Agree B r times p w = w ≡ words_sent r (λ i. (alone B r i times (p i) (for_party i w)).sends)
