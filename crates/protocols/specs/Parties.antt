-- Parties apart: one party's program, four parties connected, a protocol that they play; Specification: Parties apart
use Rattle.std.specs.Prelude.{◌≡◌, ℕ, zero, suc, List, [], ◌∷◌}
use Rattle.protocols.specs.declared.place.Party.{Party}
use Rattle.protocols.specs.declared.place.Party.TheVariants.{Provider, One, Two, Three}
use Rattle.protocols.specs.declared.place.Received.{Received}
use Rattle.protocols.specs.Place.{Tapes, tape, Lists, silence, ◌followed_by◌}
use Rattle.protocols.specs.Protocol.{Protocol}
use Rattle.protocols.specs.Counts.{list_lengths}

-- ---- a party

-- what a party receives in a round, by sender
abbrev pub Messages : Type 0
Messages = Party → List ℕ

-- A party's program of r rounds, which ends with a B. In each round the party sends words and then goes on with what it
-- receives. By this type it knows nothing else of the other parties.
abbrev pub Process : ℕ → Type 0 → Type 0
Process zero B = B
Process (suc r) B = record { sends : Lists; next : Messages → Process r B }

-- the words that are for a party; the provider receives none
abbrev pub for_party : Party → Lists → List ℕ
for_party Provider l = []
for_party One l = l.one
for_party Two l = l.two
for_party Three l = l.three

-- ---- four parties

-- a round's words: in each list the provider's come first, then those of miners 1, 2, 3
abbrev pub in_turn : (Party → Lists) → Lists
in_turn o = o Provider followed_by o One followed_by o Two followed_by o Three

-- how many words each party sends to each list in a round
pub record SentCounts : Type 0 where
  pub provider : Received
  pub one : Received
  pub two : Received
  pub three : Received

-- these counts, from the words that the parties send
abbrev pub sent_lengths : (Party → Lists) → SentCounts
sent_lengths o = record {
  provider = list_lengths (o Provider);
  one = list_lengths (o One);
  two = list_lengths (o Two);
  three = list_lengths (o Three);
}

-- what each party ends with, the received lists, and how many words were sent, round by round
pub record Connection (B : Type 0) : Type 0 where
  pub ends : Party → B
  pub received : Lists
  pub sent : List SentCounts

-- a Connection from its three fields
abbrev pub connection : {B : Type 0} → (Party → B) → Lists → List SentCounts → Connection B
connection e l t = record { ends = e; received = l; sent = t }

-- four programs together: in each round a party receives the words that are for it, and nothing else
unfoldable pub connect : {B : Type 0} (r : ℕ) → (Party → Process r B) → Connection B
connect zero p = connection p silence []
connect (suc r) p =
    let o = λ (i : Party). (p i).sends in
    let c = connect r (λ i. (p i).next (λ j. for_party i (o j))) in
    connection c.ends (in_turn o followed_by c.received) (sent_lengths o ∷ c.sent)

-- ---- a protocol

-- A protocol is played apart if each party has a program, fixed in advance, that is made of what this party alone has
-- before the protocol and of its own drawn words. Connected, the four end with what each is to have of the result, and
-- every list receives the protocol's words. How many words each sends to each, round by round, is fixed in advance too,
-- so that neither the length of a message nor its round reveals anything; Specification: Parties apart
pub record PlayedApart {S T A B : Type 0} (f : Protocol S T) (before : Party → S → A) (after : Party → T → B)
    : Type 0 where
  pub rounds : ℕ
  pub timetable : List SentCounts
  pub program : Party → A → List ℕ → Process rounds B
  pub plays : (s : S) (b : Tapes)
      → connect rounds (λ i. program i (before i s) (tape i b))
      ≡ connection (λ i. after i (f.result s b)) (f.received s b) timetable
