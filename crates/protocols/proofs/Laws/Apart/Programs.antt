-- The parts from which the parties' programs are built.
use Rattle.std.specs.Prelude.{ℕ, zero, suc, List, [], slice_index}
use Rattle.protocols.specs.declared.place.Party.{Party}
use Rattle.protocols.specs.declared.place.Party.TheVariants.{Provider, One, Two, Three}
use Rattle.protocols.specs.declared.place.Received.{Received}
use Rattle.protocols.specs.declared.shares.Shares.{Shares}
use Rattle.protocols.specs.Shares.{Miner, one, two, three, prev}
use Rattle.protocols.specs.Place.{Lists, lists, silence, owner}
use Rattle.protocols.specs.Counts.{received_counts}
use Rattle.protocols.specs.Parties.{Messages, Process, SentCounts}

-- a round, and then what comes after it
abbrev pub round : (B : Type 0) (r : ℕ) → Lists → (Messages → Process r B) → Process (suc r) B
round B r o k = record { sends = o; next = k }

-- word k of a list
abbrev pub nth : ℕ → List ℕ → ℕ
nth k l = slice_index l k

-- the provider does nothing and ends with x
abbrev idle : {B : Type 0} (r : ℕ) → B → Process r B
idle zero x = x
idle (suc r) x = record { sends = silence; next = λ m. idle r x }

-- three miners' programs and an idle provider
abbrev pub miners : {A B : Type 0} (r : ℕ) → B → (Miner → A → List ℕ → Process r B) → Party → A → List ℕ → Process r B
miners r x p Provider a l = idle r x
miners r x p One a l = p one a l
miners r x p Two a l = p two a l
miners r x p Three a l = p three a l

-- what miners compute from their own shares, with no word sent
abbrev pub by_miner : {A : Type 0} → (Miner → A → ℕ) → Party → A → ℕ
by_miner f Provider a = 0
by_miner f One a = f one a
by_miner f Two a = f two a
by_miner f Three a = f three a

-- the share of the previous miner, once it has sent it
abbrev pub previous : Party → Shares → ℕ
previous Provider s = 0
previous One s = s.three
previous Two s = s.one
previous Three s = s.two

-- words for the next miner, for miners 2 and 3, for the controller; and what the previous miner sends
abbrev pub for_next : Miner → List ℕ → Lists
for_next one l = lists [] l [] []
for_next two l = lists [] [] l []
for_next three l = lists l [] [] []

abbrev pub for_two_three : List ℕ → List ℕ → Lists
for_two_three k l = lists [] k l []

abbrev pub for_controller : List ℕ → Lists
for_controller l = lists [] [] [] l

abbrev pub from_previous : Miner → Messages → List ℕ
from_previous i m = m (owner (prev i))

-- ---- timetables: a round in which the provider or the miners send these numbers of words

abbrev pub none : Received
none = received_counts 0 0 0 0

abbrev pub provider_sends : Received → SentCounts
provider_sends k = record { provider = k; one = none; two = none; three = none }

abbrev pub miners_send : Received → Received → Received → SentCounts
miners_send a b c = record { provider = none; one = a; two = b; three = c }

abbrev pub each_next : ℕ → SentCounts
each_next k = miners_send (received_counts 0 k 0 0) (received_counts 0 0 k 0) (received_counts k 0 0 0)

abbrev pub one_deals : ℕ → SentCounts
one_deals k = miners_send (received_counts 0 k k 0) none none
