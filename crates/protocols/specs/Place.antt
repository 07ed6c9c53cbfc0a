-- Tapes, received lists, the place record and draws; Specification: Lent lists; Specification: Place record
use Rattle.std.specs.Prelude.{ℕ, ◌+◌, ◌-◌, nat_le, Bool, cond, ◌&&◌, Option, Some, None}
use Rattle.std.specs.Prelude.{List, [], ◌∷◌, ◌++◌, length, take, drop, slice_index}
use Rattle.protocols.specs.declared.place.Party.{Party}
use Rattle.protocols.specs.declared.place.Party.TheVariants.{Provider, One, Two, Three}
use Rattle.protocols.specs.declared.place.Drawn.{Drawn}
use Rattle.protocols.specs.declared.place.Place.{Place}
use Rattle.protocols.specs.declared.shares.Shares.{Shares}
use Rattle.protocols.specs.Shares.{Miner, one, two, three}

-- ---- tapes; Specification: Lent lists

-- the random words of the provider and of the three miners
pub record Tapes : Type 0 where
  pub provider : List ℕ
  pub one : List ℕ
  pub two : List ℕ
  pub three : List ℕ

-- four lists as the tapes of the provider and miners 1, 2, 3
abbrev pub tapes : List ℕ → List ℕ → List ℕ → List ℕ → Tapes
tapes p a b c = record { provider = p; one = a; two = b; three = c }

-- a party's tape
abbrev pub tape : Party → Tapes → List ℕ
tape Provider t = t.provider
tape One t = t.one
tape Two t = t.two
tape Three t = t.three

-- a miner as a party
abbrev pub owner : Miner → Party
owner one = One
owner two = Two
owner three = Three

-- word k of miner i's tape
abbrev pub word : Tapes → Miner → ℕ → ℕ
word t i k = slice_index (tape (owner i) t) k

-- word k of each miner's tape
abbrev pub words : Tapes → ℕ → Shares
words t k = record { one = word t one k; two = word t two k; three = word t three k }

-- ---- counts of words, by tape

-- four numbers as the counts of the provider and miners 1, 2, 3
abbrev pub counts : ℕ → ℕ → ℕ → ℕ → Drawn
counts p a b c = record { provider = p; one = a; two = b; three = c }

-- the count of a party
abbrev pub count : Party → Drawn → ℕ
count Provider n = n.provider
count One n = n.one
count Two n = n.two
count Three n = n.three

-- the sum of two counts, tape by tape
abbrev pub plus : Drawn → Drawn → Drawn
plus n k = counts (n.provider + k.provider) (n.one + k.one) (n.two + k.two) (n.three + k.three)

-- the first n words of each tape
abbrev pub cut : Drawn → Tapes → Tapes
cut n t = tapes (take n.provider t.provider) (take n.one t.one) (take n.two t.two) (take n.three t.three)

-- the words after the first n of each tape
abbrev pub rest : Drawn → Tapes → Tapes
rest n t = tapes (drop n.provider t.provider) (drop n.one t.one) (drop n.two t.two) (drop n.three t.three)

-- ---- received lists; Specification: Received words

-- the words that the three miners and the controller receive
pub record Lists : Type 0 where
  pub one : List ℕ
  pub two : List ℕ
  pub three : List ℕ
  pub controller : List ℕ

-- four lists as those of miners 1, 2, 3 and the controller
abbrev pub lists : List ℕ → List ℕ → List ℕ → List ℕ → Lists
lists a b c d = record { one = a; two = b; three = c; controller = d }

-- the parties that receive words; Specification: Parties
pub data Receiver : Type 0 where
  miner : Miner → Receiver
  controller : Receiver

-- the words of a receiver
abbrev pub list : Receiver → Lists → List ℕ
list (miner one) l = l.one
list (miner two) l = l.two
list (miner three) l = l.three
list controller l = l.controller

-- no words
abbrev pub silence : Lists
silence = lists [] [] [] []

-- the words of a, then those of b, list by list
infixr 60 ◌followed_by◌
abbrev pub ◌followed_by◌ : Lists → Lists → Lists
◌followed_by◌ a b = lists (a.one ++ b.one) (a.two ++ b.two) (a.three ++ b.three) (a.controller ++ b.controller)

-- each miner's word goes to the next miner; Specification: Parties
abbrev pub to_next : Shares → Lists
to_next s = lists (s.three ∷ []) (s.one ∷ []) (s.two ∷ []) []

-- miner 2 receives a, miner 3 receives b
abbrev pub to_two_three : ℕ → ℕ → Lists
to_two_three a b = lists [] (a ∷ []) (b ∷ []) []

-- each miner receives the share with its number
abbrev pub to_each : Shares → Lists
to_each s = lists (s.one ∷ []) (s.two ∷ []) (s.three ∷ []) []

-- the three shares, in the miners' order
abbrev pub in_order : Shares → List ℕ
in_order s = s.one ∷ s.two ∷ s.three ∷ []

-- the controller receives the three shares, in the miners' order; Specification: Open
abbrev pub to_controller : Shares → Lists
to_controller s = lists [] [] [] (in_order s)

-- ---- the place record; Specification: Place record

-- a place record from its ten counts, in the order of Specification: Place record
abbrev pub place_of : List ℕ → Place
place_of l = record {
  handles = slice_index l 0;
  inputs = slice_index l 1;
  drawn = counts (slice_index l 2) (slice_index l 3) (slice_index l 4) (slice_index l 5);
  received = record {
    one = slice_index l 6;
    two = slice_index l 7;
    three = slice_index l 8;
    controller = slice_index l 9;
  };
}

-- the place moved on by n drawn words
abbrev pub advance : Place → Drawn → Place
advance p n = record { handles = p.handles; inputs = p.inputs; drawn = plus p.drawn n; received = p.received }

-- the counts n, but k for one party
abbrev pub with_count : Party → ℕ → Drawn → Drawn
with_count Provider k n = counts k n.one n.two n.three
with_count One k n = counts n.provider k n.two n.three
with_count Two k n = counts n.provider n.one k n.three
with_count Three k n = counts n.provider n.one n.two k

-- the place moved on by k words of one party's tape
abbrev pub after_draw : ℕ → Party → Place → Place
after_draw k i p = record {
  handles = p.handles;
  inputs = p.inputs;
  drawn = with_count i (count i p.drawn + k) p.drawn;
  received = p.received;
}

-- ---- draws; Specification: Draws

-- the number of the refusal of a spent tape; Specification: Table of refusals
abbrev pub tape_spent : ℕ
tape_spent = 12

-- what a draw answers: 0 or the number of the refusal, the words if there are any, and the place after it
pub record Draw (T : Type 0) : Type 0 where
  pub number : ℕ
  pub words : Option T
  pub place : Place

-- drawn: 0, the words and the moved place
abbrev pub draw_of : {T : Type 0} → T → Place → Draw T
draw_of w q = record { number = 0; words = Some w; place = q }

-- spent: the number, no words, and the place as it was
abbrev pub spent_draw : {T : Type 0} → Place → Draw T
spent_draw p = record { number = tape_spent; words = None; place = p }

-- what the code answers to a draw from the place p, by number and values
abbrev pub draw_answer : {T : Type 0} → Place → Option (T × Place) → Draw T
draw_answer p (Some (w, q)) = draw_of w q
draw_answer p None = spent_draw p

-- the next k words of a party's tape, or spent if fewer than k are left
unfoldable pub draw : ℕ → Party → List ℕ → Place → Draw (List ℕ)
draw k i l p =
    cond (nat_le k (length l - count i p.drawn))
    (draw_of (take k (drop (count i p.drawn) l)) (after_draw k i p)) (spent_draw p)

-- a test that every party passes
abbrev pub every_party : (Party → Bool) → Bool
every_party f = f Provider && (f One && (f Two && f Three))

-- a party's tape has at least the words left that n draws from it
abbrev pub tape_has : Drawn → Place → Tapes → Party → Bool
tape_has n p t i = nat_le (count i n) (length (tape i t) - count i p.drawn)

-- every tape has at least the words left that n draws from it
unfoldable pub enough : Drawn → Place → Tapes → Bool
enough n p t = every_party (tape_has n p t)

-- the next n words of each tape
unfoldable pub block : Drawn → Place → Tapes → Tapes
block n p t = cut n (rest p.drawn t)
