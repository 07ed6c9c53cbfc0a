-- What a protocol leaves, as values: its outcome and the received lists; Specification: Received words
use Rattle.std.specs.Prelude.{ℕ, Bool, cond, ◌&&◌, length, nat_le, Result, Ok, Err}
use Rattle.std.proofs.lemmas.List.Edits.{sets}
use Rattle.protocols.specs.declared.shares.Shares.{Shares}
use Rattle.protocols.specs.declared.place.Place.{Place}
use Rattle.protocols.specs.declared.place.Received.{Received}
use Rattle.protocols.specs.declared.outcome.Done.{Done}
use Rattle.protocols.specs.declared.outcome.Shortage.{Shortage}
use Rattle.protocols.specs.declared.outcome.Shortage.TheVariants.{TapeSpent, ListFull}
use Rattle.protocols.specs.Shares.{shares}
use Rattle.protocols.specs.Place.{Lists, lists, tape_spent}
use Rattle.protocols.specs.Protocol.{ProtocolAnswer, done, spent}
use Rattle.protocols.specs.Counts.{received_counts}

-- ---- an outcome

-- 0 or the number of a refusal, new shares and the place record
pub record Outcome : Type 0 where
  pub number : ℕ
  pub shares : Shares
  pub place : Place

-- done: the new shares and the moved place
abbrev pub success : Shares → Place → Outcome
success s q = record { number = 0; shares = s; place = q }

-- refused: the number, no new shares, and the place as it was; Specification: Refused commands
abbrev pub failure : ℕ → Place → Outcome
failure r p = record { number = r; shares = shares 0 0 0; place = p }

-- the number of the refusal of a full received list; Specification: Table of refusals
abbrev pub list_full : ℕ
list_full = 13

-- the number of the shortage that the code names
abbrev pub shortage_number : Shortage → ℕ
shortage_number TapeSpent = tape_spent
shortage_number ListFull = list_full

-- what the code answers from the place p, by number and values
abbrev pub outcome : Place → Result Done Shortage → Outcome
outcome p (Ok d) = success d.shares d.place
outcome p (Err e) = failure (shortage_number e) p

-- ---- an outcome with the received lists

-- the outcome, and the received lists after it
pub record Delivery : Type 0 where
  pub outcome : Outcome
  pub lists : Lists

-- a Delivery from its two fields
abbrev pub delivery_of : Outcome → Lists → Delivery
delivery_of r l = record { outcome = r; lists = l }

-- each list has room for as many words as k counts
abbrev pub have_room : Lists → Received → Bool
have_room l k =
    nat_le k.controller (length l.controller)
    && (nat_le k.one (length l.one) && (nat_le k.two (length l.two) && nat_le k.three (length l.three)))

-- each list of l has room for the words of w
abbrev pub have_room_for : Lists → Lists → Bool
have_room_for l w = have_room l (received_counts (length w.one) (length w.two) (length w.three) (length w.controller))

-- the words w written to the fronts of the lists l, which here are the unfilled parts of the received lists
abbrev pub with_fronts : Lists → Lists → Lists
with_fronts l w =
    lists (sets l.one 0 w.one) (sets l.two 0 w.two) (sets l.three 0 w.three) (sets l.controller 0 w.controller)

-- A spent tape is refused first, then a list without room; both leave the place and every list as they were. Otherwise
-- each list has its words. Specification: Order of refusals; Specification: Accepted commands
abbrev pub delivery : Place → ProtocolAnswer Shares → Lists → Delivery
delivery p (done s w q) l =
    cond (have_room_for l w) (delivery_of (success s q) (with_fronts l w)) (delivery_of (failure list_full p) l)
delivery p spent l = delivery_of (failure tape_spent p) l
