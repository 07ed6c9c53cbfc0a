-- The lists that are lent to a command, and what handles and the place record mean in them; Specification: Lent lists.
use Rattle.std.specs.Prelude.{ℕ, ◌≡◌, ◌-◌, ◌≤◌, List, length, get_or, take}
use Rattle.protocols.specs.declared.place.Drawn.{Drawn}
use Rattle.protocols.specs.declared.place.Party.{Party}
use Rattle.protocols.specs.declared.place.Place.{Place}
use Rattle.protocols.specs.declared.shares.Shares.{Shares}
use Rattle.protocols.specs.Shares.{Miner, one, two, three, shares}
use Rattle.protocols.specs.Place.{Tapes, tape, counts, Lists, Receiver, list}
use Rattle.protocols.specs.Counts.{list_lengths, count_for}
use Rattle.protocols.specs.Contents.{AllBelow}
use Rattle.protocols.specs.declared.lent.Lists as code_lists
use Rattle.protocols.specs.declared.lent.Tapes as code_tapes
use Rattle.protocols.specs.Lent.{tapes_of, lists_of}
use Rattle.machine.specs.declared.lent.Sizes.{Sizes}
use Rattle.machine.specs.declared.lent.Tables as code_tables

-- the three share tables; Specification: Lent lists
pub record Tables : Type 0 where
  pub one : List ℕ
  pub two : List ℕ
  pub three : List ℕ

abbrev pub tables : List ℕ → List ℕ → List ℕ → Tables
tables a b c = record { one = a; two = b; three = c }

-- miner i's share table
abbrev pub table : Miner → Tables → List ℕ
table one t = t.one
table two t = t.two
table three t = t.three

-- the thirteen lent lists; Specification: Lent lists
pub record Lent : Type 0 where
  pub tables : Tables
  pub kinds : List ℕ
  pub inputs : List ℕ
  pub tapes : Tapes
  pub received : Lists

abbrev pub lent_lists : Tables → List ℕ → List ℕ → Tapes → Lists → Lent
lent_lists t k i s r = record { tables = t; kinds = k; inputs = i; tapes = s; received = r }

-- ---- the same, of the code's structures

abbrev pub tables_of : code_tables.Tables → Tables
tables_of t = tables t.one.now t.two.now t.three.now

abbrev pub lent_lists_of : code_tables.Tables → List ℕ → code_tapes.Tapes → code_lists.Lists → Lent
lent_lists_of t inputs s r = lent_lists (tables_of t) t.kinds.now inputs (tapes_of s) (lists_of r)

-- the same three tables and kind list, whatever they hold
abbrev pub SameTables : code_tables.Tables → code_tables.Tables → Type 0
SameTables a b =
    (b.one.ghost_name ≡ a.one.ghost_name)
    × (b.two.ghost_name ≡ a.two.ghost_name)
    × (b.three.ghost_name ≡ a.three.ghost_name)
    × (b.kinds.ghost_name ≡ a.kinds.ghost_name)

-- ---- the lengths of the lent lists

-- the lengths of the four tapes
abbrev pub tape_lengths : Tapes → Drawn
tape_lengths t = counts (length t.provider) (length t.one) (length t.two) (length t.three)

-- the lengths of all lent lists, where those of the tapes are d
abbrev pub lengths : Tables → List ℕ → List ℕ → Drawn → Lists → Sizes
lengths t k i d r = record {
  one = length t.one;
  two = length t.two;
  three = length t.three;
  kinds = length k;
  inputs = length i;
  tapes = d;
  received = list_lengths r;
}

-- the lengths of all lent lists
abbrev pub sizes : Lent → Sizes
sizes l = lengths l.tables l.kinds l.inputs (tape_lengths l.tapes) l.received

-- ---- handles; Specification: Handles

-- the entry of handle h: handle 1 has the first entry of a list
abbrev pub entry : List ℕ → ℕ → ℕ
entry t h = get_or t (h - 1) 0

-- the three shares of handle h
abbrev pub shares_at : Tables → ℕ → Shares
shares_at t h = shares (entry t.one h) (entry t.two h) (entry t.three h)

-- handle h is filled, by the place p; Specification: Handles
abbrev pub IsFilled : Place → ℕ → Type 0
IsFilled p h = (1 ≤ h) × (h ≤ p.handles)

-- ---- the filled part of the lists, by the place p

-- miner i's shares of the filled handles
abbrev pub filled_shares : Place → Lent → Miner → List ℕ
filled_shares p l i = take p.handles (table i l.tables)

-- the words that the receiver r has; Specification: Received words
abbrev pub received_words : Place → Lent → Receiver → List ℕ
received_words p l r = take (count_for r p.received) (list r l.received)

-- inputs, tapes and the filled parts are words below m, the rest may be any numbers; Specification: Words
pub record LentAreWords (m : ℕ) (p : Place) (l : Lent) : Type 0 where
  pub shares : (i : Miner) → AllBelow m (filled_shares p l i)
  pub inputs : AllBelow m l.inputs
  pub tapes : (i : Party) → AllBelow m (tape i l.tapes)
  pub received : (r : Receiver) → AllBelow m (received_words p l r)
