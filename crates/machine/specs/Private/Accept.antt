-- An accepted command as the code does it: its protocol on the unfilled part of each received list, then its entries.
use Rattle.std.specs.Prelude.{◌≡◌, ℕ, zero, suc, ◌+◌, ◌≤◌, ◌<◌, ◌^◌, List, length, drop}
use Rattle.protocols.specs.declared.place.Place.{Place}
use Rattle.protocols.specs.declared.place.Received.{Received}
use Rattle.protocols.specs.declared.shares.Shares.{Shares}
use Rattle.protocols.specs.Place.{Lists, lists}
use Rattle.protocols.specs.Counts.{plus_received}
use Rattle.protocols.specs.Outcome.{Outcome}
use Rattle.machine.specs.declared.answer.Answer.{Answer}
use Rattle.machine.specs.Table.{Code, kind_number, row}
use Rattle.machine.specs.declared.arguments.Arguments.{Arguments}
use Rattle.machine.specs.declared.kind.Kind.{Kind}
use Rattle.machine.specs.declared.row.Row.{Row}
use Rattle.machine.specs.declared.row.Use.{Use}
use Rattle.machine.specs.declared.row.Use.TheVariants.{Unused, Handle, Word, Position}
use Rattle.machine.specs.declared.code.Command.{Command}
use Rattle.machine.specs.declared.lent.Tables as code_tables
use Rattle.machine.specs.Lent.{Tables, tables_of, Lent}
use Rattle.machine.specs.Command.{answer, opened_word, with_entry, with_shares}

-- the counts of the place record, moved on by the row x, fit 64 bits
pub record Fits (p : Place) (x : Row) : Type 0 where
  pub handles : p.handles + x.values < 2 ^ 64
  pub inputs : p.inputs + x.inputs < 2 ^ 64
  pub one : p.received.one + x.received.one < 2 ^ 64
  pub two : p.received.two + x.received.two < 2 ^ 64
  pub three : p.received.three + x.received.three < 2 ^ 64
  pub controller : p.received.controller + x.received.controller < 2 ^ 64

-- the tables and the kind list have n entries or more
pub record HaveEntries (n : ℕ) (t : Tables) (k : List ℕ) : Type 0 where
  pub one : n ≤ length t.one
  pub two : n ≤ length t.two
  pub three : n ≤ length t.three
  pub kinds : n ≤ length k

-- every table has the entry of handle h
pub record HasEntry (t : Tables) (h : ℕ) : Type 0 where
  pub counted : 1 ≤ h
  pub one : h ≤ length t.one
  pub two : h ≤ length t.two
  pub three : h ≤ length t.three

-- A holds if the field is a handle
abbrev pub IfHandle : Use → Type 0 → Type 0
IfHandle Unused A = Unit {0}
IfHandle Handle A = A
IfHandle Word A = Unit {0}
IfHandle Position A = Unit {0}

-- g and h are the same in what a command of the row x uses
abbrev pub Serves : Row → Arguments → Arguments → Type 0
Serves x g h = (¬ (x.inputs ≡ 0) → g.input ≡ h.input) × IfHandle x.a (g.u ≡ h.u) × IfHandle x.b (g.v ≡ h.v)

-- the entries and words that the code reads and writes exist, as they do if none of the refusals 4 and 6 to 11 applies
pub record IsReady (x : Code) (c : Command) (p : Place) (l : Lent) : Type 0 where
  pub entries : HaveEntries (p.handles + (row 5 x).values) l.tables l.kinds
  pub a : IfHandle (row 5 x).a (HasEntry l.tables c.a)
  pub b : IfHandle (row 5 x).b (HasEntry l.tables c.b)
  pub inputs : p.inputs + (row 5 x).inputs ≤ length l.inputs
  pub one : p.received.one ≤ length l.received.one
  pub two : p.received.two ≤ length l.received.two
  pub three : p.received.three ≤ length l.received.three
  pub controller : p.received.controller ≤ length l.received.controller

-- the place record after the draws, with its other counts moved on by the row x
abbrev pub with_row_counts : Place → Row → Place
with_row_counts p x = record {
  handles = p.handles + x.values;
  inputs = p.inputs + x.inputs;
  drawn = p.drawn;
  received = plus_received p.received x.received;
}

-- each received list behind the words that k counts
abbrev pub unfilled_part : Received → Lists → Lists
unfilled_part k l = lists (drop k.one l.one) (drop k.two l.two) (drop k.three l.three) (drop k.controller l.controller)

-- share tables and kind list
pub record TableEntries : Type 0 where
  pub tables : Tables
  pub kinds : List ℕ

abbrev pub table_entries : Tables → List ℕ → TableEntries
table_entries t k = record { tables = t; kinds = k }

abbrev pub table_entries_of : code_tables.Tables → TableEntries
table_entries_of t = table_entries (tables_of t) t.kinds.now

-- tables and kind list, with a new handle's entries if there is a new value
unfoldable pub with_new_entry : ℕ → ℕ → Shares → Kind → Tables → List ℕ → TableEntries
with_new_entry values at s kind t kinds =
    table_entries (with_shares values t at s) (with_entry values kinds at (kind_number kind))

-- an answer, and tables and kind list after it
pub record StoreOutcome : Type 0 where
  pub answer : Answer
  pub stored : TableEntries

abbrev pub store_outcome : Answer → TableEntries → StoreOutcome
store_outcome a s = record { answer = a; stored = s }

-- after the protocol's outcome o: refused with its number, or its shares stored and the place record moved on
abbrev pub outcome_by_number : ℕ → Row → Place → Outcome → Tables → List ℕ → StoreOutcome
outcome_by_number zero x p o t kinds = store_outcome (answer 0 (with_row_counts o.place x) (opened_word 5 x o.shares))
    (with_new_entry x.values p.handles o.shares x.kind t kinds)
outcome_by_number (suc r) x p o t kinds = store_outcome (answer (suc r) p 0) (table_entries t kinds)

abbrev pub outcome_after_protocol : Row → Place → Outcome → Tables → List ℕ → StoreOutcome
outcome_after_protocol x p o t kinds = outcome_by_number o.number x p o t kinds
