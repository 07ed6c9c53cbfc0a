-- When each refusal from 4 to 13 applies to a command, row by row; Specification: Table of refusals.
use Rattle.std.specs.Prelude.{ℕ, ◌-◌, ◌≤◌, ◌<◌, ◌≡◌, length, Ok}
use Rattle.protocols.specs.declared.place.Party.{Party}
use Rattle.protocols.specs.declared.place.Place.{Place}
use Rattle.protocols.specs.Word.{width}
use Rattle.protocols.specs.Shares.{Miner}
use Rattle.protocols.specs.Place.{tape, count, Receiver, list}
use Rattle.protocols.specs.Counts.{count_for}
use Rattle.machine.specs.declared.code.Command.{Command}
use Rattle.machine.specs.Table.{Code, Store, code_named, kind_number, row}
use Rattle.machine.specs.declared.row.Use.{Use}
use Rattle.machine.specs.declared.row.Use.TheVariants.{Unused, Handle, Position}
use Rattle.machine.specs.declared.row.Row.{Row}
use Rattle.machine.specs.Lent.{Lent, table, entry, IsFilled}

-- the ten counts of a place record; Specification: Place record
pub data Counter : Type 0 where
  handles : Counter
  inputs : Counter
  drawn : Party → Counter
  received : Receiver → Counter

-- what a count is in the place record p
abbrev pub counter_value : Counter → Place → ℕ
counter_value handles p = p.handles
counter_value inputs p = p.inputs
counter_value (drawn i) p = count i p.drawn
counter_value (received r) p = count_for r p.received

-- the length of the list that a count is about; Specification: Table of refusals
abbrev pub list_length : Counter → Lent → ℕ
list_length handles l = length l.tables.one
list_length inputs l = length l.inputs
list_length (drawn i) l = length (tape i l.tapes)
list_length (received r) l = length (list r l.received)

-- the two fields of a command; Specification: Table of commands
pub data Field : Type 0 where
  a b : Field

-- the word in a field
abbrev pub field : Field → Command → ℕ
field a c = c.a
field b c = c.b

-- what a row of the table uses a field for
abbrev pub use_of : Field → Row → Use
use_of a x = x.a
use_of b x = x.b

-- the refusal with this number applies to the command c from the place p on the lent lists l;
-- Specification: Table of refusals
pub data Applies (n : ℕ) (c : Command) (p : Place) (l : Lent) : ℕ → Type 0 where
  -- 4: the kind list and one of the share tables differ in length
  lengths_differ : (i : Miner) → ¬ (length (table i l.tables) ≡ length l.kinds) → Applies n c p l 4
  -- 4: a count of the place record is over the length of its list
  place_beyond : (k : Counter) → list_length k l < counter_value k p → Applies n c p l 4
  -- 4: the kind of a filled handle is neither 1 nor 2
  no_kind : (h : ℕ) → IsFilled p h → ¬ (entry l.kinds h ≡ 1) → ¬ (entry l.kinds h ≡ 2) → Applies n c p l 4
  -- 5: the code is not one of 1 to 12
  no_code : ¬ ((1 ≤ c.code) × (c.code ≤ 12)) → Applies n c p l 5
  -- 6: an unused field is not 0
  unused_field : (x : Code) → code_named c.code ≡ Ok x → (f : Field) → use_of f (row n x) ≡ Unused
      → ¬ (field f c ≡ 0) → Applies n c p l 6
  -- 7: a field for a handle holds 0 or a handle that is not filled
  not_filled : (x : Code) → code_named c.code ≡ Ok x → (f : Field) → use_of f (row n x) ≡ Handle
      → ¬ IsFilled p (field f c) → Applies n c p l 7
  -- 8: a filled handle is not of the kind that the command takes
  wrong_kind : (x : Code) → code_named c.code ≡ Ok x → (f : Field) → use_of f (row n x) ≡ Handle
      → IsFilled p (field f c) → ¬ (entry l.kinds (field f c) ≡ kind_number (row n x).operands) → Applies n c p l 8
  -- 9: a bit position is above the highest bit
  over_position : (x : Code) → code_named c.code ≡ Ok x → (f : Field) → use_of f (row n x) ≡ Position
      → width n - 1 < field f c → Applies n c p l 9
  -- 10: the command makes a value, and every entry of the tables is filled
  tables_full : (x : Code) → code_named c.code ≡ Ok x → (row n x).values ≡ 1 → length l.tables.one ≤ p.handles
      → Applies n c p l 10
  -- 11: the command is store, and every input is used
  inputs_used : code_named c.code ≡ Ok Store → length l.inputs ≤ p.inputs → Applies n c p l 11
  -- 12: the words left on a tape are fewer than the command's draws
  spent_tape : (x : Code) → code_named c.code ≡ Ok x
      → (i : Party) → length (tape i l.tapes) - count i p.drawn < count i (row n x).drawn → Applies n c p l 12
  -- 13: the room left in a received list is less than the command's words for it
  list_full : (x : Code) → code_named c.code ≡ Ok x
      → (r : Receiver) → length (list r l.received) - count_for r p.received < count_for r (row n x).received
      → Applies n c p l 13

-- refusal r applies, and no lower one; Specification: Order of refusals
abbrev pub Lowest : ℕ → Command → Place → Lent → ℕ → Type 0
Lowest n c p l r = Applies n c p l r × ((q : ℕ) → q < r → ¬ Applies n c p l q)
