-- The table of commands, over words of 2 ^ n bits; Specification: Table of commands.
use Rattle.std.specs.Prelude.{ℕ, ◌+◌, ◌*◌, Bool, cond, nat_lt, nat_eq, Result, Ok, Err}
use Rattle.protocols.specs.declared.place.Drawn.{Drawn}
use Rattle.protocols.specs.declared.place.Place.{Place}
use Rattle.protocols.specs.declared.place.Received.{Received}
use Rattle.protocols.specs.Place.{counts, plus}
use Rattle.protocols.specs.Counts.{received_counts, plus_received}
use Rattle.machine.specs.declared.code.Command.{Command}
use Rattle.machine.specs.declared.refusal.Refusal.{Refusal}
use Rattle.machine.specs.declared.refusal.Refusal.TheVariants.{UnknownCode}
use Rattle.machine.specs.declared.kind.Kind.{Kind}
use Rattle.machine.specs.declared.kind.Kind.TheVariants.{RingValue, BitWord}
use Rattle.machine.specs.declared.row.Use.{Use}
use Rattle.machine.specs.declared.row.Use.TheVariants.{Unused, Handle, Word, Position}
use Rattle.machine.specs.declared.row.Row.{Row}

-- a command from its three words: code, a, b; Specification: Table of commands
abbrev pub command_of : ℕ → ℕ → ℕ → Command
command_of code a b = record { code = code; a = a; b = b }

-- the twelve commands in the order of their codes; Specification: Table of commands
pub data Code : Type 0 where
  Store : Code
  Add : Code
  Subtract : Code
  AddConstant : Code
  TimesConstant : Code
  Multiply : Code
  Reshare : Code
  Bits : Code
  Bit : Code
  Equal : Code
  Open : Code
  Below : Code

-- the command that has the code x, or refusal 5 if none has it; Specification: Table of refusals
abbrev pub code_named : ℕ → Result Code Refusal
code_named x =
    cond (nat_eq x 1) (Ok Store)
    (cond (nat_eq x 2) (Ok Add)
    (cond (nat_eq x 3) (Ok Subtract)
    (cond (nat_eq x 4) (Ok AddConstant)
    (cond (nat_eq x 5) (Ok TimesConstant)
    (cond (nat_eq x 6) (Ok Multiply)
    (cond (nat_eq x 7) (Ok Reshare)
    (cond (nat_eq x 8) (Ok Bits)
    (cond (nat_eq x 9) (Ok Bit)
    (cond (nat_eq x 10) (Ok Equal)
    (cond (nat_eq x 11) (Ok Open)
    (cond (nat_eq x 12) (Ok Below)
    (Err UnknownCode))))))))))))

-- a kind's number in the kind list; Specification: Kinds
abbrev pub kind_number : Kind → ℕ
kind_number RingValue = 1
kind_number BitWord = 2

-- a row of the table: use of a and b, kinds of operands and new value, how many new values and inputs there are, words
-- received and words drawn; Specification: Table of commands
abbrev pub row_of : Use → Use → Kind → Kind → ℕ → ℕ → Received → Drawn → Row
row_of a b operands kind values inputs k d =
    record { a = a; b = b; operands = operands; kind = kind; values = values; inputs = inputs; received = k; drawn = d }

-- each command's row, with its counts for words of 2 ^ n bits; Specification: Table of commands
abbrev pub row : ℕ → Code → Row
row n Store = row_of Unused Unused RingValue RingValue 1 1 (received_counts 1 1 1 0) (counts 2 0 0 0)
row n Add = row_of Handle Handle RingValue RingValue 1 0 (received_counts 0 0 0 0) (counts 0 0 0 0)
row n Subtract = row_of Handle Handle RingValue RingValue 1 0 (received_counts 0 0 0 0) (counts 0 0 0 0)
row n AddConstant = row_of Handle Word RingValue RingValue 1 0 (received_counts 0 0 0 0) (counts 0 0 0 0)
row n TimesConstant = row_of Handle Word RingValue RingValue 1 0 (received_counts 0 0 0 0) (counts 0 0 0 0)
row n Multiply = row_of Handle Handle RingValue RingValue 1 0 (received_counts 4 4 4 0) (counts 0 2 2 2)
row n Reshare = row_of Handle Unused RingValue RingValue 1 0 (received_counts 1 1 1 0) (counts 0 1 1 1)
row n Bits = row_of Handle Unused RingValue BitWord 1 0
    (received_counts (2 + 4 * n) (5 + 4 * n) (5 + 4 * n) 0) (counts 0 (5 + 2 * n) (2 + 2 * n) (2 + 2 * n))
row n Bit = row_of Handle Position BitWord RingValue 1 0 (received_counts 0 3 3 0) (counts 0 3 0 0)
row n Equal = row_of Handle Handle RingValue RingValue 1 0
    (received_counts (1 + 2 * n) (5 + 2 * n) (5 + 2 * n) 0) (counts 0 (5 + n) (1 + n) (1 + n))
row n Open = row_of Handle Unused RingValue RingValue 0 0 (received_counts 1 1 1 3) (counts 0 1 1 1)
row n Below = row_of Handle Handle RingValue RingValue 1 0
    (received_counts (2 + 4 * n) (8 + 4 * n) (8 + 4 * n) 0) (counts 0 (8 + 2 * n) (2 + 2 * n) (2 + 2 * n))

-- the row is that of open, the only command from which the controller receives words
abbrev pub opens_value : Row → Bool
opens_value x = nat_lt 0 x.received.controller

-- the place record, moved on by the counts of a row; Specification: Accepted commands
abbrev pub with_row : Place → Row → Place
with_row p x = record {
  handles = p.handles + x.values;
  inputs = p.inputs + x.inputs;
  drawn = plus p.drawn x.drawn;
  received = plus_received p.received x.received;
}
