-- The verdict on a command: accepted, or the lowest refusal that applies; Specification: Order of refusals.
-- It depends only on the command, the place record, the kinds and the lengths of the lent lists, which are public.
use Rattle.std.specs.Prelude.{ℕ, ◌-◌, Bool, true, cond, ◌&&◌, ◌||◌, List, take, nat_lt, nat_le, nat_eq, Result, Ok, Err}
use Rattle.std.specs.List.{list_all}
use Rattle.protocols.specs.declared.place.Place.{Place}
use Rattle.protocols.specs.Word.{width}
use Rattle.protocols.specs.Shares.{one, two, three}
use Rattle.protocols.specs.Place.{count, every_party, Receiver, miner, controller}
use Rattle.protocols.specs.Counts.{count_for}
use Rattle.machine.specs.declared.code.Command.{Command}
use Rattle.machine.specs.Table.{Code, code_named, kind_number, row}
use Rattle.machine.specs.declared.refusal.Refusal.{Refusal}
use Rattle.machine.specs.declared.refusal.Refusal.TheVariants.{LentUnsoundly, FieldNotZero, HandleNotFilled, WrongKind}
use Rattle.machine.specs.declared.refusal.Refusal.TheVariants.{PositionOutside, TablesFull, InputsUsed}
use Rattle.machine.specs.declared.refusal.Refusal.TheVariants.{TapeSpent, ListFull}
use Rattle.machine.specs.declared.row.Use.{Use}
use Rattle.machine.specs.declared.row.Use.TheVariants.{Unused, Handle, Word, Position}
use Rattle.machine.specs.declared.row.Row.{Row}
use Rattle.machine.specs.declared.lent.Sizes.{Sizes}
use Rattle.machine.specs.Refusal as table
use Rattle.machine.specs.Lent.{entry}

-- the command is accepted, or it is refused
pub data Verdict : Type 0 where
  Accepted : Code → Verdict
  Refused : Refusal → Verdict

-- 0 if the command is accepted, else the refusal's number; Specification: Answers
abbrev pub verdict_number : Verdict → ℕ
verdict_number (Accepted x) = 0
verdict_number (Refused r) = table.refusal_number r

-- one test: refused with r if it fails, else the next verdict
abbrev pub test : Refusal → Bool → Verdict → Verdict
test r holds next = cond holds next (Refused r)

-- the result of several tests: Ok, or the first refusal
abbrev pub CheckResult : Type 0
CheckResult = Result (Unit {0}) Refusal

-- no test is left
abbrev pub pass : CheckResult
pass = Ok tt

-- one of several tests: the result is r if it fails, else that of the tests after it
abbrev pub check : Refusal → Bool → CheckResult → CheckResult
check r holds next = cond holds next (Err r)

-- the verdict after several tests
abbrev pub after_checks : CheckResult → Verdict → Verdict
after_checks (Ok x) next = next
after_checks (Err r) next = Refused r

-- ---- refusal 4: whether the lent lists fit; Specification: Table of refusals

-- the share tables are as long as the kind list
abbrev pub same_length : Sizes → Bool
same_length z = nat_eq z.one z.kinds && (nat_eq z.two z.kinds && nat_eq z.three z.kinds)

-- a test that holds for every received list
abbrev pub every_receiver : (Receiver → Bool) → Bool
every_receiver f = f (miner one) && (f (miner two) && (f (miner three) && f controller))

-- no count of the place record is over the length of its list
abbrev pub is_within : Place → Sizes → Bool
is_within p z =
    nat_le p.handles z.one
    && (nat_le p.inputs z.inputs
    && (every_party (λ i. nat_le (count i p.drawn) (count i z.tapes))
    && every_receiver (λ r. nat_le (count_for r p.received) (count_for r z.received))))

-- k is the number of a kind; Specification: Kinds
abbrev pub is_kind : ℕ → Bool
is_kind k = nat_eq k 1 || nat_eq k 2

-- each word is the number of a kind
abbrev pub are_kinds : List ℕ → Bool
are_kinds kinds = list_all is_kind kinds

-- refusal 4 does not apply: lengths and counts fit, and each filled handle has a kind
abbrev pub is_sound : Place → Sizes → List ℕ → Bool
is_sound p z kinds = same_length z && (is_within p z && are_kinds (take p.handles kinds))

-- ---- refusals 6 to 9: the fields a and b; Specification: Table of refusals

-- the test of a field by its use: one for an unused field, one for a handle and one for a position; any word passes
abbrev pub meets : Use → Bool → Bool → Bool → Bool
meets Unused unused handle position = unused
meets Handle unused handle position = handle
meets Word unused handle position = true
meets Position unused handle position = position

-- 6: unused fields are 0
abbrev pub unused_zero : Row → Command → Bool
unused_zero x c = meets x.a (nat_eq c.a 0) true true && meets x.b (nat_eq c.b 0) true true

-- 7: handle h is at least 1, and filled
abbrev pub is_filled : Place → ℕ → Bool
is_filled p h = nat_lt 0 h && nat_le h p.handles

-- 7: the command's handles are filled
abbrev pub handles_filled : Row → Place → Command → Bool
handles_filled x p c = meets x.a true (is_filled p c.a) true && meets x.b true (is_filled p c.b) true

-- 8: the command's handles are of the kind that it takes
abbrev pub kinds_fit : Row → List ℕ → Command → Bool
kinds_fit x kinds c =
    meets x.a true (nat_eq (entry kinds c.a) (kind_number x.operands)) true
    && meets x.b true (nat_eq (entry kinds c.b) (kind_number x.operands)) true

-- 9: a bit position is that of a bit
abbrev pub in_word : ℕ → Row → Command → Bool
in_word n x c = meets x.a true true (nat_lt c.a (width n)) && meets x.b true true (nat_lt c.b (width n))

-- ---- refusals 10 to 13: what is left of the lists; Specification: Table of refusals

-- 10: the share tables have an entry left for a new value
abbrev pub tables_have : Row → Place → ℕ → Bool
tables_have x p entries = nat_le x.values (entries - p.handles)

-- 11: an input is left for store
abbrev pub inputs_have : Row → Place → ℕ → Bool
inputs_have x p inputs = nat_le x.inputs (inputs - p.inputs)

-- 12: each tape has the words left that the command draws
abbrev pub tapes_have : Row → Place → Sizes → Bool
tapes_have x p z = every_party (λ i. nat_le (count i x.drawn) (count i z.tapes - count i p.drawn))

-- 13: each received list has room left for the command's words
abbrev pub lists_have : Row → Place → Sizes → Bool
lists_have x p z =
    every_receiver (λ r. nat_le (count_for r x.received) (count_for r z.received - count_for r p.received))

-- ---- all tests, in the order of their numbers; Specification: Order of refusals

-- refusals 6 to 11, for a command with the row x
abbrev pub row_checks : ℕ → Row → Command → Place → ℕ → ℕ → List ℕ → CheckResult
row_checks n x c p entries inputs kinds =
    check FieldNotZero (unused_zero x c)
    (check HandleNotFilled (handles_filled x p c)
    (check WrongKind (kinds_fit x kinds c)
    (check PositionOutside (in_word n x c)
    (check TablesFull (tables_have x p entries) (check InputsUsed (inputs_have x p inputs) pass)))))

-- refusals 12 and 13, then the verdict `next`
abbrev pub supply_verdict : Row → Place → Sizes → Verdict → Verdict
supply_verdict x p z next = test TapeSpent (tapes_have x p z) (test ListFull (lists_have x p z) next)

-- refusals 6 to 13, for a command with the row x
unfoldable pub row_verdict : ℕ → Row → Command → Place → Sizes → List ℕ → Verdict → Verdict
row_verdict n x c p z kinds next = after_checks (row_checks n x c p z.one z.inputs kinds) (supply_verdict x p z next)

-- refusal 5 if no command has the code, else refusals 6 to 13
abbrev pub code_verdict : ℕ → Result Code Refusal → Command → Place → Sizes → List ℕ → Verdict
code_verdict n (Ok x) c p z kinds = row_verdict n (row n x) c p z kinds (Accepted x)
code_verdict n (Err r) c p z kinds = Refused r

-- the verdict on the command c from the place p, with z for the lengths of the lent lists
unfoldable pub verdict : ℕ → Command → Place → Sizes → List ℕ → Verdict
verdict n c p z kinds = test LentUnsoundly (is_sound p z kinds) (code_verdict n (code_named c.code) c p z kinds)
