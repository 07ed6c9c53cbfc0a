-- A command's answer and the lent lists after it; Specification: Accepted commands, Specification: Refused commands.
use Rattle.std.specs.Prelude.{ℕ, zero, suc, cond, List, set, get_or, Result, Ok, Err}
use Rattle.std.proofs.lemmas.List.Edits.{sets}
use Rattle.protocols.specs.declared.place.Place.{Place}
use Rattle.protocols.specs.declared.shares.Shares.{Shares}
use Rattle.protocols.specs.Word.{modulus}
use Rattle.protocols.specs.Shares.{sum_of}
use Rattle.protocols.specs.Place.{Lists, lists, block}
use Rattle.machine.specs.declared.code.Command.{Command}
use Rattle.machine.specs.Table.{Code, kind_number, row, opens_value, with_row}
use Rattle.machine.specs.declared.row.Row.{Row}
use Rattle.machine.specs.declared.arguments.Arguments.{Arguments}
use Rattle.machine.specs.declared.answer.Accepted as code
use Rattle.machine.specs.declared.answer.Answer.{Answer}
use Rattle.machine.specs.declared.refusal.Refusal.{Refusal}
use Rattle.machine.specs.Refusal.{refusal_number}
use Rattle.machine.specs.Lent.{Tables, tables, Lent, lent_lists, sizes, shares_at}
use Rattle.machine.specs.Verdict.{Verdict, Accepted, Refused, verdict}
use Rattle.machine.specs.Steps.{protocol}

-- an answer: number, place record and opened word; Specification: Answers
abbrev pub answer : ℕ → Place → ℕ → Answer
answer r p w = record { number = r; place = p; opened = w }

-- the answer for the code's `Result`, of a command from the place p; Specification: Answers
abbrev pub answer_of : Place → Result code.Accepted Refusal → Answer
answer_of p (Ok a) = answer 0 a.place a.opened
answer_of p (Err r) = answer (refusal_number r) p 0

-- a command's outcome: its answer, and the lent lists after it
pub record CommandOutcome : Type 0 where
  pub answer : Answer
  pub lent : Lent

abbrev pub command_outcome : Answer → Lent → CommandOutcome
command_outcome a l = record { answer = a; lent = l }

-- what a protocol works on: the next input and the shares of the operands; Specification: Accepted commands
abbrev pub arguments : Tables → List ℕ → Place → Command → Arguments
arguments t inputs p c = record { input = get_or inputs p.inputs 0; u = shares_at t c.a; v = shares_at t c.b }

-- the sum of the three shares s for an open, 0 for any other command; Specification: Answers
abbrev pub opened_word : ℕ → Row → Shares → ℕ
opened_word n x s = cond (opens_value x) (sum_of (modulus n) s) 0

-- ---- what an accepted command writes; Specification: Accepted commands

-- a list, with w at a position unless the first argument, the count of new values, is 0
abbrev pub with_entry : ℕ → List ℕ → ℕ → ℕ → List ℕ
with_entry zero l at w = l
with_entry (suc k) l at w = set l at w

-- the share tables, with the three shares at one position if there is a new value
abbrev pub with_shares : ℕ → Tables → ℕ → Shares → Tables
with_shares k t at s =
    tables (with_entry k t.one at s.one) (with_entry k t.two at s.two) (with_entry k t.three at s.three)

-- the received lists, with new words behind those that the place p counts; Specification: Received words
abbrev pub with_received : Lists → Place → Lists → Lists
with_received l p w =
    lists (sets l.one p.received.one w.one) (sets l.two p.received.two w.two) (sets l.three p.received.three w.three)
    (sets l.controller p.received.controller w.controller)

-- the lent lists, with shares and kind of a new value, and the new received words; Specification: Accepted commands
abbrev pub with_outputs : Row → Place → Shares → Lists → Lent → Lent
with_outputs x p s w l =
    lent_lists (with_shares x.values l.tables p.handles s)
    (with_entry x.values l.kinds p.handles (kind_number x.kind)) l.inputs l.tapes (with_received l.received p w)

-- ---- the command

-- an accepted command: its protocol on the next words of the tapes; Specification: Accepted commands
unfoldable pub accepted_outcome : ℕ → Code → Command → Place → Lent → CommandOutcome
accepted_outcome n x c p l =
    let f = protocol n x c.b in
    let g = arguments l.tables l.inputs p c in
    let b = block f.draws p l.tapes in
    command_outcome (answer 0 (with_row p (row n x)) (opened_word n (row n x) (f.result g b)))
    (with_outputs (row n x) p (f.result g b) (f.received g b) l)

-- a command by its verdict: a refused one changes nothing; Specification: Refused commands
abbrev pub verdict_outcome : ℕ → Verdict → Command → Place → Lent → CommandOutcome
verdict_outcome n (Accepted x) c p l = accepted_outcome n x c p l
verdict_outcome n (Refused r) c p l = command_outcome (answer (refusal_number r) p 0) l

-- the command c from the place p on the lent lists l
unfoldable pub command : ℕ → Command → Place → Lent → CommandOutcome
command n c p l = verdict_outcome n (verdict n c p (sizes l) l.kinds) c p l
