-- The claims that the provider and each miner can run a program of their own; Specification: Parties apart.
use Rattle.std.specs.Prelude.{ℕ, ◌≡◌, Bool, cond, List, map}
use Rattle.protocols.specs.declared.place.Party.{Party}
use Rattle.protocols.specs.declared.place.Party.TheVariants.{Provider, One, Two, Three}
use Rattle.protocols.specs.declared.place.Place.{Place}
use Rattle.protocols.specs.Shares.{Miner, one, two, three}
use Rattle.protocols.specs.Place.{tape, owner, rest, Lists, Receiver, miner, list}
use Rattle.protocols.specs.Counts.{count_for}
use Rattle.protocols.specs.Parties.{Process, SentCounts, connection, connect, for_party}
use Rattle.protocols.specs.Alone.{alone, sends_of, Agree}
use Rattle.protocols.specs.Apart.{mixed_tapes}
use Rattle.machine.specs.declared.code.Command.{Command}
use Rattle.machine.specs.declared.lent.Sizes.{Sizes}
use Rattle.machine.specs.Lent.{Lent, tables, sizes, table}
use Rattle.machine.specs.Run.{RunResult, Reply, reply, run, run_to_refusal}
use Rattle.machine.specs.Claims.{Appended}

-- a party's own part of the lent lists, besides its tape: the provider's inputs, a miner's share table
abbrev pub own_part : Party → Lent → List ℕ
own_part Provider l = l.inputs
own_part One l = l.tables.one
own_part Two l = l.tables.two
own_part Three l = l.tables.three

-- the four programs of a run, and what is fixed before it begins; Specification: Parties apart
pub record Programs : Type 0 where
  pub rounds : ℕ
  -- how many words each party sends to each other one in each round
  pub timetable : List SentCounts
  -- each party's process, from its own part and its tape
  pub program : Party → List ℕ → List ℕ → Process rounds (List ℕ)
  -- each command's number and place record, and the place record and the kinds at the end
  pub replies : List Reply
  pub place : Place
  pub kinds : List ℕ

-- party i's process, from its own part and from its tape as it is left by the place p
abbrev pub process_of : (P : Programs) → Place → Lent → Party → Process P.rounds (List ℕ)
process_of P p l i = P.program i (own_part i l) (tape i (rest p.drawn l.tapes))

-- The four programs P give the run r from the place p on the lent lists l; Specification: Parties apart. They do not
-- give the opened words, which the controller adds up from its received list.
pub record ComesTo (P : Programs) (p : Place) (l : Lent) (r : RunResult) : Type 0 where
  -- connected, they send these words by the timetable, and each party ends with its own part as it is after the run
  pub words : Lists
  pub plays : connect P.rounds (process_of P p l) ≡ connection (λ i. own_part i r.lent) words P.timetable
  -- each received list has these words behind its earlier ones; the rest of it is unchanged
  pub gain : (i : Receiver)
      → Appended (list i l.received) (count_for i p.received) (list i words) (list i r.lent.received)
  -- the replies, the place record and the kinds are those fixed before the run
  pub replies : map reply r.answers ≡ P.replies
  pub place : r.place ≡ P.place
  pub kinds : r.lent.kinds ≡ P.kinds
  -- the tapes are unchanged
  pub tapes : r.lent.tapes ≡ l.tapes
  -- each party by itself, given the words that it receives, ends with the same part and sends the same words
  pub by_itself : (i : Party) → alone (List ℕ) P.rounds i P.timetable (process_of P p l i) (for_party i words)
      ≡ record { ends = own_part i r.lent; sends = sends_of (List ℕ) P.rounds (process_of P p l) i }
  -- no other lists agree with what the four send
  pub only : (w : Lists) → Agree (List ℕ) P.rounds P.timetable (process_of P p l) w → w ≡ words

-- there are four programs that give the runs from the place p on all lent lists of the lengths z and the kinds k, and
-- that depend on these and the commands only; Specification: Parties apart
abbrev pub HasPrograms : (Place → Lent → RunResult) → Place → Sizes → List ℕ → Type 0
HasPrograms runs p z k = (P : Programs) × ((l : Lent) → sizes l ≡ z → l.kinds ≡ k → ComesTo P p l (runs p l))

-- promised by `runs_apart`: every list of commands has programs, for its run and for its run up to the first refusal;
-- Specification: Parties apart
pub record RunsApart (n : ℕ) (cs : List Command) (p : Place) (z : Sizes) (k : List ℕ) : Type 0 where
  pub past_refusals : HasPrograms (run n cs) p z k
  pub to_refusal : HasPrograms (run_to_refusal n cs) p z k

-- promised by `same_run_view`: a miner with the same table and tape in two runs that have programs, and with the same
-- received list after both, has the same table after both
abbrev pub SameRunView : (Place → Lent → RunResult) → Place → Sizes → List ℕ → Type 0
SameRunView runs p z k = (i : Miner) (l l' : Lent)
    → sizes l ≡ z → sizes l' ≡ z → l.kinds ≡ k → l'.kinds ≡ k
    → table i l.tables ≡ table i l'.tables → tape (owner i) l.tapes ≡ tape (owner i) l'.tapes
    → list (miner i) (runs p l).lent.received ≡ list (miner i) (runs p l').lent.received
    → table i (runs p l).lent.tables ≡ table i (runs p l').lent.tables

-- the lent lists l, but a party for which `first` is false has its own part and its tape from l'
abbrev pub mixed_lent : (Party → Bool) → Lent → Lent → Lent
mixed_lent first l l' =
    let its = λ (i : Miner). cond (first (owner i)) (table i l.tables) (table i l'.tables) in
    record l {
      tables = tables (its one) (its two) (its three);
      inputs = cond (first Provider) l.inputs l'.inputs;
      tapes = mixed_tapes first l.tapes l'.tapes;
    }

-- promised by `mixed_runs`: let two runs that have programs leave the same received lists. Then a run in which each
-- party has its own part and its tape from the one or from the other leaves these lists too, and each miner ends with
-- the table that it has after the run from which its part and tape come
pub record MixedRuns (runs : Place → Lent → RunResult) (p : Place) (l l' : Lent) (first : Party → Bool) : Type 0 where
  pub received : (runs p l).lent.received ≡ (runs p l').lent.received
      → (runs p (mixed_lent first l l')).lent.received ≡ (runs p l).lent.received
  pub tables : (runs p l).lent.received ≡ (runs p l').lent.received
      → (i : Miner) → table i (runs p (mixed_lent first l l')).lent.tables
      ≡ cond (first (owner i)) (table i (runs p l).lent.tables) (table i (runs p l').lent.tables)
