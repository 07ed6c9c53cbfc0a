-- Refusals 12 and 13: a command's protocol finds them, on the unfilled part of each list.
use Prim.Native.Nat.{◌+◌, ◌-◌, ◌≤◌, ◌<◌}
use mathlib.Core.Path.{◌≡◌, refl, sym, subst, ◌∙◌}
use mathlib.Core.Bool.{Bool, true, false}
use native.Mathlib.Omega.{arith}
use lib.ListN.{length, length-drop}
use Rattle.protocols.specs.Outcome.{Outcome}
use Rattle.protocols.specs.declared.place.Drawn.{Drawn}
use Rattle.protocols.specs.declared.place.Party.{Party}
use Rattle.protocols.specs.declared.place.Place.{Place}
use Rattle.protocols.specs.declared.place.Received.{Received}
use Rattle.protocols.specs.declared.shares.Shares.{Shares}
use Rattle.protocols.specs.Shares.{one, two, three}
use Rattle.protocols.specs.Place.{Tapes, tape, Lists, Receiver, miner, controller, list, count, advance, block}
use Rattle.protocols.specs.Protocol.{Protocol, ProtocolAnswer, done, perform}
use Rattle.protocols.specs.Counts.{list_lengths, count_for}
use Rattle.protocols.proofs.Laws.Counts.{due-list_lengths}
use Rattle.protocols.specs.declared.outcome.Shortage.{Shortage}
use Rattle.protocols.specs.declared.outcome.Shortage.TheVariants.{TapeSpent, ListFull}
use Rattle.protocols.specs.Outcome.{shortage_number, success, failure, delivery_of, delivery, with_fronts}
use Rattle.protocols.specs.Claims.{Lacks}
use Rattle.protocols.proofs.Laws.Perform.{on_tapes}
use Rattle.protocols.proofs.Laws.Deliveries.{delivers}
use Rattle.machine.specs.Table.{Code, row}
use Rattle.machine.specs.declared.code.Command.{Command}
use Rattle.machine.specs.declared.arguments.Arguments.{Arguments}
use Rattle.machine.specs.Refusal as table
use Rattle.machine.specs.Lent.{Lent, tape_lengths, sizes}
use Rattle.machine.specs.Verdict.{Verdict, Accepted, Refused, tapes_have, lists_have, supply_verdict}
use Rattle.machine.specs.Steps.{protocol}
use Rattle.machine.specs.Command.{arguments}
use Rattle.machine.specs.Private.Accept.{IsReady, unfilled_part}
use Rattle.machine.proofs.Laws.Tests.{Decides, holds, fails, some_tape, some_list}
use Rattle.machine.proofs.Laws.Steps.{count-lengths, performs}
use Rattle.machine.proofs.Laws.Lawful.{lawful}

-- each list is at least as long as its filled part
filled-within : {x : Code} {c : Command} {p : Place} {l : Lent} → IsReady x c p l → (r : Receiver) → count_for r p.received ≤ length (list r l.received)
filled-within ready (miner one) = ready.one
filled-within ready (miner two) = ready.two
filled-within ready (miner three) = ready.three
filled-within ready controller = ready.controller

-- the length of the unfilled part of a list
pub unfilled-length : (k : Received) (l : Lists) (r : Receiver) → length (list r (unfilled_part k l)) ≡ length (list r l) - count_for r k
unfilled-length k l (miner one) = length-drop k.one l.one
unfilled-length k l (miner two) = length-drop k.two l.two
unfilled-length k l (miner three) = length-drop k.three l.three
unfilled-length k l controller = length-drop k.controller l.controller

module _ (x : Code) (c : Command) (p : Place) (l : Lent) where
  -- the command's protocol, its arguments, the words that it draws, and the lists for those that it sends
  abbrev pub f : Protocol Arguments Shares
  f = protocol 5 x c.b

  abbrev pub g : Arguments
  g = arguments l.tables l.inputs p c

  abbrev pub drawn : Tapes
  drawn = block f.draws p l.tapes

  abbrev pub part : Lists
  part = unfilled_part p.received l.received

  abbrev verdict : Verdict
  verdict = supply_verdict (row 5 x) p (sizes l) (Accepted x)

-- the protocol's outcome o and lists b are those of the verdict
pub data FollowsVerdict (x : Code) (c : Command) (p : Place) (l : Lent) (o : Outcome) (b : Lists) : Type 0 where
  with_shortage : (s : Shortage) → supply_verdict (row 5 x) p (sizes l) (Accepted x) ≡ Refused (table.shortage_refusal s) → delivery_of o b ≡ delivery_of (failure (shortage_number s) p) (part x c p l)
      → FollowsVerdict x c p l o b
  without_shortage : supply_verdict (row 5 x) p (sizes l) (Accepted x) ≡ Accepted x → ((r : Receiver) → count_for r p.received + count_for r (row 5 x).received ≤ length (list r l.received))
      → delivery_of o b ≡ delivery_of (success ((f x c p l).result (g x c p l) (drawn x c p l)) (advance p (row 5 x).drawn)) (with_fronts (part x c p l) ((f x c p l).received (g x c p l) (drawn x c p l)))
      → FollowsVerdict x c p l o b

pub outcome_follows_verdict : (x : Code) (c : Command) (p : Place) (l : Lent) → IsReady x c p l → {o : Outcome} {b : Lists}
    → delivery_of o b ≡ delivery p (perform (protocol 5 x c.b) (arguments l.tables l.inputs p c) p l.tapes) (unfilled_part p.received l.received) → FollowsVerdict x c p l o b
outcome_follows_verdict x c p l ready {o} {b} e = by_tapes (tapes_have (row 5 x) p (sizes l)) refl (some_tape (λ i. count i (row 5 x).drawn) (λ i. count i (tape_lengths l.tapes) - count i p.drawn))
  where
    short_tape : Party → Type 0
    short_tape i = count i (tape_lengths l.tapes) - count i p.drawn < count i (row 5 x).drawn

    short_list : Receiver → Type 0
    short_list r = count_for r (list_lengths l.received) - count_for r p.received < count_for r (row 5 x).received

    to : ProtocolAnswer Shares → Type 0
    to a = delivery_of o b ≡ delivery p a (part x c p l)

    words : (r : Receiver) → length (list r ((f x c p l).received (g x c p l) (drawn x c p l))) ≡ count_for r (row 5 x).received
    words r = ((lawful x).counted 5 c.b).long (g x c p l) (drawn x c p l) r

    lacks : (i : Party) → short_tape i → Lacks (f x c p l).draws p l.tapes i
    lacks i h = subst (λ (d : Drawn). length (tape i l.tapes) - count i p.drawn < count i d) (sym ((lawful x).counted 5 c.b).drawn) (omega (arith, h, count-lengths i l.tapes))

    by_lists : tapes_have (row 5 x) p (sizes l) ≡ true → to (done ((f x c p l).result (g x c p l) (drawn x c p l)) ((f x c p l).received (g x c p l) (drawn x c p l)) (advance p (row 5 x).drawn))
        → (j : Bool) → lists_have (row 5 x) p (sizes l) ≡ j → Decides ((r : Receiver) × short_list r) j → FollowsVerdict x c p l o b
    by_lists t made true m (holds h) =
        let fit : (r : Receiver) → ¬ (length (list r l.received) - count_for r p.received < count_for r (row 5 x).received) = λ r s. h (r, omega (arith, s, due-list_lengths r l.received)) in
        without_shortage (rw (t, m)) (λ r. omega (arith, fit r, filled-within ready r))
        (made ∙ (delivers p (part x c p l) ((f x c p l).result (g x c p l) (drawn x c p l)) ((f x c p l).received (g x c p l) (drawn x c p l)) (advance p (row 5 x).drawn)).done_if (λ r. omega (arith, fit r, filled-within ready r, unfilled-length p.received l.received r, words r)))
    by_lists t made false m (fails s) =
        let r = s.0 in
        with_shortage ListFull (rw (t, m))
        (made ∙ (delivers p (part x c p l) ((f x c p l).result (g x c p l) (drawn x c p l)) ((f x c p l).received (g x c p l) (drawn x c p l)) (advance p (row 5 x).drawn)).full_if r (omega (arith, s.1, due-list_lengths r l.received, unfilled-length p.received l.received r, words r)))

    by_tapes : (i : Bool) → tapes_have (row 5 x) p (sizes l) ≡ i → Decides ((i : Party) × short_tape i) i → FollowsVerdict x c p l o b
    by_tapes true t (holds h) =
        by_lists t (subst to (performs 5 x c.b (g x c p l) p p l.tapes refl (λ i s. h (i, omega (arith, s, count-lengths i l.tapes)))) e)
        (lists_have (row 5 x) p (sizes l)) refl (some_list (λ r. count_for r (row 5 x).received) (λ r. count_for r (list_lengths l.received) - count_for r p.received))
    by_tapes false t (fails s) = with_shortage TapeSpent (rw t) (subst to ((on_tapes (f x c p l) (g x c p l) p l.tapes).spent_if s.0 (lacks s.0 s.1)) e)
