-- Every run has four programs that give it; Specification: Parties apart.
use Rattle.std.proofs.Common.{◌≡◌, ℕ, List, take, refl, sym, ap, subst, ◌∙◌}
use Rattle.protocols.specs.declared.place.Party.{Party}
use Rattle.protocols.specs.declared.place.Party.TheVariants.{Provider, One, Two, Three}
use Rattle.protocols.specs.declared.place.Place.{Place}
use Rattle.protocols.specs.Place.{Tapes, rest, Lists, list}
use Rattle.protocols.specs.Counts.{count_for}
use Rattle.protocols.specs.Parties.{Connection, connection, connect, for_party}
use Rattle.protocols.specs.Alone.{alone, sends_of, Agree}
use Rattle.protocols.proofs.Laws.Apart.Alone.{by_itself}
use Rattle.machine.specs.declared.code.Command.{Command}
use Rattle.machine.specs.declared.lent.Sizes.{Sizes}
use Rattle.machine.specs.Lent.{Lent, sizes}
use Rattle.machine.specs.Run.{run, run_to_refusal}
use Rattle.machine.specs.Claims.{Appended}
use Rattle.machine.specs.Apart.{own_part, Programs, process_of, ComesTo, HasPrograms, RunsApart}
use Rattle.machine.proofs.Laws.Blind.Public.{place_at_end, kinds_at_end, replies_to, tried}
use Rattle.machine.proofs.Laws.Blind.RunProtocol.{run_protocol, with_tapes, run_follows}
use Rattle.machine.proofs.Laws.Blind.Refusal.{run-to}
use Rattle.machine.proofs.Laws.Apart.Commands.{commands_apart}
use Rattle.machine.proofs.Laws.Apart.Received.{commands_appended}
pub mod Commands
pub mod Received
pub mod Words
pub mod View
pub mod Mixed

-- a party's own part does not depend on the tapes
own_part-with_tapes : (i : Party) (t : Tapes) (l : Lent) → own_part i l ≡ own_part i (with_tapes t l)
own_part-with_tapes Provider t l = refl
own_part-with_tapes One t l = refl
own_part-with_tapes Two t l = refl
own_part-with_tapes Three t l = refl

-- each party by itself gives what the connected four give, and no other words agree with the four
abbrev Settled : Programs → Place → Lent → Connection (List ℕ) → Type 0
Settled P p l c =
    ((i : Party) → alone (List ℕ) P.rounds i c.sent (process_of P p l i) (for_party i c.received)
    ≡ record { ends = c.ends i; sends = sends_of (List ℕ) P.rounds (process_of P p l) i })
    × ((w : Lists) → Agree (List ℕ) P.rounds c.sent (process_of P p l) w → w ≡ c.received)

settled : (P : Programs) (p : Place) (l : Lent) (c : Connection (List ℕ))
    → connect P.rounds (process_of P p l) ≡ c → Settled P p l c
settled P p l c e = let law = by_itself P.rounds (process_of P p l) in subst (Settled P p l) e (law.alike, law.only)

-- ---- past refusals

-- the programs: one command after the other
abbrev programs : ℕ → List Command → Place → Sizes → List ℕ → Programs
programs n cs p z k =
    let F = commands_apart n cs p z k in
    record {
      rounds = F.rounds;
      timetable = F.timetable;
      program = F.program;
      replies = replies_to n cs p z k;
      place = place_at_end n cs p z k;
      kinds = kinds_at_end n cs p z k;
    }

comes_to : (n : ℕ) (cs : List Command) (p : Place) (z : Sizes) (k : List ℕ) (l : Lent)
    → sizes l ≡ z → l.kinds ≡ k → ComesTo (programs n cs p z k) p l (run n cs p l)
comes_to n cs p z k l e f =
    let P = programs n cs p z k in
    let F = run_protocol n cs p z k in
    let b = rest p.drawn l.tapes in
    let w = F.received l b in
    let now = (run n cs p l).lent in
    let follows = run_follows n cs p z k l l.tapes e f in
    let then_own : (i : Party) → own_part i (F.result l b) ≡ own_part i now =
    λ i. own_part-with_tapes i l.tapes (F.result l b) ∙ sym (ap (own_part i) follows.leaves-lent) in
    let c = connection (λ i. own_part i now) w P.timetable in
    let plays : connect P.rounds (process_of P p l) ≡ c =
    (commands_apart n cs p z k).plays l b ∙ (λ j. connection (λ i. then_own i j) w P.timetable) in
    record {
      words = w;
      plays = plays;
      gain = λ r.
          subst (λ (m : Lent). Appended (list r l.received) (count_for r p.received) (list r w) (list r m.received))
          (sym follows.leaves-lent) (commands_appended n cs p z k l b e f r);
      replies = follows.answers;
      place = follows.ends;
      kinds = follows.kinds;
      tapes = ap (λ (m : Lent). m.tapes) follows.leaves-lent;
      by_itself = (settled P p l c plays).0;
      only = (settled P p l c plays).1;
    }

run_apart : (n : ℕ) (cs : List Command) (p : Place) (z : Sizes) (k : List ℕ) → HasPrograms (run n cs) p z k
run_apart n cs p z k = (programs n cs p z k, comes_to n cs p z k)

-- ---- up to the first refusal, which is public

pub run_apart_to_refusal : (n : ℕ) (cs : List Command) (p : Place) (z : Sizes) (k : List ℕ)
    → HasPrograms (run_to_refusal n cs) p z k
run_apart_to_refusal n cs p z k =
    let ds = take (tried n cs p z k) cs in
    let P = programs n ds p z k in
    let as_tried : (l : Lent) → sizes l ≡ z → l.kinds ≡ k → run_to_refusal n cs p l ≡ run n ds p l =
    λ l e f. run-to n cs p l ∙ (λ i. run n (take (tried n cs p (e i) (f i)) cs) p l) in
    (P, λ l e f. subst (ComesTo P p l) (sym (as_tried l e f)) (comes_to n ds p z k l e f))

pub runs_apart : (n : ℕ) (cs : List Command) (p : Place) (z : Sizes) (k : List ℕ) → RunsApart n cs p z k
runs_apart n cs p z k =
    record { past_refusals = run_apart n cs p z k; to_refusal = run_apart_to_refusal n cs p z k }
