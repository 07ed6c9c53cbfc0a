-- The code's steps from a command's row on give the command's outcome.
use Prim.Native.Nat.{ℕ, ◌+◌, ◌-◌, ◌≤◌, ◌<◌, ◌^◌}
use mathlib.Core.Path.{◌≡◌, refl, sym, ap, ◌∙◌}
use mathlib.Core.List.{List, ◌++◌}
use native.Mathlib.Omega.{arith}
use Rattle.std.proofs.Math.Nat.{mod-eq_of_lt}
use lib.ListN.{length, take, drop, take-append-drop}
use Rattle.protocols.specs.Outcome.{Outcome}
use Rattle.protocols.specs.declared.place.Place.{Place}
use Rattle.protocols.specs.declared.place.Received.{Received}
use Rattle.protocols.specs.Shares.{one, two, three}
use Rattle.protocols.specs.Place.{Lists, lists, Receiver, miner, controller, list, advance}
use Rattle.protocols.specs.Protocol.{perform}
use Rattle.protocols.specs.Counts.{with_more, count_for}
use Rattle.protocols.specs.declared.outcome.Shortage.{Shortage}
use Rattle.protocols.specs.declared.outcome.Shortage.TheVariants.{TapeSpent, ListFull}
use Rattle.protocols.specs.Outcome.{shortage_number, failure, delivery_of, delivery, with_fronts}
use Rattle.protocols.proofs.Laws.Puts.{tail_lent, tail_back, tail_sets}
use Rattle.machine.specs.declared.answer.Answer.{Answer}
use Rattle.machine.specs.Table.{Code, row, with_row}
use Rattle.machine.specs.declared.code.Command.{Command}
use Rattle.machine.specs.declared.arguments.Arguments.{Arguments}
use Rattle.machine.specs.declared.row.Row.{Row}
use Rattle.machine.specs.Refusal as table
use Rattle.machine.specs.Lent.{Tables, Lent, lent_lists, sizes}
use Rattle.machine.specs.Verdict.{Verdict, Accepted, supply_verdict}
use Rattle.machine.specs.Steps.{protocol}
use Rattle.machine.specs.Command.{answer, command_outcome, arguments, opened_word, with_received, verdict_outcome, accepted_outcome}
use Rattle.machine.specs.Private.Accept.{IsReady, Serves, Fits, with_row_counts, unfilled_part, TableEntries, table_entries, with_new_entry, store_outcome, outcome_after_protocol}
use Rattle.machine.proofs.Laws.Rows.{refusal_number-positive}
use Rattle.machine.proofs.Laws.Supply.{FollowsVerdict, with_shortage, without_shortage, f, g, drawn, outcome_follows_verdict}
use Rattle.machine.proofs.Laws.Lawful.{lawful}

-- ---- the received lists of all parties

-- each list, with its filled part as in l and its unfilled part as in b
abbrev behind : Received → Lists → Lists → Lists
behind k l b =
    lists (take k.one l.one ++ b.one) (take k.two l.two ++ b.two) (take k.three l.three ++ b.three) (take k.controller l.controller ++ b.controller)

all_words : (p : Place) (l w : Lists) → ((r : Receiver) → count_for r p.received + length (list r w) ≤ length (list r l))
    → behind p.received l (with_fronts (unfilled_part p.received l) w) ≡ with_received l p w
all_words p l w h = λ i.
    lists (tail_sets l.one w.one p.received.one (h (miner one)) i) (tail_sets l.two w.two p.received.two (h (miner two)) i)
    (tail_sets l.three w.three p.received.three (h (miner three)) i) (tail_sets l.controller w.controller p.received.controller (h controller) i)

no_words : (k : Received) (l : Lists) → behind k l (unfilled_part k l) ≡ l
no_words k l = λ i.
    lists (take-append-drop k.one l.one i) (take-append-drop k.two l.two i) (take-append-drop k.three l.three i)
    (take-append-drop k.controller l.controller i)

-- ---- sums of counts that fit a machine word

pub counted_fits : (p : Place) (x : Row) → Fits p x → with_more x.values x.inputs x.received p ≡ with_row_counts p x
counted_fits p x f =
    cc (
      mod-eq_of_lt f.handles,
      mod-eq_of_lt f.inputs,
      mod-eq_of_lt f.one,
      mod-eq_of_lt f.two,
      mod-eq_of_lt f.three,
      mod-eq_of_lt f.controller,
    )

-- ---- after a protocol

-- the number of a shortage is that of the refusal
shortage_number-refusal : (s : Shortage) → shortage_number s ≡ table.refusal_number (table.shortage_refusal s)
shortage_number-refusal TapeSpent = refl
shortage_number-refusal ListFull = refl

-- if the protocol is done, the place record moved on by the row fits 64 bits
pub fits_if_done : (x : Code) (c : Command) (p : Place) (l : Lent) → IsReady x c p l → length l.tables.one < 2 ^ 64 → length l.inputs < 2 ^ 64
    → length l.received.one < 2 ^ 64 → length l.received.two < 2 ^ 64 → length l.received.three < 2 ^ 64 → length l.received.controller < 2 ^ 64
    → {r : Row} {o : Outcome} {b : Lists} → r ≡ row 5 x → FollowsVerdict x c p l o b → o.number ≡ 0 → Fits o.place r
fits_if_done x c p l ready h i j k m n er (with_shortage s e is) z =
    absurd (omega (arith, sym z ∙ (λ i. (is i).outcome.number) ∙ shortage_number-refusal s, refusal_number-positive (table.shortage_refusal s)))
fits_if_done x c p l ready h i j k m n {r} {o} er (without_shortage e fit is) z =
    let q : o.place ≡ advance p (row 5 x).drawn = λ i. (is i).outcome.place in
    rw (q, er) (record {
      handles = omega (arith, h, ready.entries.one);
      inputs = omega (arith, i, ready.inputs);
      one = omega (arith, j, fit (miner one));
      two = omega (arith, k, fit (miner two));
      three = omega (arith, m, fit (miner three));
      controller = omega (arith, n, fit controller);
    })

-- after a shortage nothing changes
finish_lacking : (x : Row) (p : Place) (t : Tables) (kinds : List ℕ) (s : Shortage)
    → outcome_after_protocol x p (failure (shortage_number s) p) t kinds ≡ store_outcome (answer (table.refusal_number (table.shortage_refusal s)) p 0) (table_entries t kinds)
finish_lacking x p t kinds TapeSpent = refl
finish_lacking x p t kinds ListFull = refl

is_accepted : (x : Code) (c : Command) (p : Place) (l : Lent) → let y = (f x c p l).result (g x c p l) (drawn x c p l) in
    let s = with_new_entry (row 5 x).values p.handles y (row 5 x).kind l.tables l.kinds in
    command_outcome (answer 0 (with_row p (row 5 x)) (opened_word 5 (row 5 x) y))
    (lent_lists s.tables s.kinds l.inputs l.tapes (with_received l.received p ((f x c p l).received (g x c p l) (drawn x c p l))))
    ≡ accepted_outcome 5 x c p l
unfolding accepted_outcome with_new_entry
is_accepted x c p l = refl

-- the outcome of the command, after a shortage and after a protocol that is done
stored_command_outcome : (x : Code) (c : Command) (p : Place) (l : Lent) → {o : Outcome} {b : Lists} → FollowsVerdict x c p l o b → let e = outcome_after_protocol (row 5 x) p o l.tables l.kinds in
    command_outcome e.answer (lent_lists e.stored.tables e.stored.kinds l.inputs l.tapes (behind p.received l.received b))
    ≡ verdict_outcome 5 (supply_verdict (row 5 x) p (sizes l) (Accepted x)) c p l
stored_command_outcome x c p l {o} {b} (with_shortage s e d) =
    (λ i. let e = outcome_after_protocol (row 5 x) p (d i).outcome l.tables l.kinds in
    command_outcome e.answer (lent_lists e.stored.tables e.stored.kinds l.inputs l.tapes (behind p.received l.received (d i).lists)))
    ∙ (λ i. let e = finish_lacking (row 5 x) p l.tables l.kinds s i in
    command_outcome e.answer (lent_lists e.stored.tables e.stored.kinds l.inputs l.tapes (no_words p.received l.received i)))
    ∙ sym (ap (λ (v : Verdict). verdict_outcome 5 v c p l) e)
stored_command_outcome x c p l {o} {b} (without_shortage e fit d) =
    let y = (f x c p l).result (g x c p l) (drawn x c p l) in
    let w = (f x c p l).received (g x c p l) (drawn x c p l) in
    let words : (r : Receiver) → count_for r p.received + length (list r w) ≤ length (list r l.received) = λ r. omega (arith, fit r, ((lawful x).counted 5 c.b).long (g x c p l) (drawn x c p l) r) in
    let s = with_new_entry (row 5 x).values p.handles y (row 5 x).kind l.tables l.kinds in
    (λ i. let s = outcome_after_protocol (row 5 x) p (d i).outcome l.tables l.kinds in
    command_outcome s.answer (lent_lists s.stored.tables s.stored.kinds l.inputs l.tapes (behind p.received l.received (d i).lists)))
    ∙ (λ i. command_outcome (answer 0 (with_row p (row 5 x)) (opened_word 5 (row 5 x) y)) (lent_lists s.tables s.kinds l.inputs l.tapes (all_words p l.received w words i)))
    ∙ is_accepted x c p l
    ∙ sym (ap (λ (v : Verdict). verdict_outcome 5 v c p l) e)

-- the unfilled parts that the code lends, and the lists with these parts returned
abbrev lent_part : Received → Lists → Lists
lent_part k l =
    lists (take (length l.one - k.one) (drop k.one l.one)) (take (length l.two - k.two) (drop k.two l.two))
    (take (length l.three - k.three) (drop k.three l.three)) (take (length l.controller - k.controller) (drop k.controller l.controller))

abbrev had_back : Received → Lists → Lists → Lists
had_back k l b =
    lists (take k.one l.one ++ (b.one ++ drop (length l.one - k.one) (drop k.one l.one)))
    (take k.two l.two ++ (b.two ++ drop (length l.two - k.two) (drop k.two l.two)))
    (take k.three l.three ++ (b.three ++ drop (length l.three - k.three) (drop k.three l.three)))
    (take k.controller l.controller ++ (b.controller ++ drop (length l.controller - k.controller) (drop k.controller l.controller)))

module _ (x : Code) (c : Command) (p : Place) (l : Lent) (ready : IsReady x c p l) where
  pub played_follows_verdict : (q : Arguments) {o : Outcome} {b : Lists} → Serves (row 5 x) q (arguments l.tables l.inputs p c)
      → delivery_of o b ≡ delivery p (perform (protocol 5 x c.b) q p l.tapes) (lent_part p.received l.received) → FollowsVerdict x c p l o b
  played_follows_verdict q {o} {b} eg eo =
      let k = p.received in
      let m = l.received in
      outcome_follows_verdict x c p l ready
      (eo
      ∙ (λ i. delivery p ((lawful x).same_outcome c.b p l.tapes q (arguments l.tables l.inputs p c) eg i)
      (lists (tail_lent m.one k.one i) (tail_lent m.two k.two i) (tail_lent m.three k.three i) (tail_lent m.controller k.controller i))))

  pub played_command_outcome : {r : Row} {o : Outcome} {b : Lists} {a : Answer} {e : TableEntries} → r ≡ row 5 x → FollowsVerdict x c p l o b → store_outcome a e ≡ outcome_after_protocol r p o l.tables l.kinds
      → command_outcome a (lent_lists e.tables e.kinds l.inputs l.tapes (had_back p.received l.received b))
      ≡ verdict_outcome 5 (supply_verdict (row 5 x) p (sizes l) (Accepted x)) c p l
  played_command_outcome {r} {o} {b} {a} {e} er told ee =
      let k = p.received in
      let m = l.received in
      let is : store_outcome a e ≡ outcome_after_protocol (row 5 x) p o l.tables l.kinds = ee ∙ (λ i. outcome_after_protocol (er i) p o l.tables l.kinds) in
      (λ i. command_outcome (is i).answer
      (lent_lists (is i).stored.tables (is i).stored.kinds l.inputs l.tapes
      (lists (tail_back m.one k.one b.one i) (tail_back m.two k.two b.two i) (tail_back m.three k.three b.three i) (tail_back m.controller k.controller b.controller i))))
      ∙ stored_command_outcome x c p l told
