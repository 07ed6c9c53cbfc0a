-- What follows from the code's tests 6 to 11, for the verdict and for what the command reads and writes.
use Prim.Native.Nat.{ℕ, ◌+◌, ◌≤◌}
use mathlib.Core.Path.{◌≡◌, sym, ap}
use mathlib.Core.Bool.{true, ◌&&◌}
use mathlib.Core.List.{List}
use native.Mathlib.Omega.{arith}
use borrow.Author.Tests.{leb-true}
use lib.ListN.{length, take}
use lib.Dec.{leb}
use Rattle.std.specs.Prelude.{nat_lt, nat_le}
use Rattle.protocols.specs.declared.place.Place.{Place}
use Rattle.protocols.specs.Shares.{Miner, one, two, three}
use Rattle.protocols.specs.Place.{Receiver, miner, controller}
use Rattle.protocols.specs.Counts.{count_for}
use Rattle.protocols.proofs.Laws.Deliveries.{both}
use Rattle.machine.specs.Table.{Code, row}
use Rattle.machine.specs.declared.code.Command.{Command}
use Rattle.machine.specs.declared.lent.Sizes.{Sizes}
use Rattle.machine.specs.declared.row.Row.{Row}
use Rattle.machine.specs.declared.row.Use.{Use}
use Rattle.machine.specs.declared.row.Use.TheVariants.{Unused, Handle, Word, Position}
use Rattle.machine.specs.Lent.{table, Lent, sizes}
use Rattle.machine.specs.Verdict.{Verdict, CheckResult, pass, after_checks, same_length, is_within, are_kinds, meets, is_filled, is_sound, row_checks, supply_verdict, row_verdict}
use Rattle.machine.specs.Private.Accept.{HaveEntries, HasEntry, IfHandle, IsReady}
use Rattle.machine.proofs.Laws.Accepted.{every_list_lem, refusal_passed, room, places_within}
use Rattle.machine.proofs.Laws.Judge.{same-lengths}

-- the verdict, from the result of the tests 6 to 11
pub judged_by : (n : ℕ) (x : Row) (c : Command) (p : Place) (z : Sizes) (kinds : List ℕ) (next : Verdict) {r : CheckResult}
    → r ≡ row_checks n x c p z.one z.inputs kinds → row_verdict n x c p z kinds next ≡ after_checks r (supply_verdict x p z next)
unfolding row_verdict
judged_by n x c p z kinds next e = ap (λ (q : CheckResult). after_checks q (supply_verdict x p z next)) (sym e)

-- ---- if refusal 4 does not apply

module _ (p : Place) (l : Lent) (s : is_sound p (sizes l) l.kinds ≡ true) where
  as_long : (i : Miner) → length (table i l.tables) ≡ length l.kinds
  as_long = same-lengths l (both (same_length (sizes l)) (is_within p (sizes l) && are_kinds (take p.handles l.kinds)) s).0

  -- if the first table has n entries, all have
  entries_of : (n : ℕ) → n ≤ length l.tables.one → HaveEntries n l.tables l.kinds
  entries_of n h = record {
    one = h;
    two = omega (arith, h, as_long one, as_long two);
    three = omega (arith, h, as_long one, as_long three);
    kinds = omega (arith, h, as_long one);
  }

  -- each table has an entry of a filled handle
  entered_of : (u : Use) (h : ℕ) → meets u true (is_filled p h) true ≡ true → IfHandle u (HasEntry l.tables h)
  entered_of Unused h e = tt
  entered_of Handle h e =
      let t = both (nat_lt 0 h) (nat_le h p.handles) e in
      let k = entries_of h (omega (arith, leb-true _ _ t.1, leb-true _ _ (places_within p (sizes l) l.kinds s).0)) in
      record { counted = leb-true _ _ t.0; one = k.one; two = k.two; three = k.three }
  entered_of Word h e = tt
  entered_of Position h e = tt

-- if none of 6 to 11 applies either, the entries and words that the command reads and writes are there
pub is_ready : (x : Code) (c : Command) (p : Place) (l : Lent) → is_sound p (sizes l) l.kinds ≡ true
    → pass ≡ row_checks 5 (row 5 x) c p (sizes l).one (sizes l).inputs l.kinds → IsReady x c p l
is_ready x c p l s e =
    let w = places_within p (sizes l) l.kinds s in
    let t = refusal_passed 5 (row 5 x) c p (sizes l).one (sizes l).inputs l.kinds (sym e) in
    let handles = both (meets (row 5 x).a true (is_filled p c.a) true) (meets (row 5 x).b true (is_filled p c.b) true) t.1 in
    let is_within : (r : Receiver) → count_for r p.received ≤ count_for r (sizes l).received =
    λ r. leb-true _ _ (every_list_lem (λ j. leb (count_for j p.received) (count_for j (sizes l).received)) w.3 r) in
    record {
      entries = entries_of p l s (p.handles + (row 5 x).values) (room p.handles (length l.tables.one) (row 5 x).values w.0 t.4);
      a = entered_of p l s (row 5 x).a c.a handles.0;
      b = entered_of p l s (row 5 x).b c.b handles.1;
      inputs = room p.inputs (length l.inputs) (row 5 x).inputs w.1 t.5;
      one = is_within (miner one);
      two = is_within (miner two);
      three = is_within (miner three);
      controller = is_within controller;
    }
