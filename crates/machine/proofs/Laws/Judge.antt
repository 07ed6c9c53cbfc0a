-- The register machine, which judges by the kinds of its registers, gives the command's verdict.
use Prim.Native.Nat.{ℕ, ◌-◌}
use mathlib.Core.Path.{◌≡◌, refl, ap, ap₂, ◌∙◌}
use mathlib.Core.Bool.{Bool, true, false, ◌&&◌}
use mathlib.Core.List.{List, map}
use native.Mathlib.Nat.{le_refl}
use native.Mathlib.Omega.{arith}
use borrow.Author.Tests.{ltb-true, leb-true, eqb-true}
use lib.ListN.{length, take}
use lib.Seq.{take-take, get_or-take}
use lib.Dec.{ltb, leb, eqb}
use Rattle.std.specs.Prelude.{Result, Ok, Err}
use Rattle.protocols.specs.declared.place.Place.{Place}
use Rattle.protocols.specs.Shares.{Miner, one, two, three}
use Rattle.machine.specs.declared.refusal.Refusal.{Refusal}
use Rattle.machine.specs.declared.refusal.Refusal.TheVariants.{LentUnsoundly, FieldNotZero, HandleNotFilled, WrongKind, PositionOutside, TablesFull, InputsUsed}
use Rattle.machine.specs.Table.{Code, code_named, kind_number, row}
use Rattle.machine.specs.declared.row.Use.{Use}
use Rattle.machine.specs.declared.row.Use.TheVariants.{Unused, Handle, Word, Position}
use Rattle.machine.specs.declared.row.Row.{Row}
use Rattle.machine.specs.declared.lent.Sizes.{Sizes}
use Rattle.machine.specs.declared.code.Command.{Command}
use Rattle.machine.specs.Lent.{table, Lent, sizes, entry, IsFilled}
use Rattle.machine.specs.Verdict.{Verdict, Accepted, test, CheckResult, pass, check, after_checks, same_length, is_within, are_kinds, meets, is_filled, unused_zero, handles_filled, kinds_fit, in_word, tables_have, inputs_have, supply_verdict, row_verdict, code_verdict, verdict}
use Rattle.machine.specs.Registers.{judge}
use Rattle.machine.specs.Start.{register_of, up_to, starting_registers}
use Rattle.protocols.proofs.Laws.Deliveries.{both}
use Rattle.machine.proofs.Laws.Entries.{map-up_to, up_to-take}

-- ---- the verdict depends on the kinds of filled handles only

pub filled_is : (p : Place) (h : ℕ) → is_filled p h ≡ true → IsFilled p h
filled_is p h e = let t = both (ltb 0 h) (leb h p.handles) e in (ltb-true 0 h t.0, leb-true h p.handles t.1)

-- test 8 counts only if test 7 holds
fits_alike : (h k k' : Bool) (next : CheckResult) → (h ≡ true → k ≡ k')
    → check HandleNotFilled h (check WrongKind k next) ≡ check HandleNotFilled h (check WrongKind k' next)
fits_alike true k k' next e = ap (λ (b : Bool). check WrongKind b next) (e refl)
fits_alike false k k' next e = refl

-- the kinds count only if lengths and counts fit
sound-alike : (a b : Bool) (f : List ℕ → Bool) (v : List ℕ → Verdict) (k k' : List ℕ) → (a ≡ true → b ≡ true → k ≡ k')
    → test LentUnsoundly (a && (b && f k)) (v k) ≡ test LentUnsoundly (a && (b && f k')) (v k')
sound-alike true true f v k k' e = ap (λ (l : List ℕ). test LentUnsoundly (f l) (v l)) (e refl refl)
sound-alike true false f v k k' e = refl
sound-alike false b f v k k' e = refl

module _ (n : ℕ) (c : Command) (p : Place) (kinds : List ℕ) where
  field_fits : (u : Use) (h k : ℕ) → meets u true (is_filled p h) true ≡ true
      → meets u true (eqb (entry (take p.handles kinds) h) k) true ≡ meets u true (eqb (entry kinds h) k) true
  field_fits Unused h k e = refl
  field_fits Handle h k e =
      let f = filled_is p h e in
      ap (λ (w : ℕ). eqb w k) (get_or-take p.handles kinds (h - 1) 0 (omega (arith, f.0, f.1)))
  field_fits Word h k e = refl
  field_fits Position h k e = refl

  kinds_fit_lem : (x : Row) → handles_filled x p c ≡ true → kinds_fit x (take p.handles kinds) c ≡ kinds_fit x kinds c
  kinds_fit_lem x e =
      let t = both (meets x.a true (is_filled p c.a) true) (meets x.b true (is_filled p c.b) true) e in
      ap₂ ◌&&◌ (field_fits x.a c.a (kind_number x.operands) t.0) (field_fits x.b c.b (kind_number x.operands) t.1)

module _ (n : ℕ) (c : Command) (p : Place) (z : Sizes) (kinds : List ℕ) where
  looked_up-taken : (y : Result Code Refusal) → code_verdict n y c p z (take p.handles kinds) ≡ code_verdict n y c p z kinds
  unfolding row_verdict
  looked_up-taken (Ok x) =
      ap (λ (r : CheckResult). after_checks (check FieldNotZero (unused_zero (row n x) c) r) (supply_verdict (row n x) p z (Accepted x)))
      (fits_alike (handles_filled (row n x) p c) (kinds_fit (row n x) (take p.handles kinds) c) (kinds_fit (row n x) kinds c)
      (check PositionOutside (in_word n (row n x) c) (check TablesFull (tables_have (row n x) p z.one) (check InputsUsed (inputs_have (row n x) p z.inputs) pass)))
      (kinds_fit_lem n c p kinds (row n x)))
  looked_up-taken (Err r) = refl

  verdict-taken : verdict n c p z (take p.handles kinds) ≡ verdict n c p z kinds
  unfolding verdict
  verdict-taken =
      ap₂ (λ (t : Bool) (v : Verdict). test LentUnsoundly (same_length z && (is_within p z && t)) v)
      (ap are_kinds (take-take p.handles p.handles kinds (le_refl p.handles))) (looked_up-taken (code_named c.code))

  verdict-alike : (k : List ℕ) → (same_length z ≡ true → is_within p z ≡ true → k ≡ take p.handles kinds) → verdict n c p z k ≡ verdict n c p z kinds
  unfolding verdict
  verdict-alike k e =
      sound-alike (same_length z) (is_within p z) (λ l. are_kinds (take p.handles l)) (code_verdict n (code_named c.code) c p z) k (take p.handles kinds) e
      ∙ verdict-taken

pub same-lengths : (l : Lent) → same_length (sizes l) ≡ true → (i : Miner) → length (table i l.tables) ≡ length l.kinds
same-lengths l e = by_miner
  where
    t : Miner → Bool
    t i = eqb (length (table i l.tables)) (length l.kinds)

    by_miner : (i : Miner) → length (table i l.tables) ≡ length l.kinds
    by_miner one = eqb-true _ _ (both (t one) _ e).0
    by_miner two = eqb-true _ _ (both (t two) (t three) (both (t one) _ e).1).0
    by_miner three = eqb-true _ _ (both (t two) (t three) (both (t one) _ e).1).1

-- the register machine's verdict is the command's
pub judge-same : (n : ℕ) (c : Command) (p : Place) (l : Lent) → judge n c (sizes l) (starting_registers n p l) ≡ verdict n c p (sizes l) l.kinds
unfolding starting_registers
judge-same n c p l = verdict-alike n c p (sizes l) l.kinds (map (λ r. r.kind) (up_to p.handles (register_of n l))) kinds-held
  where
    kinds-held : same_length (sizes l) ≡ true → is_within p (sizes l) ≡ true → map (λ r. r.kind) (up_to p.handles (register_of n l)) ≡ take p.handles l.kinds
    kinds-held a b =
        map-up_to (λ r. r.kind) p.handles (register_of n l)
        ∙ up_to-take p.handles l.kinds (omega (arith, same-lengths l a one, leb-true p.handles (length l.tables.one) (both _ _ b).0))
