-- An accepted command has passed every test.
use Prim.Native.Nat.{ℕ, ◌+◌, ◌-◌, ◌≤◌}
use mathlib.Core.Path.{◌≡◌, refl, ap, subst}
use mathlib.Core.Bool.{Bool, true, false, ◌&&◌}
use mathlib.Core.List.{List}
use native.Mathlib.Omega.{arith}
use borrow.Author.Tests.{leb-true}
use lib.ListN.{take}
use lib.Dec.{leb}
use Rattle.std.specs.Prelude.{Result, Ok, Err}
use Rattle.protocols.specs.declared.place.Party.{Party}
use Rattle.protocols.specs.declared.place.Party.TheVariants.{Provider, One, Two, Three}
use Rattle.protocols.specs.declared.place.Place.{Place}
use Rattle.protocols.specs.Shares.{one, two, three}
use Rattle.protocols.specs.Place.{count, every_party, Receiver, miner, controller}
use Rattle.protocols.specs.Counts.{count_for}
use Rattle.protocols.proofs.Laws.Deliveries.{both}
use Rattle.machine.specs.declared.code.Command.{Command}
use Rattle.machine.specs.Table.{Code, code_named, row}
use Rattle.machine.specs.declared.refusal.Refusal.{Refusal}
use Rattle.machine.specs.declared.refusal.Refusal.TheVariants.{LentUnsoundly, FieldNotZero, HandleNotFilled, WrongKind, PositionOutside, TablesFull, InputsUsed, TapeSpent, ListFull}
use Rattle.machine.specs.declared.row.Row.{Row}
use Rattle.machine.specs.declared.lent.Sizes.{Sizes}
use Rattle.machine.specs.Verdict.{Verdict, Accepted, Refused, test, CheckResult, pass, check, after_checks, same_length, is_within, are_kinds, is_sound, every_receiver, unused_zero, handles_filled, kinds_fit, in_word, tables_have, inputs_have, tapes_have, lists_have, row_checks, supply_verdict, row_verdict, code_verdict, verdict}

-- ---- tests

-- a refused command is not accepted
refused_not : {r : Refusal} {x : Code} → Refused r ≡ Accepted x → ⊥
refused_not e = subst tells e tt
  where
    tells : Verdict → Type 0
    tells (Accepted x) = ⊥
    tells (Refused r) = Unit {0}

accepted-same : {x y : Code} → Accepted x ≡ Accepted y → x ≡ y
accepted-same {x} e = ap code_of e
  where
    code_of : Verdict → Code
    code_of (Accepted y) = y
    code_of (Refused r) = x

-- a test that a command has passed
test_passed : (r : Refusal) (b : Bool) (v : Verdict) {x : Code} → test r b v ≡ Accepted x → (b ≡ true) × (v ≡ Accepted x)
test_passed r true v e = (refl, e)
test_passed r false v e = absurd (refused_not e)

-- a result that is a refusal is not `pass`
pub ok_not : {r : Refusal} → let e : CheckResult = Err r in ¬ (e ≡ pass)
ok_not e = cc

-- if the verdict after several tests is acceptance, they all hold
all_held : (r : CheckResult) (next : Verdict) {x : Code} → after_checks r next ≡ Accepted x → (r ≡ pass) × (next ≡ Accepted x)
all_held (Ok tt) next e = (refl, e)
all_held (Err r) next e = absurd (refused_not e)

-- if six tests are passed, each of them holds
checks_passed : (a b c d e f : Bool)
    → check FieldNotZero a (check HandleNotFilled b (check WrongKind c (check PositionOutside d (check TablesFull e (check InputsUsed f pass))))) ≡ pass
    → (a ≡ true) × (b ≡ true) × (c ≡ true) × (d ≡ true) × (e ≡ true) × (f ≡ true)
checks_passed true true true true true true z = (refl, refl, refl, refl, refl, refl)
checks_passed true true true true true false z = absurd (ok_not z)
checks_passed true true true true false f z = absurd (ok_not z)
checks_passed true true true false e f z = absurd (ok_not z)
checks_passed true true false d e f z = absurd (ok_not z)
checks_passed true false c d e f z = absurd (ok_not z)
checks_passed false b c d e f z = absurd (ok_not z)

-- if none of the tests 6 to 11 refuses, each of them holds
pub refusal_passed : (n : ℕ) (x : Row) (c : Command) (p : Place) (entries inputs : ℕ) (kinds : List ℕ) → row_checks n x c p entries inputs kinds ≡ pass
    → (unused_zero x c ≡ true) × (handles_filled x p c ≡ true) × (kinds_fit x kinds c ≡ true) × (in_word n x c ≡ true) × (tables_have x p entries ≡ true)
    × (inputs_have x p inputs ≡ true)
refusal_passed n x c p entries inputs kinds =
    checks_passed (unused_zero x c) (handles_filled x p c) (kinds_fit x kinds c) (in_word n x c) (tables_have x p entries) (inputs_have x p inputs)

all_four : (a b c d : Bool) → (a && (b && (c && d))) ≡ true → (a ≡ true) × (b ≡ true) × (c ≡ true) × (d ≡ true)
all_four a b c d e =
    let e1 = both a (b && (c && d)) e in
    let e2 = both b (c && d) e1.1 in
    let e3 = both c d e2.1 in
    (e1.0, e2.0, e3.0, e3.1)

pub every_one : (f : Party → Bool) → every_party f ≡ true → (i : Party) → f i ≡ true
every_one f e Provider = (all_four (f Provider) (f One) (f Two) (f Three) e).0
every_one f e One = (all_four (f Provider) (f One) (f Two) (f Three) e).1
every_one f e Two = (all_four (f Provider) (f One) (f Two) (f Three) e).2
every_one f e Three = (all_four (f Provider) (f One) (f Two) (f Three) e).3

pub every_list_lem : (f : Receiver → Bool) → every_receiver f ≡ true → (r : Receiver) → f r ≡ true
every_list_lem f e (miner one) = (all_four (f (miner one)) (f (miner two)) (f (miner three)) (f controller) e).0
every_list_lem f e (miner two) = (all_four (f (miner one)) (f (miner two)) (f (miner three)) (f controller) e).1
every_list_lem f e (miner three) = (all_four (f (miner one)) (f (miner two)) (f (miner three)) (f controller) e).2
every_list_lem f e controller = (all_four (f (miner one)) (f (miner two)) (f (miner three)) (f controller) e).3

-- ---- an accepted command

pub record Passed (n : ℕ) (x : Code) (c : Command) (p : Place) (z : Sizes) (kinds : List ℕ) : Type 0 where
  pub known : code_named c.code ≡ Ok x
  pub four : is_sound p z kinds ≡ true
  pub six : unused_zero (row n x) c ≡ true
  pub seven : handles_filled (row n x) p c ≡ true
  pub eight : kinds_fit (row n x) kinds c ≡ true
  pub ten : tables_have (row n x) p z.one ≡ true
  pub eleven : inputs_have (row n x) p z.inputs ≡ true
  pub twelve : tapes_have (row n x) p z ≡ true
  pub thirteen : lists_have (row n x) p z ≡ true

pub all_passed : (n : ℕ) (x : Code) (c : Command) (p : Place) (z : Sizes) (kinds : List ℕ) → verdict n c p z kinds ≡ Accepted x → Passed n x c p z kinds
unfolding verdict row_verdict
all_passed n x c p z kinds e =
    let t4 = test_passed LentUnsoundly (is_sound p z kinds) (code_verdict n (code_named c.code) c p z kinds) e in
    by_lookup (code_named c.code) refl t4.0 t4.1
  where
    by_row : (y : Code) → code_named c.code ≡ Ok y → is_sound p z kinds ≡ true → row_verdict n (row n y) c p z kinds (Accepted y) ≡ Accepted x → Passed n y c p z kinds × (y ≡ x)
    by_row y k s f =
        let t = all_held (row_checks n (row n y) c p z.one z.inputs kinds) (supply_verdict (row n y) p z (Accepted y)) f in
        let h = refusal_passed n (row n y) c p z.one z.inputs kinds t.0 in
        let t12 = test_passed TapeSpent (tapes_have (row n y) p z) (test ListFull (lists_have (row n y) p z) (Accepted y)) t.1 in
        let t13 = test_passed ListFull (lists_have (row n y) p z) (Accepted y) t12.1 in (
          record {
            known = k;
            four = s;
            six = h.0;
            seven = h.1;
            eight = h.2;
            ten = h.4;
            eleven = h.5;
            twelve = t12.0;
            thirteen = t13.0;
          },
          accepted-same t13.1,
        )

    by_lookup : (y : Result Code Refusal) → code_named c.code ≡ y → is_sound p z kinds ≡ true → code_verdict n y c p z kinds ≡ Accepted x → Passed n x c p z kinds
    by_lookup (Ok y) k s f = let t = by_row y k s f in subst (λ (u : Code). Passed n u c p z kinds) t.1 t.0
    by_lookup (Err r) k s f = absurd (refused_not f)

-- ---- the room that is left, as sums

-- if x of y words are used and z are left, x + z are at most y
pub room : (x y z : ℕ) → leb x y ≡ true → leb z (y - x) ≡ true → x + z ≤ y
room x y z e f = omega (arith, leb-true x y e, leb-true z (y - x) f)

-- if refusal 4 does not apply, each count is at most the length of its list
pub places_within : (p : Place) (z : Sizes) (kinds : List ℕ) → is_sound p z kinds ≡ true
    → (leb p.handles z.one ≡ true) × (leb p.inputs z.inputs ≡ true)
    × (every_party (λ i. leb (count i p.drawn) (count i z.tapes)) ≡ true) × (every_receiver (λ r. leb (count_for r p.received) (count_for r z.received)) ≡ true)
places_within p z kinds e =
    all_four (leb p.handles z.one) (leb p.inputs z.inputs) (every_party (λ i. leb (count i p.drawn) (count i z.tapes)))
    (every_receiver (λ r. leb (count_for r p.received) (count_for r z.received)))
    (both (is_within p z) (are_kinds (take p.handles kinds)) (both (same_length z) (is_within p z && are_kinds (take p.handles kinds)) e).1).0

pub record Room (x : Row) (p : Place) (z : Sizes) : Type 0 where
  pub handles : p.handles + x.values ≤ z.one
  pub inputs : p.inputs + x.inputs ≤ z.inputs
  pub drawn : (i : Party) → count i p.drawn + count i x.drawn ≤ count i z.tapes
  pub received : (r : Receiver) → count_for r p.received + count_for r x.received ≤ count_for r z.received

pub has_room : {n : ℕ} {x : Code} {c : Command} {p : Place} {z : Sizes} {kinds : List ℕ} → Passed n x c p z kinds → Room (row n x) p z
has_room {n} {x} {c} {p} {z} {kinds} a =
    let t = places_within p z kinds a.four in
    record {
      handles = room p.handles z.one (row n x).values t.0 a.ten;
      inputs = room p.inputs z.inputs (row n x).inputs t.1 a.eleven;
      drawn = λ i. room (count i p.drawn) (count i z.tapes) (count i (row n x).drawn) (every_one (λ j. leb (count j p.drawn) (count j z.tapes)) t.2 i)
          (every_one (λ j. leb (count j (row n x).drawn) (count j z.tapes - count j p.drawn)) a.twelve i);
      received = λ r. room (count_for r p.received) (count_for r z.received) (count_for r (row n x).received) (every_list_lem (λ j. leb (count_for j p.received) (count_for j z.received)) t.3 r)
          (every_list_lem (λ j. leb (count_for j (row n x).received) (count_for j z.received - count_for j p.received)) a.thirteen r);
    }
