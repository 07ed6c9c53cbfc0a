-- Every command answers the lowest refusal that applies; Specification: Order of refusals.
use Prim.Native.Nat.{ℕ, suc, ◌-◌, ◌≤◌, ◌<◌}
use mathlib.Core.Path.{◌≡◌, refl, sym, ap, ◌∙◌, subst}
use mathlib.Core.Bool.{Bool, true, false}
use mathlib.Core.Logic.{◌↔◌, ◌⊎◌, inl, inr}
use native.Mathlib.Omega.{arith}
use lib.Pow.{pow_pos}
use lib.ListN.{length, get_or}
use Rattle.std.specs.Prelude.{Result, Ok}
use Rattle.protocols.specs.declared.place.Party.{Party}
use Rattle.protocols.specs.declared.place.Place.{Place}
use Rattle.protocols.specs.Word.{width}
use Rattle.protocols.specs.Shares.{Miner, one}
use Rattle.protocols.specs.Place.{tape, count, Receiver, list}
use Rattle.protocols.specs.Counts.{count_for}
use Rattle.machine.specs.Table.{Code, code_named, kind_number, row}
use Rattle.machine.specs.declared.refusal.Refusal.{Refusal}
use Rattle.machine.specs.declared.refusal.Refusal.TheVariants.{LentUnsoundly, UnknownCode, FieldNotZero, HandleNotFilled, WrongKind, PositionOutside, TablesFull, InputsUsed, TapeSpent, ListFull}
use Rattle.machine.specs.declared.row.Use.TheVariants.{Unused, Handle, Position}
use Rattle.machine.specs.declared.code.Command.{Command}
use Rattle.machine.specs.Refusal as table
use Rattle.machine.specs.Lent.{Lent, sizes, table, entry, IsFilled}
use Rattle.machine.specs.Verdict.{Verdict, Accepted, Refused, test, check, pass, after_checks, same_length, is_within, is_sound, unused_zero, handles_filled, kinds_fit, in_word, tables_have, inputs_have, tapes_have, lists_have, supply_verdict, row_verdict, code_verdict, verdict}
use Rattle.machine.specs.Command.{answer, command_outcome, accepted_outcome, verdict_outcome, command}
use Rattle.machine.specs.Refusals.{Counter, handles, inputs, drawn, received, counter_value, list_length, Field, field, use_of, Applies, lengths_differ, place_beyond, no_kind, no_code, unused_field, not_filled, wrong_kind, over_position, tables_full, inputs_used, spent_tape, list_full, Lowest}
use Rattle.machine.specs.Claims.{CommandRefusals}
use Rattle.machine.proofs.Laws.Rows.{Known, found, missing, known, same_code}
use Rattle.machine.proofs.Laws.Lowest.{Exact, passes, refuses, lower, step, same_lowest}
use Rattle.machine.proofs.Laws.Tests.{Decides, same_as, and, stable, by_le, by_lt, by_eq, some_field, some_miner, four, some_tape, some_list, if_unused, if_handle, if_position, by_filled, stable_filled, NoKind, by_kinds}
use Rattle.machine.proofs.Laws.Lawful.{lawful}

-- what several tests give: `Accepted` if no number from k on applies, else `Refused` with the lowest
abbrev Passes : Verdict → Type 0
Passes (Accepted x) = Unit {0}
Passes (Refused r) = ⊥

abbrev Judged : (ℕ → Type 0) → ℕ → Verdict → Type 0
Judged = Exact Passes Refused table.refusal_number

-- six checks, then a verdict, are six tests
checks_tests : (a b c d e f : Bool) (next : Verdict)
    → after_checks
    (check FieldNotZero a (check HandleNotFilled b (check WrongKind c (check PositionOutside d (check TablesFull e (check InputsUsed f pass))))))
    next
    ≡ test FieldNotZero a (test HandleNotFilled b (test WrongKind c (test PositionOutside d (test TablesFull e (test InputsUsed f next)))))
checks_tests true true true true true true next = refl
checks_tests true true true true true false next = refl
checks_tests true true true true false f next = refl
checks_tests true true true false e f next = refl
checks_tests true true false d e f next = refl
checks_tests true false c d e f next = refl
checks_tests false b c d e f next = refl

-- ---- each test decides its row of the table

row-value : (n : ℕ) (x : Code) → 0 < (row n x).values → (row n x).values ≡ 1
row-value n x h = omega (arith, h, (lawful x).one_value n)

module _ (n : ℕ) (c : Command) (p : Place) (l : Lent) where
  -- the numbers that can apply to a command
  pub bounds : {q : ℕ} → Applies n c p l q → (4 ≤ q) × (q ≤ 13)
  bounds (lengths_differ i h) = omega arith
  bounds (place_beyond k h) = omega arith
  bounds (no_kind h f g i) = omega arith
  bounds (no_code h) = omega arith
  bounds (unused_field x e f u h) = omega arith
  bounds (not_filled x e f u h) = omega arith
  bounds (wrong_kind x e f u g h) = omega arith
  bounds (over_position x e f u h) = omega arith
  bounds (tables_full x e v h) = omega arith
  bounds (inputs_used e h) = omega arith
  bounds (spent_tape x e i h) = omega arith
  bounds (list_full x e r h) = omega arith

  -- ---- refusal 4

  -- the three cases
  abbrev Differ : Type 0
  Differ = (i : Miner) × (¬ (length (table i l.tables) ≡ length l.kinds))

  abbrev Beyond : Type 0
  Beyond = (k : Counter) × (list_length k l < counter_value k p)

  abbrev Unkind : Type 0
  Unkind = (i : ℕ) × (i < p.handles) × NoKind (get_or l.kinds i 0)

  lengths : Decides Differ (same_length (sizes l))
  lengths = some_miner (λ i. by_eq (length (table i l.tables)) (length l.kinds))

  places : Decides Beyond (is_within p (sizes l))
  places =
      same_as to (λ s. from s.0 s.1)
      (four (by_le p.handles (length l.tables.one)) (by_le p.inputs (length l.inputs))
      (some_tape (λ i. count i p.drawn) (λ i. length (tape i l.tapes))) (some_list (λ r. count_for r p.received) (λ r. length (list r l.received))))
    where
      Tape : Type 0
      Tape = (i : Party) × (length (tape i l.tapes) < count i p.drawn)

      Words : Type 0
      Words = (r : Receiver) × (length (list r l.received) < count_for r p.received)

      to : (length l.tables.one < p.handles) ⊎ ((length l.inputs < p.inputs) ⊎ (Tape ⊎ Words)) → Beyond
      to (inl h) = (handles, h)
      to (inr (inl h)) = (inputs, h)
      to (inr (inr (inl s))) = (drawn s.0, s.1)
      to (inr (inr (inr s))) = (received s.0, s.1)

      from : (k : Counter) → list_length k l < counter_value k p → (length l.tables.one < p.handles) ⊎ ((length l.inputs < p.inputs) ⊎ (Tape ⊎ Words))
      from handles h = inl h
      from inputs h = inr (inl h)
      from (drawn i) h = inr (inr (inl (i, h)))
      from (received r) h = inr (inr (inr (r, h)))

  -- if neither of the first two cases holds, every filled handle has an entry in the kind list
  fits : ¬ Differ → ¬ Beyond → p.handles ≤ length l.kinds
  fits agree inside =
      let not_beyond : ¬ (length l.tables.one < p.handles) = λ h. inside (handles, h) in
      omega (arith, stable (length l.tables.one) (length l.kinds) (λ h. agree (one, h)))

  pub test_4 : Decides (Applies n c p l 4) (is_sound p (sizes l) l.kinds)
  test_4 = same_as to from (and lengths (λ agree. and places (λ inside. by_kinds p.handles l.kinds (fits agree inside))))
    where
      to : Differ ⊎ (Beyond ⊎ Unkind) → Applies n c p l 4
      to (inl s) = lengths_differ s.0 s.1
      to (inr (inl s)) = place_beyond s.0 s.1
      to (inr (inr s)) =
          let e : s.0 ≡ suc s.0 - 1 = omega arith in
          let k = subst (λ (j : ℕ). NoKind (get_or l.kinds j 0)) e s.2 in
          no_kind (suc s.0) (omega arith) k.0 k.1

      from : Applies n c p l 4 → Differ ⊎ (Beyond ⊎ Unkind)
      from (lengths_differ i h) = inl (i, h)
      from (place_beyond k h) = inr (inl (k, h))
      from (no_kind h f g i) = inr (inr (h - 1, omega arith, (g, i)))

  -- ---- refusals 6 to 13, for the command x

  module _ (x : Code) (e : code_named c.code ≡ Ok x) where
    test_6 : Decides (Applies n c p l 6) (unused_zero (row n x) c)
    test_6 = same_as (λ s. unused_field x e s.0 s.1.0 s.1.1) from (some_field (λ f. if_unused (use_of f (row n x)) (by_eq (field f c) 0)))
      where
        Line : Code → Type 0
        Line y = (f : Field) × ((use_of f (row n y) ≡ Unused) × (¬ (field f c ≡ 0)))

        from : Applies n c p l 6 → Line x
        from (unused_field y k f u h) = subst Line (same_code k e) (f, (u, h))

    test_7 : Decides (Applies n c p l 7) (handles_filled (row n x) p c)
    test_7 = same_as (λ s. not_filled x e s.0 s.1.0 s.1.1) from (some_field (λ f. if_handle (use_of f (row n x)) (by_filled p (field f c))))
      where
        Line : Code → Type 0
        Line y = (f : Field) × ((use_of f (row n y) ≡ Handle) × (¬ IsFilled p (field f c)))

        from : Applies n c p l 7 → Line x
        from (not_filled y k f u h) = subst Line (same_code k e) (f, (u, h))

    -- if 7 does not apply, each handle is filled
    test_8 : ¬ Applies n c p l 7 → Decides (Applies n c p l 8) (kinds_fit (row n x) l.kinds c)
    test_8 seven = same_as to from (some_field (λ f. if_handle (use_of f (row n x)) (by_eq (entry l.kinds (field f c)) (kind_number (row n x).operands))))
      where
        Line : Code → Type 0
        Line y = (f : Field) × ((use_of f (row n y) ≡ Handle) × (¬ (entry l.kinds (field f c) ≡ kind_number (row n y).operands)))

        to : Line x → Applies n c p l 8
        to s = wrong_kind x e s.0 s.1.0 (stable_filled p (field s.0 c) (λ h. seven (not_filled x e s.0 s.1.0 h))) s.1.1

        from : Applies n c p l 8 → Line x
        from (wrong_kind y k f u g h) = subst Line (same_code k e) (f, (u, h))

    test_9 : Decides (Applies n c p l 9) (in_word n (row n x) c)
    test_9 = same_as to from (some_field (λ f. if_position (use_of f (row n x)) (by_lt (field f c) (width n))))
      where
        Line : Code → Type 0
        Line y = (f : Field) × ((use_of f (row n y) ≡ Position) × (width n ≤ field f c))

        to : Line x → Applies n c p l 9
        to s = over_position x e s.0 s.1.0 (omega (arith, pow_pos n))

        from : Applies n c p l 9 → Line x
        from (over_position y k f u h) = subst Line (same_code k e) (f, (u, omega (arith, pow_pos n)))

    test_10 : Decides (Applies n c p l 10) (tables_have (row n x) p (sizes l).one)
    test_10 = same_as to from (by_le (row n x).values (length l.tables.one - p.handles))
      where
        Line : Code → Type 0
        Line y = length l.tables.one - p.handles < (row n y).values

        to : Line x → Applies n c p l 10
        to h = let v = row-value n x (omega arith) in tables_full x e v (omega (arith, v))

        from : Applies n c p l 10 → Line x
        from (tables_full y k v h) = subst Line (same_code k e) (omega arith)

    test_11 : Decides (Applies n c p l 11) (inputs_have (row n x) p (sizes l).inputs)
    test_11 = same_as to from (by_le (row n x).inputs (length l.inputs - p.inputs))
      where
        Line : Code → Type 0
        Line y = length l.inputs - p.inputs < (row n y).inputs

        to : Line x → Applies n c p l 11
        to h =
            let s = (lawful x).takes_input n (omega arith) in
            let g = subst Line s h in
            inputs_used (e ∙ ap {B = Result Code Refusal} Ok s) (omega arith)

        from : Applies n c p l 11 → Line x
        from (inputs_used k h) = subst Line (same_code k e) (omega arith)

    test_12 : Decides (Applies n c p l 12) (tapes_have (row n x) p (sizes l))
    test_12 = same_as (λ s. spent_tape x e s.0 s.1) from (some_tape (λ i. count i (row n x).drawn) (λ i. length (tape i l.tapes) - count i p.drawn))
      where
        Line : Code → Type 0
        Line y = (i : Party) × (length (tape i l.tapes) - count i p.drawn < count i (row n y).drawn)

        from : Applies n c p l 12 → Line x
        from (spent_tape y k i h) = subst Line (same_code k e) (i, h)

    test_13 : Decides (Applies n c p l 13) (lists_have (row n x) p (sizes l))
    test_13 = same_as (λ s. list_full x e s.0 s.1) from (some_list (λ r. count_for r (row n x).received) (λ r. length (list r l.received) - count_for r p.received))
      where
        Line : Code → Type 0
        Line y = (r : Receiver) × (length (list r l.received) - count_for r p.received < count_for r (row n y).received)

        from : Applies n c p l 13 → Line x
        from (list_full y k r h) = subst Line (same_code k e) (r, h)

    from_6 : Judged (Applies n c p l) 6 (row_verdict n (row n x) c p (sizes l) l.kinds (Accepted x))
    unfolding row_verdict
    from_6 =
        subst (Judged (Applies n c p l) 6)
        (sym (checks_tests (unused_zero (row n x) c) (handles_filled (row n x) p c) (kinds_fit (row n x) l.kinds c) (in_word n (row n x) c)
        (tables_have (row n x) p (sizes l).one) (inputs_have (row n x) p (sizes l).inputs) (supply_verdict (row n x) p (sizes l) (Accepted x))))
        (step FieldNotZero test_6 (λ n6. step HandleNotFilled test_7 (λ n7. step WrongKind (test_8 n7) (λ n8. step PositionOutside test_9 (λ n9. step TablesFull test_10 (λ n10. step InputsUsed test_11 (λ n11.
        step TapeSpent test_12 (λ n12. step ListFull test_13 (λ n13. passes tt none)))))))))
      where
        none : (q : ℕ) → 14 ≤ q → ¬ Applies n c p l q
        none q h s = omega (arith, bounds s)

  -- ---- refusal 5, and all tests

  from_5 : {y : Result Code Refusal} → Known 1 c.code y → code_named c.code ≡ y → Judged (Applies n c p l) 5 (code_verdict n y c p (sizes l) l.kinds)
  from_5 (found x f g o) e = lower no_5 (from_6 x e)
    where
      no_5 : ¬ Applies n c p l 5
      no_5 (no_code h) = h (f, g)
  from_5 (missing h) e = refuses UnknownCode (no_code h) (λ q f g. absurd (omega arith))

  exact : Judged (Applies n c p l) 4 (verdict n c p (sizes l) l.kinds)
  unfolding verdict
  exact = step LentUnsoundly test_4 (λ n4. from_5 (known c.code) refl)

  -- ---- the answer

  unchanged-at : (v : Verdict) → ¬ ((verdict_outcome n v c p l).answer.number ≡ 0) → verdict_outcome n v c p l ≡ command_outcome (answer (verdict_outcome n v c p l).answer.number p 0) l
  unfolding accepted_outcome
  unchanged-at (Accepted x) h = absurd (h refl)
  unchanged-at (Refused r) h = refl

  refused-at : {v : Verdict} → Judged (Applies n c p l) 4 v → (r : ℕ) → 0 < r → ((verdict_outcome n v c p l).answer.number ≡ r) ↔ Lowest n c p l r
  unfolding accepted_outcome
  refused-at {v = Refused q} (passes t none) r h = absurd t
  refused-at {v = Accepted x} (passes t none) r h = (λ e. absurd (omega arith), λ s. absurd (none r (bounds s.0).0 s.0))
  refused-at (refuses q s below) r h = (λ e. subst (Lowest n c p l) e (s, λ j g t. below j (bounds t).0 g t), same_lowest (λ j t. (bounds t).0) s below)

  accepted-at : {v : Verdict} → Judged (Applies n c p l) 4 v → ((verdict_outcome n v c p l).answer.number ≡ 0) ↔ ((r : ℕ) → ¬ Applies n c p l r)
  unfolding accepted_outcome
  accepted-at {v = Refused q} (passes t none) = absurd t
  accepted-at {v = Accepted x} (passes t none) = (λ e r s. none r (bounds s).0 s, λ h. refl)
  accepted-at (refuses r s below) = (λ e. absurd (omega (arith, bounds s)), λ h. absurd (h (table.refusal_number r) s))

pub command_refusals : (n : ℕ) (c : Command) (p : Place) (l : Lent) → CommandRefusals n c p l
unfolding command
command_refusals n c p l = record {
  unchanged = unchanged-at n c p l (verdict n c p (sizes l) l.kinds);
  refused = refused-at n c p l (exact n c p l);
  accepted = accepted-at n c p l (exact n c p l);
}
