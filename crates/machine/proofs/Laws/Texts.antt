-- The numbers and the texts of refusals, by cases.
use Prim.Native.Nat.{ℕ, ◌≤◌}
use mathlib.Core.Path.{◌≡◌, refl, sym, ap, ◌∙◌, subst}
use mathlib.Core.Bool.{Bool, cond}
use mathlib.Core.List.{List, [], ◌∷◌}
use lib.Dec.{eqb, lit≤}
use lib.ListN.{length}
use Rattle.std.specs.Prelude.{Option, None, Some}
use Rattle.std.specs.List.{find}
use Rattle.std.specs.Fmt.{digits}
use Rattle.machine.specs.declared.refusal.Refusal.{Refusal}
use Rattle.machine.specs.declared.refusal.Refusal.TheVariants.{NotWhole, ContentsBroken, OverLimit, LentUnsoundly, UnknownCode, FieldNotZero, HandleNotFilled, WrongKind, PositionOutside, TablesFull, InputsUsed, TapeSpent, ListFull}
use Rattle.machine.specs.Refusal.{refusal_number, refusals, refusal_numbered}
use Rattle.machine.specs.Printed.{text_of, refusal_text}
use Rattle.machine.specs.Texts.{RefusalNumbers, RefusalTexts, KindTexts}
use Rattle.machine.proofs.Laws.Tests.{Decides, holds, fails, stable, by_eq}

-- ---- numbers

some_same : {r s : Refusal} → Some r ≡ Some s → r ≡ s
some_same {r} e = ap (λ (o : Option Refusal). or_first o) e
  where
    or_first : Option Refusal → Refusal
    or_first None = r
    or_first (Some s) = s

none_not : {r : Refusal} → None ≡ Some r → ⊥
none_not e = subst is_none e tt
  where
    is_none : Option Refusal → Type 0
    is_none None = Unit {0}
    is_none (Some s) = ⊥

-- a refusal that is found by a number has it
found : (k : ℕ) (l : List Refusal) (r : Refusal) → find (λ s. eqb k (refusal_number s)) l ≡ Some r → refusal_number r ≡ k
found k [] r e = absurd (none_not e)
found k (s ∷ l) r e = go (found k l r) (by_eq k (refusal_number s)) e
  where
    go : {b : Bool} {o : Option Refusal} → (o ≡ Some r → refusal_number r ≡ k) → Decides (¬ (k ≡ refusal_number s)) b
        → cond b (Some s) o ≡ Some r → refusal_number r ≡ k
    go next (holds h) e = ap refusal_number (sym (some_same e)) ∙ sym (stable k (refusal_number s) h)
    go next (fails h) e = next e

-- each refusal is found by its number
own : (r : Refusal) → refusal_numbered (refusal_number r) ≡ Some r
own NotWhole = refl
own ContentsBroken = refl
own OverLimit = refl
own LentUnsoundly = refl
own UnknownCode = refl
own FieldNotZero = refl
own HandleNotFilled = refl
own WrongKind = refl
own PositionOutside = refl
own TablesFull = refl
own InputsUsed = refl
own TapeSpent = refl
own ListFull = refl

pub refusal_numbers : (k : ℕ) (r : Refusal) → RefusalNumbers k r
refusal_numbers k r = (found k refusals r, λ e. subst (λ (j : ℕ). refusal_numbered j ≡ Some r) e (own r))

-- each number is from 1 to 13
within : (r : Refusal) → (1 ≤ refusal_number r) × (refusal_number r ≤ 13)
within NotWhole = (lit≤ tt, lit≤ tt)
within ContentsBroken = (lit≤ tt, lit≤ tt)
within OverLimit = (lit≤ tt, lit≤ tt)
within LentUnsoundly = (lit≤ tt, lit≤ tt)
within UnknownCode = (lit≤ tt, lit≤ tt)
within FieldNotZero = (lit≤ tt, lit≤ tt)
within HandleNotFilled = (lit≤ tt, lit≤ tt)
within WrongKind = (lit≤ tt, lit≤ tt)
within PositionOutside = (lit≤ tt, lit≤ tt)
within TablesFull = (lit≤ tt, lit≤ tt)
within InputsUsed = (lit≤ tt, lit≤ tt)
within TapeSpent = (lit≤ tt, lit≤ tt)
within ListFull = (lit≤ tt, lit≤ tt)

-- ---- texts

pub no_other : (k : ℕ) → ¬ ((1 ≤ k) × (k ≤ 13)) → refusal_text k ≡ []
no_other k n = go (refusal_numbered k) refl
  where
    go : (o : Option Refusal) → refusal_numbered k ≡ o → text_of o ≡ []
    go None e = refl
    go (Some r) e = absurd (n (subst (λ (j : ℕ). (1 ≤ j) × (j ≤ 13)) (found k refusals r e) (within r)))

-- no text is over 127 bytes
fits : (o : Option Refusal) → length (text_of o) ≤ 127
unfolding digits
fits None = lit≤ tt
fits (Some NotWhole) = lit≤ tt
fits (Some ContentsBroken) = lit≤ tt
fits (Some OverLimit) = lit≤ tt
fits (Some LentUnsoundly) = lit≤ tt
fits (Some UnknownCode) = lit≤ tt
fits (Some FieldNotZero) = lit≤ tt
fits (Some HandleNotFilled) = lit≤ tt
fits (Some WrongKind) = lit≤ tt
fits (Some PositionOutside) = lit≤ tt
fits (Some TablesFull) = lit≤ tt
fits (Some InputsUsed) = lit≤ tt
fits (Some TapeSpent) = lit≤ tt
fits (Some ListFull) = lit≤ tt

pub refusal_texts : RefusalTexts
unfolding digits
refusal_texts = record {
  not_whole = refl;
  contents_broken = refl;
  over_limit = refl;
  lent_unsoundly = refl;
  unknown_code = refl;
  field_not_zero = refl;
  handle_not_filled = refl;
  wrong_kind = refl;
  position_outside = refl;
  tables_full = refl;
  inputs_used = refl;
  tape_spent = refl;
  list_full = refl;
  no_other = no_other;
  at_most_127 = λ k. fits (refusal_numbered k);
}

pub kind_texts : KindTexts
kind_texts = record { ring_value = refl; bit_word = refl }
