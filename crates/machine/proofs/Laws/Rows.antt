-- Facts about the table of commands, by cases; Specification: Table of commands.
use Prim.Native.Nat.{ℕ, suc, ◌≤◌}
use mathlib.Core.Path.{◌≡◌, refl, sym, ap, ◌∙◌, subst}
use mathlib.Core.Bool.{Bool, cond}
use native.Mathlib.Omega.{arith}
use lib.Dec.{eqb, lit≤}
use Rattle.std.specs.Prelude.{Result, Ok, Err}
use Rattle.machine.specs.Table.{Code, code_named, row, opens_value}
use Rattle.machine.specs.Table.{Store, Add, Subtract, AddConstant, TimesConstant, Multiply, Reshare, Bits, Bit, Equal, Open, Below}
use Rattle.machine.specs.declared.refusal.Refusal.{Refusal}
use Rattle.machine.specs.declared.refusal.Refusal.TheVariants.{NotWhole, ContentsBroken, OverLimit, LentUnsoundly, UnknownCode, FieldNotZero, HandleNotFilled, WrongKind, PositionOutside, TablesFull, InputsUsed, TapeSpent, ListFull}
use Rattle.machine.specs.Refusal.{refusal_number}
use Rattle.machine.specs.Claims.{TableAt32}
use Rattle.machine.proofs.Laws.Tests.{Decides, holds, fails, stable, by_eq}

-- ---- the table at 32 bits, by computation

pub table_at_32 : TableAt32
table_at_32 = record {
  ring_value = refl;
  bit_word = refl;
  store = (refl, refl);
  add = (refl, refl);
  subtract = (refl, refl);
  add_constant = (refl, refl);
  times_constant = (refl, refl);
  multiply = (refl, refl);
  reshare = (refl, refl);
  bits = (refl, refl);
  bit = (refl, refl);
  equal = (refl, refl);
  opening = (refl, refl);
  below = (refl, refl);
}

-- ---- the numbers of refusals are positive

pub refusal_number-positive : (r : Refusal) → 1 ≤ refusal_number r
refusal_number-positive NotWhole = lit≤ tt
refusal_number-positive ContentsBroken = lit≤ tt
refusal_number-positive OverLimit = lit≤ tt
refusal_number-positive LentUnsoundly = lit≤ tt
refusal_number-positive UnknownCode = lit≤ tt
refusal_number-positive FieldNotZero = lit≤ tt
refusal_number-positive HandleNotFilled = lit≤ tt
refusal_number-positive WrongKind = lit≤ tt
refusal_number-positive PositionOutside = lit≤ tt
refusal_number-positive TablesFull = lit≤ tt
refusal_number-positive InputsUsed = lit≤ tt
refusal_number-positive TapeSpent = lit≤ tt
refusal_number-positive ListFull = lit≤ tt

-- ---- the codes 1 to 12 have a command, and that of 11 opens

-- the command x of the code k opens exactly if k is 11
abbrev pub OpensAt11 : ℕ → Code → Type 0
OpensAt11 k x = (n : ℕ) → eqb k 11 ≡ opens_value (row n x)

-- the result of looking up the code k among the codes from j on
pub data Known (j k : ℕ) : Result Code Refusal → Type 0 where
  found : (x : Code) → j ≤ k → k ≤ 12 → OpensAt11 k x → Known j k (Ok x)
  missing : ¬ ((j ≤ k) × (k ≤ 12)) → Known j k (Err UnknownCode)

or_next : {k : ℕ} {y : Result Code Refusal} (j : ℕ) (x : Code) → j ≤ 12 → OpensAt11 j x → Known (suc j) k y → Known j k (cond (eqb k j) (Ok x) y)
or_next {k} j x h opens next = go (by_eq k j) next
  where
    go : {b : Bool} {y : Result Code Refusal} → Decides (¬ (k ≡ j)) b → Known (suc j) k y → Known j k (cond b (Ok x) y)
    go (holds e) t = found x (omega (arith, stable k j e)) (omega (arith, stable k j e))
        (λ n. ap (λ (i : ℕ). eqb i 11) (stable k j e) ∙ opens n)
    go (fails e) (found z f g o) = found z (omega arith) g o
    go (fails e) (missing m) = missing (λ q. m (omega arith))

pub known : (k : ℕ) → Known 1 k (code_named k)
known k =
    or_next 1 Store (omega arith) (λ n. refl) (or_next 2 Add (omega arith) (λ n. refl)
    (or_next 3 Subtract (omega arith) (λ n. refl) (or_next 4 AddConstant (omega arith) (λ n. refl)
    (or_next 5 TimesConstant (omega arith) (λ n. refl) (or_next 6 Multiply (omega arith) (λ n. refl)
    (or_next 7 Reshare (omega arith) (λ n. refl) (or_next 8 Bits (omega arith) (λ n. refl)
    (or_next 9 Bit (omega arith) (λ n. refl) (or_next 10 Equal (omega arith) (λ n. refl)
    (or_next 11 Open (omega arith) (λ n. refl) (or_next 12 Below (omega arith) (λ n. refl)
    (missing (λ q. omega arith)))))))))))))

pub same_code : {y : Result Code Refusal} {x z : Code} → y ≡ Ok x → y ≡ Ok z → x ≡ z
same_code {x} e f = ap code_of (sym e ∙ f)
  where
    code_of : Result Code Refusal → Code
    code_of (Ok y) = y
    code_of (Err r) = x

-- ---- the code of open

missing_not : {x : Code} {r : Refusal} → Err r ≡ Ok x → ⊥
missing_not e = subst tells e tt
  where
    tells : Result Code Refusal → Type 0
    tells (Ok x) = ⊥
    tells (Err r) = Unit {0}

pub opens-at_11 : (n k : ℕ) (x : Code) → code_named k ≡ Ok x → eqb k 11 ≡ opens_value (row n x)
opens-at_11 n k x e = by_known (known k) e
  where
    by_known : {y : Result Code Refusal} → Known 1 k y → y ≡ Ok x → eqb k 11 ≡ opens_value (row n x)
    by_known (found z f g o) e = o n ∙ ap (λ (y : Code). opens_value (row n y)) (same_code refl e)
    by_known (missing m) e = absurd (missing_not e)
