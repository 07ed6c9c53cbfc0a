-- Tests in the order of the table of refusals give the lowest number that applies; Specification: Order of refusals.
use Prim.Native.Nat.{ℕ, suc, ◌≤◌, ◌<◌}
use mathlib.Core.Path.{◌≡◌, subst}
use mathlib.Core.Logic.{inl, inr}
use mathlib.Core.Bool.{Bool, cond}
use native.Mathlib.Nat.{eq-or-lt_of_le}
use native.Mathlib.Omega.{arith}
use Rattle.machine.proofs.Laws.Tests.{Decides, holds, fails}

-- A q: the number q applies. The tests give a value of B: `refuse r` for a refusal, or one for which `Passes` holds.
module _ {B R : Type 0} (Passes : B → Type 0) (refuse : R → B) (number : R → ℕ) (A : ℕ → Type 0) where
  -- the value is that of the lowest number from k on that applies, or it passes and none applies
  pub data Exact (k : ℕ) : B → Type 0 where
    passes : {v : B} → Passes v → ((q : ℕ) → k ≤ q → ¬ A q) → Exact k v
    refuses : (r : R) → A (number r) → ((q : ℕ) → k ≤ q → q < number r → ¬ A q) → Exact k (refuse r)

from_next : (A : ℕ → Type 0) (k q : ℕ) → k ≤ q → ¬ A k → (k < q → ¬ A q) → ¬ A q
from_next A k q h no-k above = elim (eq-or-lt_of_le h) [ inl e ↦ subst (λ (j : ℕ). ¬ A j) e no-k | inr g ↦ above g ]

module _ {B R : Type 0} {Passes : B → Type 0} {refuse : R → B} {number : R → ℕ} {A : ℕ → Type 0} where
  -- what is exact from k + 1 on is exact from k on, if k does not apply
  pub lower : {k : ℕ} {v : B} → ¬ A k → Exact Passes refuse number A (suc k) v → Exact Passes refuse number A k v
  lower {k} n (passes p f) = passes p (λ q h. from_next A k q h n (f q))
  lower {k} n (refuses r h f) = refuses r h (λ q g i. from_next A k q g n (λ j. f q j i))

  -- one more test in front
  pub step : {b : Bool} {v : B} (r : R) → let k = number r in
      Decides (A k) b → (¬ A k → Exact Passes refuse number A (suc k) v) → Exact Passes refuse number A k (cond b v (refuse r))
  step r (holds h) next = lower h (next h)
  step r (fails h) next = refuses r h (λ q f g. absurd (omega arith))

-- at most one number is the lowest that applies
pub same_lowest : {A : ℕ → Type 0} {k q r : ℕ} → ((j : ℕ) → A j → k ≤ j) → A q → ((j : ℕ) → k ≤ j → j < q → ¬ A j)
    → A r × ((j : ℕ) → j < r → ¬ A j) → q ≡ r
same_lowest {k} {q} {r} from a below t =
    let not-below : ¬ (q < r) = λ i. t.1 q i a in
    let not-above : ¬ (r < q) = λ i. below r (from r t.0) i t.0 in
    omega arith
