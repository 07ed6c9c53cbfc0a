-- The tests of the contents hold exactly if no start, end or count breaks its rule.
use Prim.Native.Nat.{ℕ, zero, suc, ◌+◌, ◌*◌, ◌≤◌, ◌<◌}
use mathlib.Core.Path.{◌≡◌, refl, sym, ap, ap₂, subst, subst₂}
use mathlib.Core.Logic.{◌⊎◌, inl, inr}
use mathlib.Core.List.{List, [], ◌∷◌}
use native.Mathlib.Omega.{arith}
use lib.ListN.{length, get_or, take}
use Rattle.machine.proofs.Laws.Tests.{Decides, holds, same_as, and, by_le, by_eq}
use Rattle.session.specs.Contents.{start_of, count_of, is_chained, is_within_limits}
use Rattle.session.specs.Refusals.{due_start}
use Rattle.session.proofs.Laws.Contents.{two-suc, two-suc-add}

-- ---- pairs behind the first

start_next : (s n : ℕ) (r : List ℕ) (k : ℕ) → start_of (s ∷ n ∷ r) (suc k) ≡ start_of r k
start_next s n r k = ap (λ (j : ℕ). get_or (s ∷ n ∷ r) j 0) (two-suc k)

count_next : (s n : ℕ) (r : List ℕ) (k : ℕ) → count_of (s ∷ n ∷ r) (suc k) ≡ count_of r k
count_next s n r k = ap (λ (j : ℕ). get_or (s ∷ n ∷ r) j 0) (two-suc-add k)

take_next : (s n : ℕ) (r : List ℕ) (k : ℕ) → take (2 * suc k) (s ∷ n ∷ r) ≡ s ∷ n ∷ take (2 * k) r
take_next s n r k = ap (λ (j : ℕ). take j (s ∷ n ∷ r)) (two-suc k)

-- where pair k must start, the first at `at`
abbrev pub due : ℕ → List ℕ → ℕ → ℕ
due at l zero = at
due at l (suc k) = start_of l k + count_of l k

due_next : (at s n : ℕ) (r : List ℕ) (k : ℕ) → due at (s ∷ n ∷ r) (suc k) ≡ due (s + n) r k
due_next at s n r zero = refl
due_next at s n r (suc k) = ap₂ ◌+◌ (start_next s n r k) (count_next s n r k)

pub due-due_start : (l : List ℕ) (k : ℕ) → due 12 l k ≡ due_start l k
due-due_start l zero = refl
due-due_start l (suc k) = refl

-- ---- the chain of the first m pairs

abbrev WrongStart : ℕ → List ℕ → ℕ → ℕ → Type 0
WrongStart at l m k = (k < m) × (¬ (start_of l k ≡ due at l k))

abbrev pub Broken : ℕ → List ℕ → ℕ → ℕ → Type 0
Broken at l m end = ((k : ℕ) × WrongStart at l m k) ⊎ (¬ (due at l m ≡ end))

pub by_chain : (m at end : ℕ) (l : List ℕ) → 2 * m ≤ length l → Decides (Broken at l m end) (is_chained at (take (2 * m) l) end)
unfolding is_chained
by_chain zero at end l h = same_as inr from (by_eq at end)
  where
    from : Broken at l zero end → ¬ (at ≡ end)
    from (inl b) = absurd (omega (arith, b.1.0))
    from (inr b) = b
by_chain (suc m) at end [] h = absurd (omega arith)
by_chain (suc m) at end (s ∷ []) h = absurd (omega arith)
by_chain (suc m) at end (s ∷ n ∷ r) h =
    rw (take_next s n r m) (same_as to from (and (by_eq s at) (λ ok. by_chain m (s + n) end r (omega arith))))
  where
    to : (¬ (s ≡ at)) ⊎ Broken (s + n) r m end → Broken at (s ∷ n ∷ r) (suc m) end
    to (inl e) = inl (0, (omega arith, e))
    to (inr (inl b)) =
        let k = b.0 in
        inl (suc k, (omega (arith, b.1.0), subst₂ (λ (x y : ℕ). ¬ (x ≡ y)) (sym (start_next s n r k)) (sym (due_next at s n r k)) b.1.1))
    to (inr (inr b)) = inr (subst (λ (x : ℕ). ¬ (x ≡ end)) (sym (due_next at s n r m)) b)

    from : Broken at (s ∷ n ∷ r) (suc m) end → (¬ (s ≡ at)) ⊎ Broken (s + n) r m end
    from (inl b) = by_pair b.0 b.1.0 b.1.1
      where
        by_pair : (k : ℕ) → k < suc m → ¬ (start_of (s ∷ n ∷ r) k ≡ due at (s ∷ n ∷ r) k) → (¬ (s ≡ at)) ⊎ Broken (s + n) r m end
        by_pair zero g e = inl e
        by_pair (suc k) g e = inr (inl (k, (omega arith, subst₂ (λ (x y : ℕ). ¬ (x ≡ y)) (start_next s n r k) (due_next at s n r k) e)))
    from (inr b) = inr (inr (subst (λ (x : ℕ). ¬ (x ≡ end)) (due_next at s n r m) b))

-- ---- the limits ms of as many pairs

abbrev pub Over : List ℕ → List ℕ → ℕ → Type 0
Over ms l k = (k < length ms) × (get_or ms k 0 < count_of l k)

pub by_within : (ms l : List ℕ) → 2 * length ms ≤ length l → Decides ((k : ℕ) × Over ms l k) (is_within_limits ms (take (2 * length ms) l))
unfolding is_within_limits
by_within [] l h = holds (λ b. omega (arith, b.1.0))
by_within (m ∷ ms) [] h = absurd (omega arith)
by_within (m ∷ ms) (s ∷ []) h = absurd (omega arith)
by_within (m ∷ ms) (s ∷ n ∷ r) h =
    rw (take_next s n r (length ms)) (same_as to (λ b. from b.0 b.1.0 b.1.1) (and (by_le n m) (λ ok. by_within ms r (omega arith))))
  where
    to : (m < n) ⊎ ((k : ℕ) × Over ms r k) → (k : ℕ) × Over (m ∷ ms) (s ∷ n ∷ r) k
    to (inl e) = (0, (omega arith, e))
    to (inr b) = (suc b.0, (omega (arith, b.1.0), omega (arith, b.1.1, count_next s n r b.0)))

    from : (k : ℕ) → k < length (m ∷ ms) → get_or (m ∷ ms) k 0 < count_of (s ∷ n ∷ r) k → (m < n) ⊎ ((k : ℕ) × Over ms r k)
    from zero g e = inl e
    from (suc k) g e = inr (k, (omega arith, omega (arith, e, count_next s n r k)))
