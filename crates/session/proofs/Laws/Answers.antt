-- The answers of a run give the count of commands done and the number of the refusal.
use Prim.Native.Nat.{ℕ, zero, suc, ◌<◌}
use mathlib.Core.Path.{◌≡◌, refl, sym, ap, ◌∙◌}
use mathlib.Core.List.{List, [], ◌∷◌, ◌++◌, map}
use native.Mathlib.Omega.{arith}
use borrow.Author.Tests.{eq-eqb, ne_eqb}
use lib.ListN.{length, get_or, take, drop, replicate, length-replicate}
use lib.Seq.{take_at, get_or_at}
use Rattle.machine.specs.declared.answer.Answer.{Answer}
use Rattle.machine.specs.Run.{accepted_count, refused_number}
use Rattle.machine.proofs.Laws.Runs.{accepted_none, accepted_next, refused_none, refused_next}

-- ---- commands done, and the number

-- k commands are done; then one is refused with r, or r is 0
abbrev pub EndsWith : List Answer → ℕ → ℕ → Type 0
EndsWith l k r = (accepted_count l ≡ k) × (refused_number l ≡ r)

abbrev numbers_of : List Answer → List ℕ
numbers_of l = map (λ a. a.number) l

ends_next : (a : Answer) (l : List Answer) (k r : ℕ) → a.number ≡ 0 → EndsWith l k r → EndsWith (a ∷ l) (suc k) r
ends_next a l k r e t = rw (accepted_next a l, refused_next a l, eq-eqb a.number 0 e) (ap suc t.0, t.1)

ends_last : (a : Answer) (l : List Answer) (r : ℕ) → 0 < r → a.number ≡ r → EndsWith (a ∷ l) 0 r
ends_last a l r h e = rw (accepted_next a l, refused_next a l, ne_eqb a.number 0 (λ f. omega (arith, e, f))) (refl, e)

pub ends-done : (l : List Answer) (k : ℕ) → numbers_of l ≡ replicate k 0 → EndsWith l k 0
ends-done [] zero e = (accepted_none, refused_none)
ends-done [] (suc k) e = absurd (omega (arith, ap length e))
ends-done (a ∷ l) zero e = absurd (omega (arith, ap length e))
ends-done (a ∷ l) (suc k) e = ends_next a l k 0 (ap (λ (t : List ℕ). get_or t 0 0) e) (ends-done l k (ap (drop 1) e))

pub ends-refused : (l : List Answer) (k r : ℕ) → 0 < r → numbers_of l ≡ replicate k 0 ++ (r ∷ []) → EndsWith l k r
ends-refused [] zero r h e = absurd (omega (arith, ap length e))
ends-refused [] (suc k) r h e = absurd (omega (arith, ap length e))
ends-refused (a ∷ l) zero r h e = ends_last a l r h (ap (λ (t : List ℕ). get_or t 0 0) e)
ends-refused (a ∷ l) (suc k) r h e = ends_next a l k r (ap (λ (t : List ℕ). get_or t 0 0) e) (ends-refused l k r h (ap (drop 1) e))

-- if a list and one more number are k zeros and r, the list is the zeros and the number is r
pub zeros_then : (l : List ℕ) (a k r : ℕ) → length l ≡ k → l ++ (a ∷ []) ≡ replicate k 0 ++ (r ∷ []) → (l ≡ replicate k 0) × (a ≡ r)
zeros_then l a k r h e = (
  sym (take_at l (a ∷ []) k h) ∙ ap (take k) e ∙ take_at (replicate k 0) (r ∷ []) k (length-replicate k 0),
  sym (get_or_at l a [] 0 k h) ∙ ap (λ (t : List ℕ). get_or t k 0) e ∙ get_or_at (replicate k 0) r [] 0 k (length-replicate k 0),
)
