-- The test of all filled kinds by one word.
use Prim.Native.Nat.{ℕ, zero, suc, ◌+◌, ◌%◌, ◌<◌, ◌≤◌}
use mathlib.Core.Path.{◌≡◌, refl, sym, ap₂, ◌∙◌}
use mathlib.Core.Bool.{Bool, true, false, ◌&&◌, ◌||◌}
use native.Mathlib.Omega.{arith}
use lib.Bits.{bit_or, or_lt, or_comm, or_add_and, and_le_r}
use lib.Dec.{ltb}
use lib.Pow.{pow_pos}
use borrow.Author.Tests.{lt-ltb, le-ltb, ltb-true, ltb-false, ne_eqb}
use Rattle.protocols.specs.Word.{width, modulus, sub}
use Rattle.protocols.proofs.Laws.Ring.{sub_unique}
use Rattle.machine.specs.Verdict.{is_kind}

-- the test of k, from the word r for which r + 1 is k
by_sum : (r k : ℕ) → r < modulus 5 → k < modulus 5 → (r + 1) % modulus 5 ≡ k → ltb r 2 ≡ is_kind k → ltb (sub (modulus 5) k 1) 2 ≡ is_kind k
by_sum r k hr hk e f = rw (← sub_unique (modulus 5) (pow_pos (width 5)) r k 1 hr hk e) f

no_kind : (k : ℕ) → ltb (suc (suc k)) 2 ≡ is_kind (suc (suc (suc k)))
no_kind k =
    le-ltb (suc (suc k)) 2 (omega arith)
    ∙ sym (ap₂ ◌||◌ (ne_eqb (suc (suc (suc k))) 1 (λ f. omega (arith, f))) (ne_eqb (suc (suc (suc k))) 2 (λ f. omega (arith, f))))

-- a word less 1 is below 2 exactly if the word is a kind
pub kind_less_one : (k : ℕ) → k < modulus 5 → ltb (sub (modulus 5) k 1) 2 ≡ is_kind k
kind_less_one zero h = by_sum 4294967295 0 (omega arith) h refl refl
kind_less_one (suc zero) h = by_sum 0 1 (omega arith) h refl refl
kind_less_one (suc (suc zero)) h = by_sum 1 2 (omega arith) h refl refl
kind_less_one (suc (suc (suc k))) h = by_sum (suc (suc k)) (suc (suc (suc k))) (omega (arith, h)) h (omega (arith, h)) (no_kind k)

or_above : (a b : ℕ) → a ≤ bit_or a b
or_above a b = omega (arith, or_add_and a b, and_le_r a b)

-- the bitwise or of two words is below 2 exactly if both are
pub small_or : (a b : ℕ) → ltb (bit_or a b) 2 ≡ (ltb a 2 && ltb b 2)
small_or a b = by_test (ltb a 2) (ltb b 2) refl refl
  where
    by_test : (s t : Bool) → ltb a 2 ≡ s → ltb b 2 ≡ t → ltb (bit_or a b) 2 ≡ (s && t)
    by_test true true e f = lt-ltb (bit_or a b) 2 (or_lt 1 a b (ltb-true a 2 e) (ltb-true b 2 f))
    by_test true false e f = le-ltb (bit_or a b) 2 (omega (arith, ltb-false b 2 f, or_above b a, or_comm a b))
    by_test false t e f = le-ltb (bit_or a b) 2 (omega (arith, ltb-false a 2 e, or_above a b))
