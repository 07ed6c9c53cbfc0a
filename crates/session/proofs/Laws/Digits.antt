-- The decimal digits of a number are those that the library prints; the most digits that there are.
use Prim.Native.Nat.{ℕ, zero, suc, ◌/◌, ◌^◌, ◌≤◌, ◌<◌}
use mathlib.Core.Path.{◌≡◌}
use mathlib.Core.List.{[], ◌∷◌}
use native.Mathlib.Decide.{dec_lt}
use native.Mathlib.Omega.{arith}
use lib.ListN.{length, length-append}
use Rattle.std.proofs.Common.{rules}
use Rattle.std.specs.Fmt.{decimal as printed}
use Rattle.std.proofs.lemmas.Fmt.{AppendsLastDigit, decimal_from_appends, length-decimal-le}
use Rattle.session.specs.Text.{last_digit, digits, decimal}

pub appends : AppendsLastDigit digits
unfolding digits
appends = search rules

pub decimal_is : (n : ℕ) → n < 2 ^ 64 → decimal n ≡ printed n
decimal_is n h = decimal_from_appends digits appends 20 n h (length-decimal-le 20 n (omega arith) (omega arith) h)

pub digits-length : (k n : ℕ) → length (digits k n) ≤ k
unfolding digits
digits-length zero n = omega arith
digits-length (suc k) n = by_size (dec_lt n 10) (digits-length k (n / 10))
  where
    by_size : Dec (n < 10) → length (digits k (n / 10)) ≤ k → length (digits (suc k) n) ≤ suc k
    by_size (yes one) h = rw (appends.one k n one) (omega arith)
    by_size (no more) h = rw (appends.more k n (omega arith)) (omega (arith, length-append (digits k (n / 10)) (last_digit n ∷ []), h))
