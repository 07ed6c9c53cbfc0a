-- The lengths of numbers and lines, and numbers one after another.
use Prim.Native.Nat.{ℕ, ◌+◌, ◌*◌, ◌^◌, ◌≤◌, ◌<◌}
use mathlib.Core.Path.{◌≡◌, refl, sym, ap, ◌∙◌}
use mathlib.Core.List.{List, [], ◌∷◌, ◌++◌, append-nil, append_assoc}
use native.Mathlib.Omega.{arith}
use lib.ListN.{length, take, length-append}
use lib.Chars.{codes}
use Rattle.std.proofs.lemmas.List.{length-take}
use Rattle.std.specs.Fmt.{decimal as printed}
use Rattle.session.specs.Text.{digits, spaced_numbers, line, open_line}
use Rattle.session.proofs.Laws.Digits.{digits-length, decimal_is}

-- ---- lengths

spaced_numbers-length : (ns : List ℕ) → length (spaced_numbers ns) ≤ 21 * length ns
unfolding spaced_numbers
spaced_numbers-length [] = omega arith
spaced_numbers-length (n ∷ ns) = omega (arith, length-append (digits 20 n) (spaced_numbers ns), digits-length 20 n, spaced_numbers-length ns)

-- the length of the first i numbers
pub numbers_fit : (i : ℕ) (ns : List ℕ) → length (spaced_numbers (take i ns)) ≤ 21 * i
numbers_fit i ns = omega (arith, spaced_numbers-length (take i ns), length-take i ns)

line-length : (name ns : List ℕ) → length (line name ns) ≤ length name + 21 * length ns + 1
line-length name ns =
    let feed = codes "\n" in
    omega (arith, length-append name (spaced_numbers ns ++ feed), length-append (spaced_numbers ns) feed, spaced_numbers-length ns)

pub open_line-length : (handle word : ℕ) → length (open_line handle word) ≤ 47
unfolding open_line
open_line-length handle word = line-length (codes "open") (handle ∷ word ∷ [])

-- ---- numbers one after another

pub spaced_numbers-append : (ns ms : List ℕ) → spaced_numbers (ns ++ ms) ≡ spaced_numbers ns ++ spaced_numbers ms
unfolding spaced_numbers
spaced_numbers-append [] ms = refl
spaced_numbers-append (n ∷ ns) ms = ap (λ (l : List ℕ). codes " " ++ (digits 20 n ++ l)) (spaced_numbers-append ns ms) ∙ ap (λ (l : List ℕ). codes " " ++ l) (sym (append_assoc (digits 20 n) (spaced_numbers ns) (spaced_numbers ms)))

-- one number is a space and what the library prints
pub spaced_numbers-one : (n : ℕ) → n < 2 ^ 64 → spaced_numbers (n ∷ []) ≡ codes " " ++ printed n
unfolding spaced_numbers
spaced_numbers-one n h = rw (append-nil, decimal_is n h)
