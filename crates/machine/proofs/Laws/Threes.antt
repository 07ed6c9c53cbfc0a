-- Lists that are read in threes: commands, and shares of opened words.
use Prim.Native.Nat.{ℕ, zero, suc, ◌*◌, ◌/◌, ◌≤◌}
use mathlib.Core.Path.{◌≡◌, refl, ap}
use mathlib.Core.List.{List, [], ◌∷◌, map}
use native.Mathlib.Omega.{arith}
use lib.ListN.{length, get_or, take}
use Rattle.std.specs.Simd.{first_chunks}
use Rattle.machine.specs.declared.code.Command.{Command}
use Rattle.machine.specs.Table.{command_of}
use Rattle.protocols.specs.Shares.{shares, sum_of}
use Rattle.machine.specs.Run.{commands_of, sums_in_threes}

-- ---- commands

-- the command of three words
abbrev pub of_words : List ℕ → Command
of_words w = command_of (get_or w 0 0) (get_or w 1 0) (get_or w 2 0)

three_more : (n : ℕ) → suc (suc (suc n)) / 3 ≡ suc (n / 3)
three_more n = omega arith

-- the commands are the threes into which the code cuts the list
pub commands_cut : (l : List ℕ) → commands_of l ≡ map of_words (first_chunks 3 (length l / 3) l)
unfolding commands_of
commands_cut [] = refl
commands_cut (x ∷ []) = refl
commands_cut (x ∷ y ∷ []) = refl
commands_cut (x ∷ y ∷ z ∷ l) = rw (three_more (length l)) (ap (λ (cs : List Command). command_of x y z ∷ cs) (commands_cut l))

three_times : (k : ℕ) → 3 * suc k ≡ suc (suc (suc (3 * k)))
three_times k = omega arith

-- the first k commands are those of the first 3 * k words
pub commands_taken : (k : ℕ) (l : List ℕ) → commands_of (take (3 * k) l) ≡ take k (commands_of l)
unfolding commands_of
commands_taken zero l = refl
commands_taken (suc k) [] = rw (three_times k)
commands_taken (suc k) (x ∷ []) = rw (three_times k)
commands_taken (suc k) (x ∷ y ∷ []) = rw (three_times k)
commands_taken (suc k) (x ∷ y ∷ z ∷ l) = rw (three_times k) (ap (λ (cs : List Command). command_of x y z ∷ cs) (commands_taken k l))

-- the commands have no more words than the list
pub commands_fit : (l : List ℕ) → 3 * length (commands_of l) ≤ length l
unfolding commands_of
commands_fit [] = omega arith
commands_fit (x ∷ []) = omega arith
commands_fit (x ∷ y ∷ []) = omega arith
commands_fit (x ∷ y ∷ z ∷ l) = let h = commands_fit l in omega (arith, h)

-- the sum of three shares
abbrev pub sum_in : ℕ → List ℕ → ℕ
sum_in m s = sum_of m (shares (get_or s 0 0) (get_or s 1 0) (get_or s 2 0))

pub sums_cut : (m : ℕ) (l : List ℕ) → sums_in_threes m l ≡ map (sum_in m) (first_chunks 3 (length l / 3) l)
unfolding sums_in_threes
sums_cut m [] = refl
sums_cut m (x ∷ []) = refl
sums_cut m (x ∷ y ∷ []) = refl
sums_cut m (x ∷ y ∷ z ∷ l) = rw (three_more (length l)) (ap (λ (ws : List ℕ). sum_of m (shares x y z) ∷ ws) (sums_cut m l))
