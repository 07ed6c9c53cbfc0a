-- A sheet's contents, the limits of its bodies, and its six lists; Specification: Contents, Specification: Limits.
use Rattle.std.specs.Prelude.{ℕ, ◌+◌, ◌*◌, Bool, true, false, ◌&&◌, List, [], ◌∷◌, get_or, take, drop, nat_le, nat_eq}
use Rattle.protocols.specs.Place.{Tapes, tapes}
use Rattle.machine.specs.declared.code.Command.{Command}
use Rattle.machine.specs.Run.{commands_of}

-- pair k of the contents of the words w: a start and a count; Specification: Contents
abbrev pub start_of : List ℕ → ℕ → ℕ
start_of w k = get_or w (2 * k) 0

abbrev pub count_of : List ℕ → ℕ → ℕ
count_of w k = get_or w (2 * k + 1) 0

-- body k: the part of the words that its pair names; Specification: Contents
abbrev pub body : List ℕ → ℕ → List ℕ
body w k = take (count_of w k) (drop (start_of w k) w)

-- whether the first pair starts at `at`, each next one where the one before it ends, and the last one ends at `end`;
-- sums do not wrap; Specification: Contents
unfoldable pub is_chained : ℕ → List ℕ → ℕ → Bool
is_chained at [] end = nat_eq at end
is_chained at (start ∷ []) end = false
is_chained at (start ∷ count ∷ rest) end = nat_eq start at && is_chained (start + count) rest end

-- the most words of each body; Specification: Limits
abbrev pub limits : List ℕ
limits = 384 ∷ 128 ∷ 256 ∷ 2304 ∷ 2304 ∷ 2304 ∷ []

-- whether each pair's count is at most its limit
unfoldable pub is_within_limits : List ℕ → List ℕ → Bool
is_within_limits [] pairs = true
is_within_limits (most ∷ others) [] = false
is_within_limits (most ∷ others) (start ∷ []) = false
is_within_limits (most ∷ others) (start ∷ count ∷ rest) = nat_le count most && is_within_limits others rest

-- ---- the six lists of a sheet

-- what a sheet holds
pub record Sheet : Type 0 where
  pub commands : List Command
  pub inputs : List ℕ
  pub tapes : Tapes

-- the sheet of a file's words, each list from its body; Specification: Contents
abbrev pub sheet_of : List ℕ → Sheet
sheet_of w = record {
  commands = commands_of (body w 0);
  inputs = body w 1;
  tapes = tapes (body w 2) (body w 3) (body w 4) (body w 5);
}
