-- Bodies that lie within the words.
use Rattle.std.specs.Prelude.{ℕ, ◌+◌, ◌≤◌, List, length}
use Rattle.session.specs.Contents.{start_of, count_of}

-- the words have contents, and each body ends within the words
pub record Bodies (w : List ℕ) : Type 0 where
  pub long : 12 ≤ length w
  pub within : (k : ℕ) → k ≤ 5 → start_of w k + count_of w k ≤ length w
