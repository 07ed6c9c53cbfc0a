-- What is claimed of what `pool` prints, and leaves in the lent lists. Specification: Program.
use Rattle.std.specs.Prelude.{ℕ, ◌≤◌, ◌<◌, ◌≡◌, List, length, codes}
use Rattle.session.specs.Words.{words_of}
use Rattle.session.specs.Contents.{sheet_of}
use Rattle.session.specs.Session.{State, SessionOutcome, session}
use Rattle.session.specs.Text.{text_of, pool_outcome, pool}
use Rattle.session.specs.Claims.{IsTaken}

-- promised by `pool_reads`: up to 30,768 bytes a file is a session and its text; a longer one, which no session takes,
-- is `refused 3`, and changes nothing
pub record PoolReads (file w : List ℕ) (s : State) : Type 0 where
  pub reads : length file ≤ 30768 → pool file w s
      ≡ (let o : SessionOutcome = session file w s in
      pool_outcome (text_of (sheet_of (words_of file)) s o.answer) o.words o.state)
  pub too_long : 30768 < length file → pool file w s ≡ pool_outcome (codes "refused 3\n") w s
  pub not_taken : 30768 < length file → ¬ IsTaken file w s
