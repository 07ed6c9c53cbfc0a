-- A session's text as the code makes it: from the answer, the words and the controller's received words.
use Rattle.std.specs.Prelude.{ℕ, ◌+◌, ◌*◌, ◌≤◌, cond, List, ◌++◌, length, take, drop}
use Rattle.protocols.specs.Word.{modulus}
use Rattle.machine.specs.Run.{commands_of, sums_in_threes}
use Rattle.session.specs.declared.answer.SessionAnswer.{SessionAnswer}
use Rattle.session.specs.Text.{is_early, refusal_line, open_lines_by_words, last_line}

-- the text, from the commands done, which follow the contents, and the controller's three shares for each open
unfoldable pub text_by_shares : SessionAnswer → List ℕ → List ℕ → List ℕ
text_by_shares a w shares =
    let done = commands_of (take (3 * a.done) (drop 12 w)) in
    let opened = sums_in_threes (modulus 5) (take a.place.received.controller shares) in
    cond (is_early a.number) (refusal_line a.number) (open_lines_by_words done opened ++ last_line a)

-- the words and shares that are read for the text are there
pub record IsReadable (a : SessionAnswer) (w shares : List ℕ) : Type 0 where
  pub within_limit : 3 * a.done ≤ 384
  pub has_commands : 12 + 3 * a.done ≤ length w
  pub has_shares : a.place.received.controller ≤ length shares
