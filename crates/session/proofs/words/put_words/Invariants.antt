-- The first i words of the bytes are written from `at` on.
use Rattle.std.proofs.Common.{◌≡◌}
use Rattle.session.proofs.Laws.Words.{with_first_words}
use Rattle.session.proofs.words.put_words.Given as goal

abbrev pub invariant-loop-i : goal.invariant-loop-i
invariant-loop-i l = l.words ≡ with_first_words l.fn.words l.bytes l.at l.i
