-- The words of the first i blocks are at the front of the lent ones.
use Rattle.std.proofs.Common.{◌≡◌, ◌*◌}
use Rattle.session.proofs.Laws.Words.{with_first_words}
use Rattle.session.proofs.words.decode.Given as goal

abbrev pub invariant-loop-i : goal.invariant-loop-i
invariant-loop-i l = l.words ≡ with_first_words l.fn.words l.file 0 (4 * l.i)
