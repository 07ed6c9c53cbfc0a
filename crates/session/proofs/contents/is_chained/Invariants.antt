-- The pairs left are chained from the word reached exactly if all pairs are chained from word 12.
use Rattle.std.proofs.Common.{◌≡◌, ◌*◌, drop}
use Rattle.session.specs.Contents.{is_chained}
use Rattle.session.proofs.contents.is_chained.Given as goal

abbrev pub invariant-loop-start : goal.invariant-loop-start
invariant-loop-start l = is_chained l.at (drop (2 * l.start-index) l.contents) l.end ≡ is_chained 12 l.contents l.end
