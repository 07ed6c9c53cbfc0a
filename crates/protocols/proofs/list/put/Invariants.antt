-- The loop of `put`: writing the words from word k on completes the list.
use Rattle.std.proofs.Common.{◌≡◌, ◌+◌, length, drop}
use Rattle.std.proofs.lemmas.List.Edits.{sets}
use Rattle.protocols.proofs.list.put.Given as goal

abbrev pub invariant-loop-k : goal.invariant-loop-k
invariant-loop-k l = (length l.list ≡ length l.fn.list) × (sets l.list (l.at + l.k) (drop l.k l.words) ≡ sets l.fn.list l.at l.words)
