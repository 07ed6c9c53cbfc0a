-- The word of the kinds seen so far is below 2 exactly if each kind is 1 or 2.
use Rattle.std.proofs.Common.{◌≡◌, nat_lt, take}
use Rattle.machine.specs.Verdict.{are_kinds}
use Rattle.machine.proofs.judge.are_kinds.Given as goal

abbrev pub invariant-loop-kind : goal.invariant-loop-kind
invariant-loop-kind l = nat_lt l.seen 2 ≡ are_kinds (take l.kind-index l.kinds)
