-- `machine::judge::are_kinds` meets its contract.
use Rattle.std.proofs.Common.{sym}
use Rattle.std.proofs.lemmas.List.Folds.{list_all_more}
use Rattle.machine.specs.Verdict.{is_kind}
use Rattle.machine.proofs.Laws.KindTest.{small_or}
use Rattle.machine.proofs.judge.are_kinds.Goals as goal

pub loop-kind-preserved : goal.loop-kind-preserved
loop-kind-preserved c =
    let word = c.less_one-seen in
    rw (small_or c.loop-kind.seen word.result, c.loop-kind.invariant, word.ensures.small) (sym (list_all_more is_kind _ _ 0 c.loop-kind-test.true))
