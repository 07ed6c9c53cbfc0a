-- `session::report::pool` meets its contract.
use Rattle.session.proofs.Laws.Report.{pool-long, pool-run, is_readable}
use Rattle.session.proofs.report.pool.Goals as goal

pub returns-then-file-gt-BYTES-clause-printed : goal.returns-then-file-gt-BYTES-clause-printed
returns-then-file-gt-BYTES-clause-printed c =
    pool-long c.args.file.now c.args.words.now _ _ c.if-file-gt-BYTES.true c.of_refusal-answer.ensures c.report.ensures.text

pub report-requires-2 : goal.report-requires-2
report-requires-2 c =
    let a = c.args in
    rw c.controller-2.ensures (is_readable a.file.now a.words.now _ c.session-answer.result _ _ c.session-answer.ensures.outcome)

pub returns-clause-printed : goal.returns-clause-printed
returns-clause-printed c =
    let a = c.args in
    pool-run a.file.now a.words.now _ c.session-answer.result _ _ c.session-answer.ensures.outcome c.if-file-gt-BYTES.false
    (rw c.controller-2.ensures at c.report-2.ensures.text)
