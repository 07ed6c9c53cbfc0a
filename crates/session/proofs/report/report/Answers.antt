-- `session::report::report` meets its contract.
use Rattle.std.proofs.Common.{◌+◌, ◌-◌, ◌*◌, arith}
use Rattle.session.proofs.Laws.Puts.{adds_then, is_front}
use Rattle.session.proofs.Laws.Report.{early_text, late_text}
use Rattle.session.proofs.report.report.Goals as goal

pub returns-then-number : goal.returns-then-number
returns-then-number c =
    let a = c.args in
    rw (early_text a.answer a.words.now a.shares.now c.if-number.true) (is_front c.new-text.ensures.same_bytes c.new-text.ensures.empty c.put_refusal.ensures c.len.ensures)

pub returns : goal.returns
returns c =
    let a = c.args in
    rw (late_text a.answer a.words.now a.shares.now (12 + 3 * a.answer.done - 12) (omega arith) c.if-number.false)
    (is_front c.new-text.ensures.same_bytes c.new-text.ensures.empty (adds_then _ _ c.put_opens.ensures.added c.put_last.ensures) c.len-2.ensures)
