-- `session::text::Text::put_numbers` meets its contract.
use Rattle.std.proofs.Common.{◌<◌, length, arith}
use Rattle.std.proofs.lemmas.List.{take_more}
use Rattle.session.specs.Text.{spaced_numbers}
use Rattle.session.proofs.Laws.Puts.{adds_nothing, adds_then}
use Rattle.session.proofs.Laws.Text.{spaced_numbers-append}
use Rattle.session.proofs.text.Text.put_numbers.Goals as goal

pub loop-n-init : goal.loop-n-init
unfolding spaced_numbers
loop-n-init c = adds_nothing (omega arith)

pub loop-n-preserved : goal.loop-n-preserved
loop-n-preserved c =
    let h : c.loop-n.n-index < length c.args.numbers.now = omega arith in
    rw (take_more c.args.numbers.now c.loop-n.n-index 0 h, spaced_numbers-append) (adds_then _ _ c.loop-n.invariant c.put_number.ensures)
