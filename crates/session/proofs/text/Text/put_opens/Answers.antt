-- `session::text::Text::put_opens` meets its contract.
use Rattle.std.proofs.Common.{◌+◌, ◌*◌, ◌∙◌, arith}
use Rattle.protocols.specs.Word.{modulus}
use Rattle.session.proofs.Laws.Text.{open_line-length}
use Rattle.session.proofs.Laws.OpenLines.{lines_of_threes-chunks, next_sum, lines_open, lines_other, lines_end, adds_open_line}
use Rattle.session.proofs.Laws.Puts.{part_more, part_same, part_all}
use Rattle.session.proofs.text.Text.put_opens.Goals as goal
use Rattle.session.proofs.text.Text.put_opens.Goals.{then-code-eq-OPEN, else-code-eq-OPEN}

pub loop-code-preserved : goal.loop-code-preserved
loop-code-preserved c =
    let l = c.loop-code in
    let cs = c.as_chunks.result.0.now in
    elim c.if-code-eq-OPEN.branch [
      | then-code-eq-OPEN w ↦
          let next = next_sum (modulus 5) l.opened w.next.result w.next.new.self w.map_or-word.result w.next.ensures.steps w.map_or-word.ensures in
          let turn = lines_open (modulus 5) cs l.opened.rest.now l.code-index w.next.new.self.rest.now c.loop-code-test.true w.if-code-eq-OPEN.true next.0 next.1 in
          rw (w.self-is, w.opened-is)
          (part_more _ _ (47 * (l.code-index + 1)) l.invariant turn (omega (arith, open_line-length)) (adds_open_line w.from.ensures w.from-then-code-eq-OPEN.ensures w.put_line.ensures.added))
      | else-code-eq-OPEN w ↦
          rw (w.self-is, w.opened-is)
          (part_same (47 * (l.code-index + 1)) l.invariant (lines_other (modulus 5) cs l.opened.rest.now l.code-index c.loop-code-test.true w.if-code-eq-OPEN.false) (omega arith))
    ]

pub returns-clause-added : goal.returns-clause-added
returns-clause-added c =
    let cs = c.args.commands.now in
    let ss = c.args.shares.now in
    rw (← lines_of_threes-chunks (modulus 5) cs ss c.as_chunks.ensures.front (c.iter-opened.ensures.rest ∙ c.as_chunks-2.ensures.front))
    (part_all c.loop-code.invariant (lines_end (modulus 5) _ _ c.loop-code.code-index (omega arith)))
