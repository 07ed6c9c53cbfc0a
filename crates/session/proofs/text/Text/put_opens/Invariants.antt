-- The lines of the commands so far are written; the other lines are those of the commands and shares left.
use Rattle.std.proofs.Common.{◌*◌, drop}
use Rattle.protocols.specs.Word.{modulus}
use Rattle.session.proofs.Laws.OpenLines.{lines_of_threes}
use Rattle.session.proofs.Laws.Puts.{PartAdded}
use Rattle.session.proofs.text.Text.put_opens.Given as goal

abbrev pub invariant-loop-code : goal.invariant-loop-code
invariant-loop-code l =
    PartAdded l.fn.self (lines_of_threes (modulus 5) l.commands l.initial.opened.rest.now) (lines_of_threes (modulus 5) (drop l.code-index l.commands) l.opened.rest.now)
    (47 * l.code-index) l.self
