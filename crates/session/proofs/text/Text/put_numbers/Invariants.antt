-- The numbers so far are written behind the text.
use Rattle.std.proofs.Common.{take}
use Rattle.session.specs.Text.{spaced_numbers}
use Rattle.session.specs.Private.Writing.{Adds}
use Rattle.session.proofs.text.Text.put_numbers.Given as goal

abbrev pub invariant-loop-n : goal.invariant-loop-n
invariant-loop-n l = Adds l.fn.self (spaced_numbers (take l.n-index l.numbers)) l.self
