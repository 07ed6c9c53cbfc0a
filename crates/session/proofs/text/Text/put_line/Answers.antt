-- `session::text::Text::put_line` meets its contract.
use Rattle.session.proofs.Laws.Puts.{adds_then}
use Rattle.session.proofs.text.Text.put_line.Goals as goal

pub returns-clause-added : goal.returns-clause-added
returns-clause-added c = adds_then _ _ c.put_bytes.ensures (adds_then _ _ c.put_numbers.ensures.added c.put_bytes-2.ensures)
