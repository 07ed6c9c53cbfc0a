-- `session::text::Text::put_stop` meets its contract.
use Rattle.session.specs.Text.{stop_line}
use Rattle.session.proofs.Laws.Puts.{adds_then}
use Rattle.session.proofs.text.Text.put_stop.Goals as goal

pub returns : goal.returns
unfolding stop_line
returns c = rw (← c.from.ensures) (adds_then _ _ (adds_then _ _ c.put_bytes.ensures c.put_numbers.ensures.added) c.put_line.ensures.added)
