-- `session::text::Text::put_number` meets its contract.
use Rattle.std.proofs.Common.{◌∙◌}
use Rattle.session.proofs.Laws.Puts.{adds_number}
use Rattle.session.proofs.text.Text.put_number.Goals as goal

pub returns : goal.returns
returns c = adds_number c.args.n _ c.ranges.n.fits (c.as_bytes.ensures.value ∙ c.format.ensures.text) c.put_bytes.ensures c.put_bytes-2.ensures
