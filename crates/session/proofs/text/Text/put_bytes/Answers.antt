-- `session::text::Text::put_bytes` meets its contract.
use Rattle.std.proofs.Common.{refl, arith}
use Rattle.session.proofs.Laws.Puts.{adds_copied}
use Rattle.session.proofs.text.Text.put_bytes.Goals as goal

pub returns : goal.returns
returns c = adds_copied c.args.bytes.now refl refl refl c.copy_from_slice.ensures.after (omega arith) c.requires
