-- `protocols::promises::draw_is` meets its contract.
use Rattle.protocols.proofs.Laws.Draws.{draw_is}
use Rattle.protocols.proofs.promises.draw_is.Goals as goal

pub returns : goal.returns
returns c = draw_is
