-- `session::promises::decimal` meets its contract.
use Rattle.session.proofs.Laws.Decimal.{decimal}
use Rattle.session.proofs.promises.decimal.Goals as goal

pub returns : goal.returns
returns c = decimal
