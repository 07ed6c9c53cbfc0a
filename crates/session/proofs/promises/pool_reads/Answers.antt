-- `session::promises::pool_reads` meets its contract.
use Rattle.session.proofs.Laws.Pool.{pool_reads}
use Rattle.session.proofs.promises.pool_reads.Goals as goal

pub returns : goal.returns
returns c = pool_reads
