-- `protocols::bits::bits` meets what `deliver` requires: its row of Specification: Table of commands
use Rattle.protocols.proofs.Laws.Counts.{rows_at_32}
use Rattle.protocols.proofs.bits.bits.Goals as goal

pub deliver-requires-clause-draws : goal.deliver-requires-clause-draws
deliver-requires-clause-draws c = rows_at_32.bits_row.drawn

pub deliver-requires-clause-receives : goal.deliver-requires-clause-receives
deliver-requires-clause-receives c = rows_at_32.bits_row.long
