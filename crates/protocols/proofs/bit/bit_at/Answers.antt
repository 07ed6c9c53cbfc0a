-- `protocols::bit::bit_at` meets its contract.
use Rattle.std.proofs.Common.{sym, rules}
use lib.Bits.{and_mask}
use Rattle.protocols.specs.Word.{bit_at}
use Rattle.protocols.proofs.Laws.Bitwise.{bit_high}
use Rattle.protocols.proofs.bit.bit_at.Goals as goal

pub returns-then-j-ge32 : goal.returns-then-j-ge32
returns-then-j-ge32 c = sym (bit_high 32 _ (search rules) c.if-j-ge32.true)

pub returns : goal.returns
unfolding bit_at
returns c = and_mask _ 1
