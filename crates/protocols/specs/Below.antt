-- Below: the highest bit of a difference; Specification: Below
use Rattle.std.specs.Prelude.{ℕ, ◌-◌}
use Rattle.protocols.specs.declared.shares.Shares.{Shares}
use Rattle.protocols.specs.Word.{width, modulus}
use Rattle.protocols.specs.Shares.{Operands}
use Rattle.protocols.specs.Protocol.{Protocol, locally, ◌then◌}
use Rattle.protocols.specs.Local.{difference}
use Rattle.protocols.specs.Bit.{bit}
use Rattle.protocols.specs.Bits.{bits}

-- the difference, its bit word, and the highest bit of that as a ring value; Specification: Below
unfoldable pub below : ℕ → Protocol Operands Shares
below n = locally (difference (modulus n)) then bits n then bit (modulus n) (width n - 1)
