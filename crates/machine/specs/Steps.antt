-- The protocol of each command; Specification: Accepted commands.
use Rattle.std.specs.Prelude.{ℕ}
use Rattle.protocols.specs.declared.shares.Shares.{Shares}
use Rattle.protocols.specs.Word.{modulus}
use Rattle.protocols.specs.Shares.{Operands, operands}
use Rattle.protocols.specs.Protocol.{Protocol, locally, from_part}
use Rattle.protocols.specs.Store.{store}
use Rattle.protocols.specs.Local.{sum, difference, constant_sum, constant_multiple}
use Rattle.protocols.specs.Reshare.{reshare}
use Rattle.protocols.specs.Multiply.{multiply}
use Rattle.protocols.specs.Bit.{bit}
use Rattle.protocols.specs.Bits.{bits}
use Rattle.protocols.specs.Equal.{equal}
use Rattle.protocols.specs.Open.{opening}
use Rattle.protocols.specs.Below.{below}
use Rattle.machine.specs.Table.{Code}
use Rattle.machine.specs.Table.{Store, Add, Subtract, AddConstant, TimesConstant, Multiply}
use Rattle.machine.specs.Table.{Reshare, Bits, Bit, Equal, Open, Below}
use Rattle.machine.specs.declared.arguments.Arguments.{Arguments}

-- the shares of both operands
abbrev pub operands_of : Arguments → Operands
operands_of g = operands g.u g.v

-- each command's protocol, where b is its public constant or bit position; Specification: Protocols
unfoldable pub protocol : ℕ → Code → ℕ → Protocol Arguments Shares
protocol n Store b = from_part (λ g. g.input) (store (modulus n))
protocol n Add b = from_part operands_of (locally (sum (modulus n)))
protocol n Subtract b = from_part operands_of (locally (difference (modulus n)))
protocol n AddConstant b = from_part (λ g. g.u) (locally (constant_sum (modulus n) b))
protocol n TimesConstant b = from_part (λ g. g.u) (locally (constant_multiple (modulus n) b))
protocol n Multiply b = from_part operands_of (multiply (modulus n))
protocol n Reshare b = from_part (λ g. g.u) (reshare (modulus n))
protocol n Bits b = from_part (λ g. g.u) (bits n)
protocol n Bit b = from_part (λ g. g.u) (bit (modulus n) b)
protocol n Equal b = from_part operands_of (equal n)
protocol n Open b = from_part (λ g. g.u) (opening (modulus n))
protocol n Below b = from_part operands_of (below n)
