-- What each party has of a protocol's values: a miner its shares, the provider the input; Specification: Parties apart
use Rattle.std.specs.Prelude.{ℕ}
use Rattle.protocols.specs.declared.place.Party.{Party}
use Rattle.protocols.specs.declared.place.Party.TheVariants.{Provider, One, Two, Three}
use Rattle.protocols.specs.declared.shares.Shares.{Shares}
use Rattle.protocols.specs.Shares.{Operands}

-- a miner's share; the provider has none, so it gets 0
abbrev pub share : Party → Shares → ℕ
share Provider s = 0
share One s = s.one
share Two s = s.two
share Three s = s.three

-- what a party has of two operands
pub record Pair : Type 0 where
  pub u : ℕ
  pub v : ℕ

-- its share of each operand
abbrev pub pair : Party → Operands → Pair
pair i x = record { u = share i x.u; v = share i x.v }

-- the provider's input; the miners have none, so they get 0
abbrev pub input : Party → ℕ → ℕ
input Provider v = v
input One v = 0
input Two v = 0
input Three v = 0
