-- Add, subtract, add constant, times constant: each miner on its own share; Specification: Local commands
use Rattle.std.specs.Prelude.{ℕ}
use Rattle.protocols.specs.declared.shares.Shares.{Shares}
use Rattle.protocols.specs.Word.{add, sub, mul}
use Rattle.protocols.specs.Shares.{at, each, shares, Operands}

-- add: u_i + v_i
abbrev pub sum : ℕ → Operands → Shares
sum m x = each (λ i. add m (at i x.u) (at i x.v))

-- subtract: u_i - v_i
abbrev pub difference : ℕ → Operands → Shares
difference m x = each (λ i. sub m (at i x.u) (at i x.v))

-- times constant: u_i · c
abbrev pub constant_multiple : ℕ → ℕ → Shares → Shares
constant_multiple m c u = each (λ i. mul m (at i u) c)

-- add constant: c is added to miner 1's share only
abbrev pub constant_sum : ℕ → ℕ → Shares → Shares
constant_sum m c u = shares (add m u.one c) u.two u.three
