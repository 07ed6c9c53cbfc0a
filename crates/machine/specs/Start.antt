-- The registers from which the register machine starts; Specification: Registers.
use Rattle.std.specs.Prelude.{ℕ, zero, suc, cond, List, [], ◌∷◌, ◌++◌, nat_eq}
use Rattle.protocols.specs.declared.place.Place.{Place}
use Rattle.protocols.specs.declared.shares.Shares.{Shares}
use Rattle.protocols.specs.Word.{modulus}
use Rattle.protocols.specs.Shares.{sum_of, xor_of}
use Rattle.machine.specs.Lent.{Lent, entry, shares_at}
use Rattle.machine.specs.Registers.{Register, register, Registers, registers}

-- the value of three shares: their exclusive or if the kind is 2, else their sum modulo m; Specification: Shares
abbrev pub combined_word : ℕ → ℕ → Shares → ℕ
combined_word m kind s = cond (nat_eq kind 2) (xor_of s) (sum_of m s)

-- the register of handle h: the value of its shares, and its kind
abbrev pub register_of : ℕ → Lent → ℕ → Register
register_of n l h = register (combined_word (modulus n) (entry l.kinds h) (shares_at l.tables h)) (entry l.kinds h)

-- the list of f 1 to f k
unfoldable pub up_to : {A : Type 0} → ℕ → (ℕ → A) → List A
up_to zero f = []
up_to (suc k) f = up_to k f ++ (f (suc k) ∷ [])

-- the registers of all filled handles, and the place record p; Specification: Registers
unfoldable pub starting_registers : ℕ → Place → Lent → Registers
starting_registers n p l = registers (up_to p.handles (register_of n l)) p
