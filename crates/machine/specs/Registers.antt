-- The register machine, which does the commands on plain words; Specification: Registers.
use Rattle.std.specs.Prelude.{ℕ, zero, suc, ◌-◌, cond, List, [], ◌∷◌, ◌++◌, map, get_or, nat_eq}
use Rattle.protocols.specs.declared.place.Place.{Place}
use Rattle.protocols.specs.Word.{width, modulus, add, sub, mul, bit_at}
use Rattle.machine.specs.declared.code.Command.{Command}
use Rattle.machine.specs.Table.{Code, kind_number, row, opens_value, with_row}
use Rattle.machine.specs.Table.{Store, Add, Subtract, AddConstant, TimesConstant, Multiply}
use Rattle.machine.specs.Table.{Reshare, Bits, Bit, Equal, Open, Below}
use Rattle.machine.specs.declared.lent.Sizes.{Sizes}
use Rattle.machine.specs.Verdict.{Verdict, Accepted, Refused, verdict_number, verdict}

-- a register: a word and the number of its kind; Specification: Registers
pub record Register : Type 0 where
  pub word : ℕ
  pub kind : ℕ

abbrev pub register : ℕ → ℕ → Register
register w k = record { word = w; kind = k }

-- the registers in the order of their handles, and the machine's own place record; Specification: Registers
pub record Registers : Type 0 where
  pub held : List Register
  pub place : Place

abbrev pub registers : List Register → Place → Registers
registers l p = record { held = l; place = p }

-- the register of handle h
abbrev pub register_at : List Register → ℕ → Register
register_at l h = get_or l (h - 1) (register 0 0)

-- ---- one command

-- each command's new value, from its operands x and y, its word b and the next input; Specification: Table of commands
abbrev pub value : ℕ → Code → ℕ → ℕ → ℕ → ℕ → ℕ
value n Store x y b input = input
value n Add x y b input = add (modulus n) x y
value n Subtract x y b input = sub (modulus n) x y
value n AddConstant x y b input = add (modulus n) x b
value n TimesConstant x y b input = mul (modulus n) x b
value n Multiply x y b input = mul (modulus n) x y
value n Reshare x y b input = x
value n Bits x y b input = x
value n Bit x y b input = bit_at x b
value n Equal x y b input = cond (nat_eq x y) 1 0
value n Open x y b input = x
value n Below x y b input = bit_at (sub (modulus n) x y) (width n - 1)

-- the registers, with one more if there is a new value
abbrev pub with_register : ℕ → List Register → Register → List Register
with_register zero l r = l
with_register (suc k) l r = l ++ (r ∷ [])

-- the verdict from the lengths of the lent lists and the machine's own kinds and counts; Specification: Registers
abbrev pub judge : ℕ → Command → Sizes → Registers → Verdict
judge n c z m = verdict n c m.place z (map (λ r. r.kind) m.held)

-- an accepted command adds its new register, if there is one, and the counts of its row; a refused one changes
-- nothing; Specification: Registers
abbrev pub next_registers : ℕ → Verdict → Command → List ℕ → Registers → Registers
next_registers n (Accepted x) c inputs m =
    let w =
    value n x (register_at m.held c.a).word (register_at m.held c.b).word c.b (get_or inputs m.place.inputs 0) in
    registers (with_register (row n x).values m.held (register w (kind_number (row n x).kind)))
    (with_row m.place (row n x))
next_registers n (Refused r) c inputs m = m

-- the registers after the command c; Specification: Registers
unfoldable pub step : ℕ → Command → Sizes → List ℕ → Registers → Registers
step n c z inputs m = next_registers n (judge n c z m) c inputs m

-- ---- opened words; Specification: Opened words

-- the word of the register that an accepted open names; none for any other command
abbrev pub opened_register : ℕ → Verdict → Command → Registers → List ℕ
opened_register n (Accepted x) c m = cond (opens_value (row n x)) ((register_at m.held c.a).word ∷ []) []
opened_register n (Refused r) c m = []

-- the opened words of a run on the register machine; Specification: Opened words
unfoldable pub opened_registers : ℕ → List Command → Sizes → List ℕ → Registers → List ℕ
opened_registers n [] z inputs m = []
opened_registers n (c ∷ l) z inputs m =
    opened_register n (judge n c z m) c m ++ opened_registers n l z inputs (step n c z inputs m)

-- the opened words of a run up to the first refusal; Specification: Opened words
unfoldable pub opened_registers_to_refusal : ℕ → List Command → Sizes → List ℕ → Registers → List ℕ
opened_registers_to_refusal n [] z inputs m = []
opened_registers_to_refusal n (c ∷ l) z inputs m =
    opened_register n (judge n c z m) c m
    ++ cond (nat_eq (verdict_number (judge n c z m)) 0)
    (opened_registers_to_refusal n l z inputs (step n c z inputs m)) []
