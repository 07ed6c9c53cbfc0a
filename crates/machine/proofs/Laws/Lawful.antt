-- The laws that each of the twelve commands meets (`Lawful`). Other proofs use these, without cases for each command.
use Prim.Native.Nat.{ℕ, ◌+◌, ◌-◌, ◌≤◌, ◌<◌}
use mathlib.Core.Path.{◌≡◌, refl, ap, ap₂}
use mathlib.Core.Bool.{cond}
use native.Mathlib.Omega.{arith}
use lib.Dec.{eqb, lit≤}
use lib.ListN.{get_or}
use lib.Pow.{pow_pos}
use Rattle.protocols.specs.declared.place.Party.{Party}
use Rattle.protocols.specs.declared.place.Place.{Place}
use Rattle.protocols.specs.Word.{width, modulus, add, sub, mul, bit_at}
use Rattle.protocols.specs.Shares.{SharesAreWords, operands, sum_of}
use Rattle.protocols.specs.Place.{Tapes, controller}
use Rattle.protocols.specs.Protocol.{locally, perform}
use Rattle.protocols.specs.Contents.{Contents}
use Rattle.protocols.specs.Counts.{HasCounts}
use Rattle.protocols.specs.Blind.{Observer, Sees, SameShares, Blind}
use Rattle.protocols.specs.Parties.{PlayedApart}
use Rattle.protocols.specs.Own.{share, Pair, input}
use Rattle.protocols.specs.Claims.{RingCombines}
use Rattle.protocols.specs.Local.{sum, difference, constant_sum, constant_multiple}
use Rattle.protocols.specs.Store.{store}
use Rattle.protocols.specs.Reshare.{reshare}
use Rattle.protocols.specs.Multiply.{multiply}
use Rattle.protocols.specs.Bit.{bit}
use Rattle.protocols.specs.Bits.{bits}
use Rattle.protocols.specs.Equal.{equal}
use Rattle.protocols.specs.Open.{opening}
use Rattle.protocols.specs.Below.{below}
use Rattle.protocols.proofs.Laws.Counts.{rows}
use Rattle.protocols.proofs.Laws.RingCombine.{ring_combines}
use Rattle.protocols.proofs.Laws.BitsCombine.{bits_combine}
use Rattle.protocols.proofs.Laws.Blind.{blind_protocols}
use Rattle.protocols.proofs.Laws.Apart.Compose.{apart-from_part}
use Rattle.protocols.proofs.Laws.Apart.{protocols_apart}
use Rattle.machine.specs.Table.{Code, kind_number, row}
use Rattle.machine.specs.Table.{Store, Add, Subtract, AddConstant, TimesConstant, Multiply, Reshare, Bits, Bit, Equal, Open, Below}
use Rattle.machine.specs.declared.code.Command.{Command}
use Rattle.machine.specs.declared.arguments.Arguments.{Arguments}
use Rattle.machine.specs.Lent.{Lent, entry, shares_at}
use Rattle.machine.specs.Steps.{operands_of, protocol}
use Rattle.machine.specs.Command.{command}
use Rattle.machine.specs.Registers.{value}
use Rattle.machine.specs.Start.{combined_word}
use Rattle.machine.specs.Private.Accept.{IfHandle, Serves}
use Rattle.machine.specs.Claims.{NewValue}
use Rattle.machine.proofs.Laws.Part.{same-on, counted-on, blind-on}

-- ---- what a command works on

-- the arguments are words
abbrev pub ArgumentsAreWords : ℕ → Code → Arguments → Type 0
ArgumentsAreWords n x g =
    (g.input < modulus n) × IfHandle (row n x).a (SharesAreWords (modulus n) g.u) × IfHandle (row n x).b (SharesAreWords (modulus n) g.v)

-- the arguments look the same to an observer: inputs may differ, the word that an open shows may not
pub record SameArguments (n : ℕ) (o : Observer) (x : Code) (g g' : Arguments) : Type 0 where
  pub u : SameShares o g.u g'.u
  pub v : SameShares o g.v g'.v
  pub opened : x ≡ Open → Sees o controller → sum_of (modulus n) g.u ≡ sum_of (modulus n) g'.u

-- a party's own arguments: the provider's next input, a miner's shares of the operands
pub record OwnArguments : Type 0 where
  pub input : ℕ
  pub u : ℕ
  pub v : ℕ

abbrev pub own_arguments : Party → Arguments → OwnArguments
own_arguments i g = record { input = input i g.input; u = share i g.u; v = share i g.v }

abbrev own_both : OwnArguments → Pair
own_both g = record { u = g.u; v = g.v }

-- ---- the laws of a command

-- the new handle has the kind of the row, and its value is the command's, from what the operands' shares combine to
abbrev pub NewHandle : ℕ → Command → Place → Lent → Code → Type 0
NewHandle n c p l x =
    let k = kind_number (row n x).kind in
    let operand : ℕ → ℕ = λ h. combined_word (modulus n) (kind_number (row n x).operands) (shares_at l.tables h) in
    let o = command n c p l in
    (entry o.lent.kinds (p.handles + 1) ≡ k)
    × (combined_word (modulus n) k (shares_at o.lent.tables (p.handles + 1)) ≡ value n x (operand c.a) (operand c.b) c.b (get_or l.inputs p.inputs 0))

pub record Lawful (x : Code) : Type 0 where
  -- its row has at most one new value, and only store takes an input
  pub one_value : (n : ℕ) → (row n x).values ≤ 1
  pub takes_input : (n : ℕ) → 0 < (row n x).inputs → x ≡ Store
  -- its protocol and its value depend only on the arguments that the row names
  pub same_outcome : (b : ℕ) (p : Place) (t : Tapes) (g h : Arguments)
      → Serves (row 5 x) g h → perform (protocol 5 x b) g p t ≡ perform (protocol 5 x b) h p t
  pub same_value : (n u u' v v' b input : ℕ)
      → IfHandle (row n x).a (u ≡ u') → IfHandle (row n x).b (v ≡ v') → value n x u v b input ≡ value n x u' v' b input
  -- its protocol draws and sends as many words as the row says, and makes words
  pub counted : (n b : ℕ)
      → HasCounts (modulus n) (protocol n x b) (ArgumentsAreWords n x) (SharesAreWords (modulus n)) (row n x).drawn (row n x).received
  -- its new shares combine to the register machine's value, from what the operands' shares combine to
  pub combines : (n b : ℕ) (g : Arguments) (t : Tapes) → ArgumentsAreWords n x g → Contents (modulus n) (protocol n x b).draws t
      → combined_word (modulus n) (kind_number (row n x).kind) ((protocol n x b).result g t)
      ≡ value n x (combined_word (modulus n) (kind_number (row n x).operands) g.u) (combined_word (modulus n) (kind_number (row n x).operands) g.v) b g.input
  -- this is the new value of the agreement
  pub new_value : (n : ℕ) (c : Command) (p : Place) (l : Lent) → ((row n x).values ≡ 1 → NewHandle n c p l x) → NewValue n c p l x
  -- its protocol is blind, and parties apart can play it
  pub blind : (n : ℕ) (o : Observer) (b : ℕ)
      → Blind (modulus n) o (protocol n x b) (ArgumentsAreWords n x) (SameArguments n o x) (SameShares o)
  pub apart : (n b : ℕ) → PlayedApart (protocol n x b) own_arguments share

-- ---- the twelve commands

pub ring : (n : ℕ) → RingCombines (modulus n)
ring n = ring_combines (modulus n) (pow_pos (width n))

store_law : Lawful Store
unfolding protocol
store_law = record {
  one_value = λ n. lit≤ tt;
  takes_input = λ n h. refl;
  same_outcome = λ b p t g h s. same-on (λ (g : Arguments). g.input) (store (modulus 5)) g h p t (s.0 (λ e. omega (arith, e)));
  same_value = λ n u u' v v' b input e f. refl;
  counted = λ n b. counted-on (λ g. g.input) (λ g h. h.0) (rows n).store_row;
  combines = λ n b g t h c. (ring n).store_combines g.input h.0 t;
  new_value = λ n c p l h. h refl;
  blind = λ n o b. blind-on (λ g. g.input) (λ g h. h.0) (λ g g' s. tt) (blind_protocols n o).store_blind;
  apart = λ n b. apart-from_part (λ g. g.input) (λ i g. refl) (protocols_apart n).store_apart;
}

add_law : Lawful Add
unfolding protocol
add_law = record {
  one_value = λ n. lit≤ tt;
  takes_input = λ n h. absurd (omega arith);
  same_outcome = λ b p t g h s. same-on operands_of (locally (sum (modulus 5))) g h p t (λ i. operands (s.1 i) (s.2 i));
  same_value = λ n u u' v v' b input e f. ap₂ (add (modulus n)) e f;
  counted = λ n b. counted-on operands_of (λ g h. (h.1, h.2)) (rows n).sum_row;
  combines = λ n b g t h c. (ring n).sum_combines (operands_of g);
  new_value = λ n c p l h. h refl;
  blind = λ n o b. blind-on operands_of (λ g h. (h.1, h.2)) (λ g g' s. (s.u, s.v)) (blind_protocols n o).sum_blind;
  apart = λ n b. apart-from_part own_both (λ i g. refl) (protocols_apart n).sum_apart;
}

subtract_law : Lawful Subtract
unfolding protocol
subtract_law = record {
  one_value = λ n. lit≤ tt;
  takes_input = λ n h. absurd (omega arith);
  same_outcome = λ b p t g h s. same-on operands_of (locally (difference (modulus 5))) g h p t (λ i. operands (s.1 i) (s.2 i));
  same_value = λ n u u' v v' b input e f. ap₂ (sub (modulus n)) e f;
  counted = λ n b. counted-on operands_of (λ g h. (h.1, h.2)) (rows n).difference_row;
  combines = λ n b g t h c. (ring n).difference_combines (operands_of g);
  new_value = λ n c p l h. h refl;
  blind = λ n o b. blind-on operands_of (λ g h. (h.1, h.2)) (λ g g' s. (s.u, s.v)) (blind_protocols n o).difference_blind;
  apart = λ n b. apart-from_part own_both (λ i g. refl) (protocols_apart n).difference_apart;
}

add_constant_law : Lawful AddConstant
unfolding protocol
add_constant_law = record {
  one_value = λ n. lit≤ tt;
  takes_input = λ n h. absurd (omega arith);
  same_outcome = λ b p t g h s. same-on (λ (g : Arguments). g.u) (locally (constant_sum (modulus 5) b)) g h p t s.1;
  same_value = λ n u u' v v' b input e f. ap (λ (w : ℕ). add (modulus n) w b) e;
  counted = λ n b. counted-on (λ g. g.u) (λ g h. h.1) ((rows n).constant_sum_row b);
  combines = λ n b g t h c. (ring n).constant_sum_combines b g.u;
  new_value = λ n c p l h. h refl;
  blind = λ n o b. blind-on (λ g. g.u) (λ g h. h.1) (λ g g' s. s.u) ((blind_protocols n o).constant_sum_blind b);
  apart = λ n b. apart-from_part (λ g. g.u) (λ i g. refl) ((protocols_apart n).constant_sum_apart b);
}

times_constant_law : Lawful TimesConstant
unfolding protocol
times_constant_law = record {
  one_value = λ n. lit≤ tt;
  takes_input = λ n h. absurd (omega arith);
  same_outcome = λ b p t g h s. same-on (λ (g : Arguments). g.u) (locally (constant_multiple (modulus 5) b)) g h p t s.1;
  same_value = λ n u u' v v' b input e f. ap (λ (w : ℕ). mul (modulus n) w b) e;
  counted = λ n b. counted-on (λ g. g.u) (λ g h. h.1) ((rows n).constant_multiple_row b);
  combines = λ n b g t h c. (ring n).constant_multiple_combines b g.u;
  new_value = λ n c p l h. h refl;
  blind = λ n o b. blind-on (λ g. g.u) (λ g h. h.1) (λ g g' s. s.u) ((blind_protocols n o).constant_multiple_blind b);
  apart = λ n b. apart-from_part (λ g. g.u) (λ i g. refl) ((protocols_apart n).constant_multiple_apart b);
}

multiply_law : Lawful Multiply
unfolding protocol
multiply_law = record {
  one_value = λ n. lit≤ tt;
  takes_input = λ n h. absurd (omega arith);
  same_outcome = λ b p t g h s. same-on operands_of (multiply (modulus 5)) g h p t (λ i. operands (s.1 i) (s.2 i));
  same_value = λ n u u' v v' b input e f. ap₂ (mul (modulus n)) e f;
  counted = λ n b. counted-on operands_of (λ g h. (h.1, h.2)) (rows n).multiply_row;
  combines = λ n b g t h c. (ring n).multiply_combines (operands_of g) t;
  new_value = λ n c p l h. h refl;
  blind = λ n o b. blind-on operands_of (λ g h. (h.1, h.2)) (λ g g' s. (s.u, s.v)) (blind_protocols n o).multiply_blind;
  apart = λ n b. apart-from_part own_both (λ i g. refl) (protocols_apart n).multiply_apart;
}

reshare_law : Lawful Reshare
unfolding protocol
reshare_law = record {
  one_value = λ n. lit≤ tt;
  takes_input = λ n h. absurd (omega arith);
  same_outcome = λ b p t g h s. same-on (λ (g : Arguments). g.u) (reshare (modulus 5)) g h p t s.1;
  same_value = λ n u u' v v' b input e f. e;
  counted = λ n b. counted-on (λ g. g.u) (λ g h. h.1) (rows n).reshare_row;
  combines = λ n b g t h c. (ring n).reshare_combines g.u t;
  new_value = λ n c p l h. h refl;
  blind = λ n o b. blind-on (λ g. g.u) (λ g h. h.1) (λ g g' s. s.u) (blind_protocols n o).reshare_blind;
  apart = λ n b. apart-from_part (λ g. g.u) (λ i g. refl) (protocols_apart n).reshare_apart;
}

bits_law : Lawful Bits
unfolding protocol
bits_law = record {
  one_value = λ n. lit≤ tt;
  takes_input = λ n h. absurd (omega arith);
  same_outcome = λ b p t g h s. same-on (λ (g : Arguments). g.u) (bits 5) g h p t s.1;
  same_value = λ n u u' v v' b input e f. e;
  counted = λ n b. counted-on (λ g. g.u) (λ g h. h.1) (rows n).bits_row;
  combines = λ n b g t h c. (bits_combine n).bits_combines g.u t c;
  new_value = λ n c p l h. h refl;
  blind = λ n o b. blind-on (λ g. g.u) (λ g h. h.1) (λ g g' s. s.u) (blind_protocols n o).bits_blind;
  apart = λ n b. apart-from_part (λ g. g.u) (λ i g. refl) (protocols_apart n).bits_apart;
}

bit_law : Lawful Bit
unfolding protocol
bit_law = record {
  one_value = λ n. lit≤ tt;
  takes_input = λ n h. absurd (omega arith);
  same_outcome = λ b p t g h s. same-on (λ (g : Arguments). g.u) (bit (modulus 5) b) g h p t s.1;
  same_value = λ n u u' v v' b input e f. ap (λ (w : ℕ). bit_at w b) e;
  counted = λ n b. counted-on (λ g. g.u) (λ g h. h.1) ((rows n).bit_row b);
  combines = λ n b g t h c. (bits_combine n).bit_combines b g.u t;
  new_value = λ n c p l h. h refl;
  blind = λ n o b. blind-on (λ g. g.u) (λ g h. h.1) (λ g g' s. s.u) ((blind_protocols n o).bit_blind b);
  apart = λ n b. apart-from_part (λ g. g.u) (λ i g. refl) ((protocols_apart n).bit_apart b);
}

equal_law : Lawful Equal
unfolding protocol
equal_law = record {
  one_value = λ n. lit≤ tt;
  takes_input = λ n h. absurd (omega arith);
  same_outcome = λ b p t g h s. same-on operands_of (equal 5) g h p t (λ i. operands (s.1 i) (s.2 i));
  same_value = λ n u u' v v' b input e f. ap₂ (λ (w z : ℕ). cond (eqb w z) 1 0) e f;
  counted = λ n b. counted-on operands_of (λ g h. (h.1, h.2)) (rows n).equal_row;
  combines = λ n b g t h c. (bits_combine n).equal_combines (operands_of g) t;
  new_value = λ n c p l h. h refl;
  blind = λ n o b. blind-on operands_of (λ g h. (h.1, h.2)) (λ g g' s. (s.u, s.v)) (blind_protocols n o).equal_blind;
  apart = λ n b. apart-from_part own_both (λ i g. refl) (protocols_apart n).equal_apart;
}

open_law : Lawful Open
unfolding protocol
open_law = record {
  one_value = λ n. lit≤ tt;
  takes_input = λ n h. absurd (omega arith);
  same_outcome = λ b p t g h s. same-on (λ (g : Arguments). g.u) (opening (modulus 5)) g h p t s.1;
  same_value = λ n u u' v v' b input e f. e;
  counted = λ n b. counted-on (λ g. g.u) (λ g h. h.1) (rows n).opening_row;
  combines = λ n b g t h c. (ring n).opening_combines g.u t;
  new_value = λ n c p l h. tt;
  blind = λ n o b. blind-on (λ g. g.u) (λ g h. h.1) (λ g g' s. (s.u, s.opened refl)) (blind_protocols n o).opening_blind;
  apart = λ n b. apart-from_part (λ g. g.u) (λ i g. refl) (protocols_apart n).opening_apart;
}

below_law : Lawful Below
unfolding protocol
below_law = record {
  one_value = λ n. lit≤ tt;
  takes_input = λ n h. absurd (omega arith);
  same_outcome = λ b p t g h s. same-on operands_of (below 5) g h p t (λ i. operands (s.1 i) (s.2 i));
  same_value = λ n u u' v v' b input e f. ap₂ (λ (w z : ℕ). bit_at (sub (modulus n) w z) (width n - 1)) e f;
  counted = λ n b. counted-on operands_of (λ g h. (h.1, h.2)) (rows n).below_row;
  combines = λ n b g t h c. (bits_combine n).below_combines (operands_of g) t c;
  new_value = λ n c p l h. h refl;
  blind = λ n o b. blind-on operands_of (λ g h. (h.1, h.2)) (λ g g' s. (s.u, s.v)) (blind_protocols n o).below_blind;
  apart = λ n b. apart-from_part own_both (λ i g. refl) (protocols_apart n).below_apart;
}

pub lawful : (x : Code) → Lawful x
lawful Store = store_law
lawful Add = add_law
lawful Subtract = subtract_law
lawful AddConstant = add_constant_law
lawful TimesConstant = times_constant_law
lawful Multiply = multiply_law
lawful Reshare = reshare_law
lawful Bits = bits_law
lawful Bit = bit_law
lawful Equal = equal_law
lawful Open = open_law
lawful Below = below_law
