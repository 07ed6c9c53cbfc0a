-- Every protocol is played by parties apart.
use Rattle.std.proofs.Common.{ℕ}
use Rattle.protocols.specs.Word.{modulus}
use Rattle.protocols.specs.Apart.{ProtocolsApart}
use Rattle.protocols.proofs.Laws.Apart.Ring.{sum_apart, difference_apart, constant_multiple_apart, constant_sum_apart}
use Rattle.protocols.proofs.Laws.Apart.Ring.{store_apart, reshare_apart, multiply_apart, opening_apart}
use Rattle.protocols.proofs.Laws.Apart.Bit.{bit_apart}
use Rattle.protocols.proofs.Laws.Apart.Bits.{bits_apart, below_apart}
use Rattle.protocols.proofs.Laws.Apart.Equal.{equal_apart}
pub mod Compose
pub mod Programs
pub mod Ring
pub mod Bit
pub mod Bits
pub mod Equal
pub mod Alone
pub mod Lengths
pub mod View
pub mod Mixed

pub protocols_apart : (n : ℕ) → ProtocolsApart n
protocols_apart n = record {
  store_apart = store_apart (modulus n);
  sum_apart = sum_apart (modulus n);
  difference_apart = difference_apart (modulus n);
  constant_sum_apart = constant_sum_apart (modulus n);
  constant_multiple_apart = constant_multiple_apart (modulus n);
  multiply_apart = multiply_apart (modulus n);
  reshare_apart = reshare_apart (modulus n);
  bits_apart = bits_apart n;
  bit_apart = bit_apart (modulus n);
  equal_apart = equal_apart n;
  opening_apart = opening_apart (modulus n);
  below_apart = below_apart n;
}
