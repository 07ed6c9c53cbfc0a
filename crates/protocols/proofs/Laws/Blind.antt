-- Each protocol is blind for a miner, for the controller, and for a miner that is the controller too.
pub mod Compose
pub mod Miner
pub mod Cover
pub mod Ring
pub mod Bit
pub mod Bits
pub mod Equal
use Rattle.std.proofs.Common.{ℕ, ◌<◌, pow_pos}
use Rattle.protocols.specs.Word.{width, modulus}
use Rattle.protocols.specs.Blind.{Observer}
use Rattle.protocols.specs.Claims.{BlindProtocols}
use Rattle.protocols.proofs.Laws.Blind.Ring.{store_blind, sum_blind, difference_blind, constant_sum_blind, constant_multiple_blind, multiply_blind, reshare_blind, opening_blind}
use Rattle.protocols.proofs.Laws.Blind.Bit.{bit_blind}
use Rattle.protocols.proofs.Laws.Blind.Bits.{bits_blind}
use Rattle.protocols.proofs.Laws.Blind.Equal.{equal_blind, below_blind}

pub blind_protocols : (n : ℕ) (o : Observer) → BlindProtocols n o
blind_protocols n o =
    let pos : 0 < modulus n = pow_pos (width n) in
    record {
      store_blind = store_blind pos o;
      sum_blind = sum_blind (modulus n) o;
      difference_blind = difference_blind (modulus n) o;
      constant_sum_blind = constant_sum_blind (modulus n) o;
      constant_multiple_blind = constant_multiple_blind (modulus n) o;
      multiply_blind = multiply_blind pos o;
      reshare_blind = reshare_blind pos o;
      bits_blind = bits_blind n o;
      bit_blind = λ j. bit_blind n j o;
      equal_blind = equal_blind n o;
      opening_blind = opening_blind pos o;
      below_blind = below_blind n o;
    }
