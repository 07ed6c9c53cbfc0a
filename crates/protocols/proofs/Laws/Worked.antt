-- The worked cases: 1 to 9 by computation, 10 to 12 by what new shares combine to; Specification: Worked computations
use Rattle.std.proofs.Common.{◌≡◌, ℕ, ◌-◌, refl, ◌∙◌, ap₂, pow_pos}
use Rattle.protocols.specs.Word.{width, modulus, add, sub, mul, bit_at, of_bits, shift_up}
use Rattle.protocols.specs.Shares.{Operands, sum_of, xor_of}
use Rattle.protocols.specs.Place.{Tapes}
use Rattle.protocols.specs.Protocol.{◌then◌}
use Rattle.protocols.specs.Store.{store}
use Rattle.protocols.specs.Multiply.{multiply}
use Rattle.protocols.specs.Bit.{bit}
use Rattle.protocols.specs.Bits.{deal, exchange, source, round_s, round_p, round, rounds, bits}
use Rattle.protocols.specs.Equal.{compare, first_masks, fold_share, fold, folds}
use Rattle.protocols.specs.Open.{opening}
use Rattle.protocols.specs.Below.{below}
use Rattle.protocols.specs.Contents.{Contents}
use Rattle.protocols.specs.Worked.{Sharing, Worked}
use Rattle.protocols.proofs.Laws.RingCombine.{ring_combines}
use Rattle.protocols.proofs.Laws.BitsCombine.{bits_combine}

-- the product and the comparison of two words in any shares
product_is : (u v : ℕ) (x : Operands) (b : Tapes) → Sharing u v x → sum_of (modulus 5) ((multiply (modulus 5)).result x b) ≡ mul (modulus 5) u v
product_is u v x b h = (ring_combines (modulus 5) (pow_pos (width 5))).multiply_combines x b ∙ ap₂ (mul (modulus 5)) h.0 h.1

below_is : (u v : ℕ) (x : Operands) (b : Tapes) → Contents (modulus 5) (below 5).draws b → Sharing u v x
    → sum_of (modulus 5) ((below 5).result x b) ≡ bit_at (sub (modulus 5) u v) (width 5 - 1)
below_is u v x b c h = (bits_combine 5).below_combines x b c ∙ ap₂ (λ (y z : ℕ). bit_at (sub (modulus 5) y z) (width 5 - 1)) h.0 h.1

pub worked : Worked
unfolding add sub mul bit_at of_bits shift_up sum_of xor_of ◌then◌ store multiply opening bit deal exchange source round_s round_p round rounds bits compare first_masks fold_share fold folds
worked = record {
  case_1 = refl;
  case_1_received = refl;
  case_2 = refl;
  case_2_received = refl;
  case_3 = refl;
  case_3_received = refl;
  case_4 = refl;
  case_4_received = refl;
  case_4_word = refl;
  case_5 = refl;
  case_5_received = refl;
  case_6 = refl;
  case_6_received = refl;
  case_7_value = refl;
  case_7_carries = refl;
  case_7_sum = refl;
  case_8_ones = refl;
  case_8 = refl;
  case_9_start = refl;
  case_9 = refl;
  case_10 = product_is 65536 65536;
  case_11_less = below_is 3 5;
  case_11_equal = below_is 5 5;
  case_12 = below_is 4294967295 0;
}
