-- The worked runs, by computation: every definition that a run uses is unfolded here, also those of the protocols.
use mathlib.Core.Path.{refl}
use Rattle.protocols.specs.Word.{add, sub, mul, bit_at, of_bits, shift_up}
use Rattle.protocols.specs.Shares.{sum_of}
use Rattle.protocols.specs.Place.{block}
use Rattle.protocols.specs.Protocol.{◌then◌}
use Rattle.protocols.specs.Store.{store}
use Rattle.protocols.specs.Reshare.{reshare}
use Rattle.protocols.specs.Multiply.{multiply}
use Rattle.protocols.specs.Bit.{bit}
use Rattle.protocols.specs.Bits.{deal, exchange, source, round_s, round_p, round, rounds, bits}
use Rattle.protocols.specs.Equal.{compare, first_masks, fold_share, fold, folds, equal}
use Rattle.protocols.specs.Open.{opening}
use Rattle.protocols.specs.Below.{below}
use Rattle.machine.specs.Verdict.{row_verdict, verdict}
use Rattle.machine.specs.Steps.{protocol}
use Rattle.machine.specs.Command.{accepted_outcome, command}
use Rattle.machine.specs.WorkedRuns.{WorkedRuns}

pub worked_runs : WorkedRuns
unfolding add sub mul bit_at of_bits shift_up sum_of block ◌then◌ store reshare multiply bit deal exchange source round_s round_p round
    rounds bits compare first_masks fold_share fold folds equal opening below row_verdict verdict protocol accepted_outcome command
worked_runs = record {
  store = refl;
  add = refl;
  subtract = refl;
  add_constant = refl;
  times_constant = refl;
  multiply = refl;
  reshare = refl;
  bits = refl;
  bit = refl;
  equal = refl;
  opening = refl;
  below = refl;
}
