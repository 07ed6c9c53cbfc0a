-- The words that each party receives, written out.
use Rattle.std.proofs.Common.{ℕ, refl}
use Rattle.protocols.specs.Store.{store}
use Rattle.protocols.specs.Reshare.{reshare}
use Rattle.protocols.specs.Multiply.{multiply}
use Rattle.protocols.specs.Open.{opening}
use Rattle.protocols.specs.Bit.{bit}
use Rattle.protocols.specs.Claims.{Transcripts}

pub transcripts : (m : ℕ) → Transcripts m
unfolding store reshare multiply opening bit
transcripts m = record {
  store_words = λ v b. refl;
  reshare_words = λ u b. refl;
  multiply_words = λ o b. refl;
  opening_words = λ u b. refl;
  bit_words = λ j u b. refl;
}
