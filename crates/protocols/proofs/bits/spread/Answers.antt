-- `protocols::bits::spread` meets its contract.
use Rattle.std.proofs.Common.{◌≡◌, ℕ, ◌<◌, [], ◌∷◌, slice_index_or, refl}
use Rattle.protocols.specs.Private.WordForm.{sources, spread}
use Rattle.protocols.proofs.Laws.Rounds.{each_round}
use Rattle.protocols.proofs.Laws.WordForm.{stride}
use Rattle.protocols.proofs.bits.spread.Goals as goal

-- the table lists the sources
table_is : (k : ℕ) → k < 5 → slice_index_or (1431655765 ∷ 572662306 ∷ 134744072 ∷ 8388736 ∷ 32768 ∷ []) k 0 ≡ sources 5 k
unfolding sources
table_is = each_round _ refl refl refl refl refl

pub returns : goal.returns
unfolding spread
returns c = rw (stride c.args.round.k c.args.round.below, table_is c.args.round.k c.args.round.below)
