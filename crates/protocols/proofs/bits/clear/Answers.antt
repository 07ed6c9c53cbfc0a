-- `protocols::bits::clear` meets its contract.
use Rattle.std.proofs.Common.{◌≡◌, ℕ, ◌<◌, [], ◌∷◌, slice_index_or, refl}
use Rattle.protocols.specs.Word.{of_bits, bit_at}
use Rattle.protocols.specs.Private.WordForm.{clear}
use Rattle.protocols.proofs.Laws.Rounds.{each_round}
use Rattle.protocols.proofs.bits.clear.Goals as goal

-- the table lists the positions whose bit k is clear
table_is : (k : ℕ) → k < 5 → slice_index_or (1431655765 ∷ 858993459 ∷ 252645135 ∷ 16711935 ∷ 65535 ∷ []) k 0 ≡ clear 5 k
unfolding clear of_bits bit_at
table_is = each_round _ refl refl refl refl refl

pub returns : goal.returns
returns c = rw (table_is c.args.round.k c.args.round.below)
