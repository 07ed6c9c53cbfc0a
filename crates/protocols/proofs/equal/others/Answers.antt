-- `protocols::equal::others` meets its contract.
use Rattle.std.proofs.Common.{◌≡◌, ℕ, ◌<◌, [], ◌∷◌, slice_index_or, refl}
use Rattle.protocols.specs.Word.{of_bits}
use Rattle.protocols.specs.Private.WordForm.{others}
use Rattle.protocols.proofs.Laws.Rounds.{each_round}
use Rattle.protocols.proofs.equal.others.Goals as goal

-- the table lists the positions that are no heads
table_is : (k : ℕ) → k < 5 → slice_index_or (2863311530 ∷ 4008636142 ∷ 4278124286 ∷ 4294901758 ∷ 4294967294 ∷ []) k 0 ≡ others 5 k
unfolding others of_bits
table_is = each_round _ refl refl refl refl refl

pub returns : goal.returns
returns c = rw (table_is c.args.round.k c.args.round.below)
