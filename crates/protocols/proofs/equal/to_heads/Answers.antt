-- `protocols::equal::to_heads` meets its contract.
use Rattle.std.proofs.Common.{◌≡◌, ℕ, ◌<◌, ◌^◌, [], ◌∷◌, slice_index_or, refl, arith}
use Rattle.protocols.specs.Word.{of_bits}
use Rattle.protocols.specs.Private.WordForm.{heads}
use Rattle.protocols.proofs.Laws.Rounds.{each_round}
use Rattle.protocols.proofs.Laws.WordForm.{stride}
use Rattle.protocols.proofs.equal.to_heads.Goals as goal

-- the table lists the heads
table_is : (k : ℕ) → k < 5 → slice_index_or (1431655765 ∷ 286331153 ∷ 16843009 ∷ 65537 ∷ 1 ∷ []) k 0 ≡ heads 5 k
unfolding heads of_bits
table_is = each_round _ refl refl refl refl refl

pub returns : goal.returns
returns c = let k = c.args.round.k in let h = c.args.round.below in rw (stride k h, table_is k h)

-- the shift is within the word's width
pub overflow_shr-result : goal.overflow_shr-result
overflow_shr-result c =
    let k = c.args.round.k in
    let h = c.args.round.below in
    rw (stride k h) (each_round (λ k. 2 ^ k < 32) (omega arith) (omega arith) (omega arith) (omega arith) (omega arith) k h)
