-- Store: the provider splits an input into shares; Specification: Store
use Rattle.std.specs.Prelude.{ℕ, slice_index_or}
use Rattle.protocols.specs.declared.shares.Shares.{Shares}
use Rattle.protocols.specs.Word.{sub}
use Rattle.protocols.specs.Shares.{shares}
use Rattle.protocols.specs.Place.{Tapes, counts, to_each}
use Rattle.protocols.specs.Protocol.{Protocol}

-- the provider draws s₁, then s₂; s₃ is what they leave of the input v
abbrev pub dealt_shares : ℕ → ℕ → Tapes → Shares
dealt_shares m v b =
    let s₁ = slice_index_or b.provider 0 0 in
    let s₂ = slice_index_or b.provider 1 0 in
    shares s₁ s₂ (sub m (sub m v s₁) s₂)

-- miner i receives sᵢ; Specification: Store
unfoldable pub store : ℕ → Protocol ℕ Shares
store m = record { draws = counts 2 0 0 0; result = dealt_shares m; received = λ v b. to_each (dealt_shares m v b) }
