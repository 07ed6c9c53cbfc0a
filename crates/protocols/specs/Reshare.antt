-- Reshare: fresh shares of the same value; Specification: Reshare
use Rattle.std.specs.Prelude.{ℕ}
use Rattle.protocols.specs.declared.shares.Shares.{Shares}
use Rattle.protocols.specs.Word.{add, sub}
use Rattle.protocols.specs.Shares.{prev, at, each}
use Rattle.protocols.specs.Place.{counts, words, to_next}
use Rattle.protocols.specs.Protocol.{Protocol}

-- each miner's share plus its own mask, minus the previous miner's
abbrev pub fresh_shares : ℕ → Shares → Shares → Shares
fresh_shares m s r = each (λ i. sub m (add m (at i s) (at i r)) (at (prev i) r))

-- each miner draws a mask and sends it to the next
unfoldable pub reshare : ℕ → Protocol Shares Shares
reshare m = record {
  draws = counts 0 1 1 1;
  result = λ s b. fresh_shares m s (words b 0);
  received = λ s b. to_next (words b 0);
}
