-- Open: fresh shares for the controller, which show it their sum and nothing else; Specification: Open
use Rattle.std.specs.Prelude.{ℕ}
use Rattle.protocols.specs.declared.shares.Shares.{Shares}
use Rattle.protocols.specs.Place.{counts, words, to_next, to_controller, ◌followed_by◌}
use Rattle.protocols.specs.Protocol.{Protocol}
use Rattle.protocols.specs.Reshare.{fresh_shares}

-- each miner sends its mask to the next; the controller receives the fresh shares, and the miners keep their old ones
unfoldable pub opening : ℕ → Protocol Shares Shares
opening m = record {
  draws = counts 0 1 1 1;
  result = λ s b. fresh_shares m s (words b 0);
  received = λ s b. to_next (words b 0) followed_by to_controller (fresh_shares m s (words b 0));
}
