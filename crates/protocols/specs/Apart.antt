-- What is claimed of parties apart, each claim promised by the function that its comment names;
-- Specification: Parties apart
use Rattle.std.specs.Prelude.{◌≡◌, ℕ, Bool, cond}
use Rattle.protocols.specs.declared.place.Party.{Party}
use Rattle.protocols.specs.declared.place.Party.TheVariants.{Provider, One, Two, Three}
use Rattle.protocols.specs.declared.shares.Shares.{Shares}
use Rattle.protocols.specs.Word.{modulus}
use Rattle.protocols.specs.Shares.{Miner, at, each, shares, Operands, operands}
use Rattle.protocols.specs.Place.{Tapes, tapes, tape, owner, Lists, miner, list}
use Rattle.protocols.specs.Protocol.{Protocol, locally}
use Rattle.protocols.specs.Store.{store}
use Rattle.protocols.specs.Local.{sum, difference, constant_multiple, constant_sum}
use Rattle.protocols.specs.Reshare.{reshare}
use Rattle.protocols.specs.Multiply.{multiply}
use Rattle.protocols.specs.Bit.{bit}
use Rattle.protocols.specs.Bits.{bits}
use Rattle.protocols.specs.Equal.{equal}
use Rattle.protocols.specs.Open.{opening}
use Rattle.protocols.specs.Below.{below}
use Rattle.protocols.specs.Parties.{Process, for_party, connect, PlayedApart}
use Rattle.protocols.specs.Own.{share, pair, input}
use Rattle.protocols.specs.Alone.{alone, sends_of, Agree}

-- promised by `protocols_apart`: each protocol is played apart. Before it a miner has its own share of each operand and
-- the provider has the input; after it a miner has its own share of the new value, and nobody has more
pub record ProtocolsApart (n : ℕ) : Type 0 where
  pub store_apart : PlayedApart (store (modulus n)) input share
  pub sum_apart : PlayedApart (locally (sum (modulus n))) pair share
  pub difference_apart : PlayedApart (locally (difference (modulus n))) pair share
  pub constant_sum_apart : (c : ℕ) → PlayedApart (locally (constant_sum (modulus n) c)) share share
  pub constant_multiple_apart : (c : ℕ) → PlayedApart (locally (constant_multiple (modulus n) c)) share share
  pub multiply_apart : PlayedApart (multiply (modulus n)) pair share
  pub reshare_apart : PlayedApart (reshare (modulus n)) share share
  pub bits_apart : PlayedApart (bits n) share share
  pub bit_apart : (j : ℕ) → PlayedApart (bit (modulus n) j) share share
  pub equal_apart : PlayedApart (equal n) pair share
  pub opening_apart : PlayedApart (opening (modulus n)) share share
  pub below_apart : PlayedApart (below n) pair share

-- promised by `by_itself`: what each of four programs does by itself, on its received list, determines what the four do
-- when they are connected
pub record ByItself (B : Type 0) (r : ℕ) (p : Party → Process r B) : Type 0 where
  -- each ends with the same by itself, and sends the same in each round
  pub alike : let c = connect r p in
      (i : Party) → alone B r i c.sent (p i) (for_party i c.received)
      ≡ record { ends = c.ends i; sends = sends_of B r p i }
  -- the received lists agree with what each sends, and no other lists do
  pub agree : let c = connect r p in Agree B r c.sent p c.received
  pub only : let c = connect r p in (w : Lists) → Agree B r c.sent p w → w ≡ c.received

-- promised by `same_protocol_view`: if a protocol is played apart, and in two runs of it a miner has the same before it
-- (`Same`), draws the same words and receives the same words, then the miner has the same share after both
abbrev pub SameProtocolView : {S : Type 0} → Protocol S Shares → (Miner → S → S → Type 0) → Type 0
SameProtocolView {S} f Same = (i : Miner) (s s' : S) (b b' : Tapes)
    → Same i s s' → tape (owner i) b ≡ tape (owner i) b'
    → list (miner i) (f.received s b) ≡ list (miner i) (f.received s' b') → at i (f.result s b) ≡ at i (f.result s' b')

-- a protocol that gives miner 2 the share of miner 1, although no word is sent
abbrev pub magic : Protocol Shares Shares
magic = locally (λ s. shares s.one s.one s.three)

-- promised by `no_magic`: that protocol is not played apart
abbrev pub NoMagic : Type 0
NoMagic = ¬ PlayedApart magic share share

-- ---- runs mixed from two

-- each miner's share in the first run or in the second
abbrev pub mixed_shares : (Party → Bool) → Shares → Shares → Shares
mixed_shares first s s' = each (λ i. cond (first (owner i)) (at i s) (at i s'))

-- the same of both operands
abbrev pub mixed_operands : (Party → Bool) → Operands → Operands → Operands
mixed_operands first x x' = operands (mixed_shares first x.u x'.u) (mixed_shares first x.v x'.v)

-- each party's tape in the first run or in the second
abbrev pub mixed_tapes : (Party → Bool) → Tapes → Tapes → Tapes
mixed_tapes first b b' =
    let its = λ (i : Party). cond (first i) (tape i b) (tape i b') in
    tapes (its Provider) (its One) (its Two) (its Three)

-- promised by `mixed_protocol_runs`: let a protocol be played apart, and let two runs of it deliver the same words.
-- Then a run in which each party has what it has in the one or in the other delivers these words too, and each miner
-- ends as in the run from which its part is. So no party sends a word that is made from what only another party has;
-- this holds of the provider's words and of those for the controller too
pub record MixedProtocolRuns {S : Type 0} (f : Protocol S Shares) (mixed : (Party → Bool) → S → S → S) : Type 0 where
  pub received : (first : Party → Bool) (s s' : S) (b b' : Tapes) → f.received s b ≡ f.received s' b'
      → f.received (mixed first s s') (mixed_tapes first b b') ≡ f.received s b
  pub result : (first : Party → Bool) (s s' : S) (b b' : Tapes) → f.received s b ≡ f.received s' b'
      → f.result (mixed first s s') (mixed_tapes first b b') ≡ mixed_shares first (f.result s b) (f.result s' b')
