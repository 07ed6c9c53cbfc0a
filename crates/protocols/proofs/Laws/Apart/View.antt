-- After a protocol played apart, what a miner has is determined by what it had, drew and received.
use Rattle.std.proofs.Common.{◌≡◌, ℕ, List, [], refl, sym, ap, ◌∙◌, arith}
use Rattle.protocols.specs.declared.place.Party.{Party}
use Rattle.protocols.specs.declared.place.Party.TheVariants.{One, Two, Three}
use Rattle.protocols.specs.declared.shares.Shares.{Shares}
use Rattle.protocols.specs.Shares.{Miner, one, two, three, at, shares, Operands}
use Rattle.protocols.specs.Place.{Tapes, tapes, tape, owner}
use Rattle.protocols.specs.Protocol.{Protocol}
use Rattle.protocols.specs.Parties.{for_party, Connection, PlayedApart}
use Rattle.protocols.specs.Alone.{Alone, alone}
use Rattle.protocols.specs.Own.{share, pair, input}
use Rattle.protocols.specs.Apart.{SameProtocolView, NoMagic}
use Rattle.protocols.proofs.Laws.Apart.Alone.{alone_is}

module _ {S T A B : Type 0} {f : Protocol S T} {before : Party → S → A} {after : Party → T → B}
    (F : PlayedApart f before after) where
  -- party i by itself, from what it has before, its drawn words and its received words
  abbrev its_run : (i : Party) → A → List ℕ → List ℕ → Alone B
  its_run i a l w = alone B F.rounds i F.timetable (F.program i a l) w

  -- it ends with what it is to have of the result
  ends_alike : (i : Party) (s : S) (b : Tapes)
      → (its_run i (before i s) (tape i b) (for_party i (f.received s b))).ends ≡ after i (f.result s b)
  ends_alike i s b =
      let p = λ (j : Party). F.program j (before j s) (tape j b) in
      let e = F.plays s b in
      let times = sym (ap (λ c. c.sent) e) in
      let words = sym (ap (λ c. c.received) e) in
      (λ k. (alone B F.rounds i (times k) (p i) (for_party i (words k))).ends)
      ∙ ap (λ (a : Alone B). a.ends) (alone_is F.rounds p i)
      ∙ ap (λ (c : Connection B). c.ends i) e

  -- if in two runs it has the same before, draws the same and receives the same words, it has the same after
  same_to_party : (i : Party) (s s' : S) (b b' : Tapes) → before i s ≡ before i s' → tape i b ≡ tape i b'
      → for_party i (f.received s b) ≡ for_party i (f.received s' b')
      → after i (f.result s b) ≡ after i (f.result s' b')
  same_to_party i s s' b b' e d w =
      sym (ends_alike i s b) ∙ (λ k. (its_run i (e k) (d k) (w k)).ends) ∙ ends_alike i s' b'

-- ---- for each miner

-- if values that are the `Same` to a miner are the same to its party before the protocol, the claim holds of it
same_to_miner : {S A : Type 0} {f : Protocol S Shares} {before : Party → S → A} {Same : Miner → S → S → Type 0}
    → ((i : Miner) (s s' : S) → Same i s s' → before (owner i) s ≡ before (owner i) s')
    → PlayedApart f before share → SameProtocolView f Same
same_to_miner part F = elim [
  | one ↦ λ s s' b b' e d w. same_to_party F One s s' b b' (part one s s' e) d w
  | two ↦ λ s s' b b' e d w. same_to_party F Two s s' b b' (part two s s' e) d w
  | three ↦ λ s s' b b' e d w. same_to_party F Three s s' b b' (part three s s' e) d w
]

pub view_of_input : (f : Protocol ℕ Shares) → PlayedApart f input share → SameProtocolView f (λ i v v'. Unit {0})
view_of_input f = same_to_miner (elim [ one ↦ λ v v' e. refl | two ↦ λ v v' e. refl | three ↦ λ v v' e. refl ])

pub view_of_shares : (f : Protocol Shares Shares) → PlayedApart f share share → SameProtocolView f (λ i s s'. at i s ≡ at i s')
view_of_shares f = same_to_miner (elim [ one ↦ λ s s' e. e | two ↦ λ s s' e. e | three ↦ λ s s' e. e ])

pub view_of_operands : (f : Protocol Operands Shares) → PlayedApart f pair share
    → SameProtocolView f (λ i x x'. (at i x.u ≡ at i x'.u) × (at i x.v ≡ at i x'.v))
view_of_operands f = same_to_miner (elim [
  | one ↦ λ x x' e k. record { u = e.0 k; v = e.1 k }
  | two ↦ λ x x' e k. record { u = e.0 k; v = e.1 k }
  | three ↦ λ x x' e k. record { u = e.0 k; v = e.1 k }
])

-- ---- so a protocol that gives miner 2 the share of miner 1, with no word sent, is not played apart

pub no_magic : NoMagic
no_magic F =
    let e : ◌≡◌ {A = ℕ} 0 1
    = same_to_party F Two (shares 0 0 0) (shares 1 0 0) (tapes [] [] [] []) (tapes [] [] [] []) refl refl refl in
    omega (arith, e)
