-- Each miner's program of Bits, round by round; connected, they play it, and so Below.
use Rattle.std.proofs.Common.{ℕ, List, [], ◌∷◌, refl}
use Rattle.std.specs.Prelude.{bit_xor, bit_and, ◌-◌}
use Rattle.protocols.specs.declared.place.Party.{Party}
use Rattle.protocols.specs.declared.place.Party.TheVariants.{Provider, One, Two, Three}
use Rattle.protocols.specs.declared.bits.Dealing.{Dealing}
use Rattle.protocols.specs.declared.bits.CarryState.{CarryState}
use Rattle.protocols.specs.Word.{width, modulus, add, sub, shift_up}
use Rattle.protocols.specs.Shares.{Miner, one, two, three}
use Rattle.protocols.specs.Place.{lists, silence}
use Rattle.protocols.specs.Bits.{deal, exchange, round_s, round_p, rounds, bits}
use Rattle.protocols.specs.Bits as spec
use Rattle.protocols.specs.Below.{below}
use Rattle.protocols.specs.Counts.{received_counts}
use Rattle.protocols.specs.Parties.{Process, connect, PlayedApart}
use Rattle.protocols.specs.Own.{share, pair}
use Rattle.protocols.proofs.Laws.Apart.Compose.{alike, apart_then, apart-with_rounds, apart-locally}
use Rattle.protocols.proofs.Laws.Apart.Programs.{round, nth, miners, by_miner}
use Rattle.protocols.proofs.Laws.Apart.Programs.{for_next, for_two_three, from_previous, previous}
use Rattle.protocols.proofs.Laws.Apart.Programs.{miners_send, each_next, one_deals}
use Rattle.protocols.proofs.Laws.Apart.Ring.{difference_apart}
use Rattle.protocols.proofs.Laws.Apart.Bit.{bit_apart}

-- ---- the dealing

-- after the dealing miners 2 and 3 have a masked share and R₂, R₃
record OwnDealing : Type 0 where
  v : ℕ
  R : ℕ

abbrev own_dealing : Party → Dealing → OwnDealing
own_dealing Provider d = record { v = 0; R = 0 }
own_dealing One d = record { v = 0; R = 0 }
own_dealing Two d = record { v = d.v2; R = d.bar2 }
own_dealing Three d = record { v = d.v3; R = d.bar3 }

abbrev deal_program : ℕ → Miner → ℕ → List ℕ → Process 1 OwnDealing
deal_program m one u l =
    let r = nth 0 l in
    let r₂ = nth 1 l in
    let R₂ = nth 2 l in
    round OwnDealing 0 (for_two_three (r₂ ∷ R₂ ∷ []) (sub m (sub m u r) r₂ ∷ bit_xor r R₂ ∷ [])) λ mail.
    record { v = 0; R = 0 }
deal_program m two u l =
    round OwnDealing 0 silence (λ mail. record { v = add m u (nth 0 (mail One)); R = nth 1 (mail One) })
deal_program m three u l =
    round OwnDealing 0 silence (λ mail. record { v = add m u (nth 0 (mail One)); R = nth 1 (mail One) })

deal_apart : (n : ℕ) → PlayedApart (deal n) share own_dealing
unfolding connect deal
deal_apart n = record {
  rounds = 1;
  timetable = one_deals 2 ∷ [];
  program = miners 1 (record { v = 0; R = 0 }) (deal_program (modulus n));
  plays = λ u b. alike refl refl refl refl refl refl;
}

-- ---- the exchange

-- before a round a miner has its shares, its masks and the previous miner's masks, which it has received
record OwnCarryState : Type 0 where
  p : ℕ
  s : ℕ
  q : ℕ
  t : ℕ
  q' : ℕ
  t' : ℕ
  base : ℕ

abbrev own_state : Party → CarryState → OwnCarryState
own_state i h = record {
  p = share i h.p;
  s = share i h.s;
  q = share i h.q;
  t = share i h.t;
  q' = previous i h.q;
  t' = previous i h.t;
  base = share i h.base;
}

-- a miner begins with p, s, its masks and the received masks of the previous miner
abbrev own_first_state : ℕ → ℕ → List ℕ → List ℕ → OwnCarryState
own_first_state p s l masks =
    record { p = p; s = s; q = nth 0 l; t = nth 1 l; q' = nth 0 masks; t' = nth 1 masks; base = p }

abbrev exchange_program : ℕ → Miner → OwnDealing → List ℕ → Process 1 OwnCarryState
exchange_program m one d l =
    round OwnCarryState 0 (for_two_three (nth 0 l ∷ nth 1 l ∷ []) []) λ mail.
    own_first_state 0 0 l (mail Three)
exchange_program m two d l =
    round OwnCarryState 0 (for_two_three [] (nth 0 l ∷ nth 1 l ∷ d.v ∷ [])) λ mail.
    let v = add m d.v (nth 0 (mail Three)) in
    own_first_state (bit_xor v d.R) (bit_and v d.R) l (mail One)
exchange_program m three d l =
    round OwnCarryState 0 (lists (nth 0 l ∷ nth 1 l ∷ []) (d.v ∷ []) [] []) λ mail.
    let v = add m (nth 2 (mail Two)) d.v in
    own_first_state d.R (bit_and v d.R) l (mail Two)

exchange_apart : (n : ℕ) → PlayedApart (exchange n) own_dealing own_state
unfolding connect exchange
exchange_apart n = record {
  rounds = 1;
  timetable = miners_send (received_counts 0 2 0 0) (received_counts 0 0 3 0) (received_counts 2 1 0 0) ∷ [];
  program = miners 1 (own_first_state 0 0 [] []) (exchange_program (modulus n));
  plays = λ d b. alike refl refl refl refl refl refl;
}

-- ---- the rounds

abbrev round_program : ℕ → ℕ → Miner → OwnCarryState → List ℕ → Process 1 OwnCarryState
round_program w k i h l =
    let p = bit_xor (bit_xor h.p h.q) h.q' in
    let s = bit_xor (bit_xor h.s h.t) h.t' in
    let q = nth 0 l in
    let t = nth 1 l in
    round OwnCarryState 0 (for_next i (p ∷ s ∷ q ∷ t ∷ [])) λ mail.
    let sent = λ (j : ℕ). nth j (from_previous i mail) in
    record {
      p = round_p w k p (sent 0);
      s = round_s w k p (sent 0) s (sent 1);
      q = q;
      t = t;
      q' = sent 2;
      t' = sent 3;
      base = h.base;
    }

round_apart : (n k : ℕ) → PlayedApart (spec.round n k) own_state own_state
unfolding connect spec.round
round_apart n k = record {
  rounds = 1;
  timetable = each_next 4 ∷ [];
  program = miners 1 (own_first_state 0 0 [] []) (round_program (width n) k);
  plays = λ h b. alike refl refl refl refl refl refl;
}

rounds_apart : (n k : ℕ) → PlayedApart (rounds n k) share own_state
unfolding rounds
rounds_apart n = apart-with_rounds (apart_then (deal_apart n) (exchange_apart n)) (round_apart n)

-- ---- the result

pub bits_apart : (n : ℕ) → PlayedApart (bits n) share share
unfolding bits
bits_apart n =
    apart_then (rounds_apart n n)
    (apart-locally (by_miner (λ i h. bit_xor (shift_up (width n) h.s) h.base))
    (elim [ Provider ↦ λ h. refl | One ↦ λ h. refl | Two ↦ λ h. refl | Three ↦ λ h. refl ]))

-- ---- Below

pub below_apart : (n : ℕ) → PlayedApart (below n) pair share
unfolding below
below_apart n =
    apart_then (difference_apart (modulus n)) (apart_then (bits_apart n) (bit_apart (modulus n) (width n - 1)))
