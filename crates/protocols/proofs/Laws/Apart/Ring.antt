-- Each party's program of store, the local commands, reshare, multiply and open; connected, they play these.
use Rattle.std.proofs.Common.{ℕ, List, [], ◌∷◌, refl}
use Rattle.protocols.specs.declared.place.Party.{Party}
use Rattle.protocols.specs.declared.place.Party.TheVariants.{Provider, One, Two, Three}
use Rattle.protocols.specs.Word.{add, sub, mul}
use Rattle.protocols.specs.Shares.{Miner, one, two, three}
use Rattle.protocols.specs.Place.{tapes, silence, to_each}
use Rattle.protocols.specs.Protocol.{locally}
use Rattle.protocols.specs.Local.{sum, difference, constant_multiple, constant_sum}
use Rattle.protocols.specs.Reshare.{reshare}
use Rattle.protocols.specs.Multiply.{product_share, multiply}
use Rattle.protocols.specs.Open.{opening}
use Rattle.protocols.specs.Store.{dealt_shares, store}
use Rattle.protocols.specs.Counts.{received_counts}
use Rattle.protocols.specs.Parties.{Process, connect, PlayedApart}
use Rattle.protocols.specs.Own.{share, Pair, pair, input}
use Rattle.protocols.proofs.Laws.Apart.Compose.{alike, apart-locally}
use Rattle.protocols.proofs.Laws.Apart.Programs.{round, nth, miners, by_miner, for_next, for_controller, from_previous}
use Rattle.protocols.proofs.Laws.Apart.Programs.{provider_sends, miners_send, each_next}

-- ---- local commands

pub sum_apart : (m : ℕ) → PlayedApart (locally (sum m)) pair share
sum_apart m =
    apart-locally (by_miner (λ i x. add m x.u x.v))
    (elim [ Provider ↦ λ x. refl | One ↦ λ x. refl | Two ↦ λ x. refl | Three ↦ λ x. refl ])

pub difference_apart : (m : ℕ) → PlayedApart (locally (difference m)) pair share
difference_apart m =
    apart-locally (by_miner (λ i x. sub m x.u x.v))
    (elim [ Provider ↦ λ x. refl | One ↦ λ x. refl | Two ↦ λ x. refl | Three ↦ λ x. refl ])

pub constant_multiple_apart : (m c : ℕ) → PlayedApart (locally (constant_multiple m c)) share share
constant_multiple_apart m c =
    apart-locally (by_miner (λ i u. mul m u c))
    (elim [ Provider ↦ λ u. refl | One ↦ λ u. refl | Two ↦ λ u. refl | Three ↦ λ u. refl ])

pub constant_sum_apart : (m c : ℕ) → PlayedApart (locally (constant_sum m c)) share share
constant_sum_apart m c =
    apart-locally (by_miner (λ i u. elim i [ one ↦ add m u c | two ↦ u | three ↦ u ]))
    (elim [ Provider ↦ λ u. refl | One ↦ λ u. refl | Two ↦ λ u. refl | Three ↦ λ u. refl ])

-- ---- store: the provider deals, and each miner keeps what it receives

abbrev store_program : ℕ → Party → ℕ → List ℕ → Process 1 ℕ
store_program m Provider v l = round ℕ 0 (to_each (dealt_shares m v (tapes l [] [] []))) (λ mail. 0)
store_program m One v l = round ℕ 0 silence (λ mail. nth 0 (mail Provider))
store_program m Two v l = round ℕ 0 silence (λ mail. nth 0 (mail Provider))
store_program m Three v l = round ℕ 0 silence (λ mail. nth 0 (mail Provider))

pub store_apart : (m : ℕ) → PlayedApart (store m) input share
unfolding connect store
store_apart m = record {
  rounds = 1;
  timetable = provider_sends (received_counts 1 1 1 0) ∷ [];
  program = store_program m;
  plays = λ v b. alike refl refl refl refl refl refl;
}

-- ---- reshare, multiply and open

-- a fresh share, from the miner's own mask r and the previous miner's
abbrev fresh_share : ℕ → ℕ → ℕ → ℕ → ℕ
fresh_share m s r r' = sub m (add m s r) r'

abbrev reshare_program : ℕ → Miner → ℕ → List ℕ → Process 1 ℕ
reshare_program m i s l =
    let r = nth 0 l in
    round ℕ 0 (for_next i (r ∷ [])) λ mail.
    fresh_share m s r (nth 0 (from_previous i mail))

pub reshare_apart : (m : ℕ) → PlayedApart (reshare m) share share
unfolding connect reshare
reshare_apart m = record {
  rounds = 1;
  timetable = each_next 1 ∷ [];
  program = miners 1 0 (reshare_program m);
  plays = λ s b. alike refl refl refl refl refl refl;
}

-- the masks in the first round, the masked shares in the second
abbrev multiply_program : ℕ → Miner → Pair → List ℕ → Process 2 ℕ
multiply_program m i x l =
    let r = nth 0 l in
    let s = nth 1 l in
    round ℕ 1 (for_next i (r ∷ s ∷ [])) λ mail.
    let u = fresh_share m x.u r (nth 0 (from_previous i mail)) in
    let v = fresh_share m x.v s (nth 1 (from_previous i mail)) in
    round ℕ 0 (for_next i (u ∷ v ∷ [])) λ mail'.
    product_share m u v (nth 0 (from_previous i mail')) (nth 1 (from_previous i mail'))

pub multiply_apart : (m : ℕ) → PlayedApart (multiply m) pair share
unfolding connect multiply
multiply_apart m = record {
  rounds = 2;
  timetable = each_next 2 ∷ each_next 2 ∷ [];
  program = miners 2 0 (multiply_program m);
  plays = λ x b. alike refl refl refl refl refl refl;
}

abbrev opening_program : ℕ → Miner → ℕ → List ℕ → Process 2 ℕ
opening_program m i s l =
    let r = nth 0 l in
    round ℕ 1 (for_next i (r ∷ [])) λ mail.
    let u = fresh_share m s r (nth 0 (from_previous i mail)) in
    round ℕ 0 (for_controller (u ∷ [])) (λ mail'. u)

pub opening_apart : (m : ℕ) → PlayedApart (opening m) share share
unfolding connect opening
opening_apart m = record {
  rounds = 2;
  timetable = each_next 1 ∷ miners_send (received_counts 0 0 0 1) (received_counts 0 0 0 1) (received_counts 0 0 0 1) ∷ [];
  program = miners 2 0 (opening_program m);
  plays = λ s b. alike refl refl refl refl refl refl;
}
