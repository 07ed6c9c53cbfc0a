-- Each miner's program of Bit; connected, they play it.
use Rattle.std.proofs.Common.{ℕ, List, [], ◌∷◌, refl}
use Rattle.std.specs.Prelude.{bit_xor}
use Rattle.protocols.specs.declared.place.Party.TheVariants.{One, Two, Three}
use Rattle.protocols.specs.Word.{sub, bit_at, low_bit, choose}
use Rattle.protocols.specs.Shares.{Miner, one, two, three}
use Rattle.protocols.specs.Place.{silence}
use Rattle.protocols.specs.Bit.{bit}
use Rattle.protocols.specs.Counts.{received_counts}
use Rattle.protocols.specs.Parties.{Process, connect, PlayedApart}
use Rattle.protocols.specs.Own.{share}
use Rattle.protocols.proofs.Laws.Apart.Compose.{alike}
use Rattle.protocols.proofs.Laws.Apart.Programs.{round, nth, miners, for_two_three, none, miners_send, one_deals}

-- Miner 1 draws and deals. Miners 2 and 3 then send one another a bit, and from both bits each takes its value.
abbrev bit_program : ℕ → ℕ → Miner → ℕ → List ℕ → Process 2 ℕ
bit_program m j one u l =
    let b = low_bit (nth 0 l) in
    let m₁₂ = nth 1 l in
    let b₁₂ = low_bit (nth 2 l) in
    let m₁₃ = sub m (bit_xor b (bit_at u j)) m₁₂ in
    round ℕ 1 (for_two_three (m₁₂ ∷ b₁₂ ∷ []) (m₁₃ ∷ bit_xor b b₁₂ ∷ [])) λ mail.
    round ℕ 0 silence (λ mail'. 0)
bit_program m j two u l =
    round ℕ 1 silence λ mail.
    let m₁₂ = nth 0 (mail One) in
    let s = bit_xor (nth 1 (mail One)) (bit_at u j) in
    round ℕ 0 (for_two_three [] (s ∷ [])) λ mail'.
    choose (bit_xor s (nth 0 (mail' Three))) m₁₂ (sub m 1 m₁₂)
bit_program m j three u l =
    round ℕ 1 silence λ mail.
    let m₁₃ = nth 0 (mail One) in
    let s = bit_xor (nth 1 (mail One)) (bit_at u j) in
    round ℕ 0 (for_two_three (s ∷ []) []) λ mail'.
    choose (bit_xor (nth 0 (mail' Two)) s) m₁₃ (sub m 0 m₁₃)

pub bit_apart : (m j : ℕ) → PlayedApart (bit m j) share share
unfolding connect bit
bit_apart m j = record {
  rounds = 2;
  timetable = one_deals 2 ∷ miners_send none (received_counts 0 0 1 0) (received_counts 0 1 0 0) ∷ [];
  program = miners 2 0 (bit_program m j);
  plays = λ u b. alike refl refl refl refl refl refl;
}
