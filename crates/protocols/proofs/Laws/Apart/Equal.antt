-- Each miner's program of Equal, round by round; connected, they play it.
use Rattle.std.proofs.Common.{ℕ, List, [], ◌∷◌, refl}
use Rattle.std.specs.Prelude.{bit_xor, ◌-◌}
use Rattle.protocols.specs.declared.place.Party.{Party}
use Rattle.protocols.specs.declared.place.Party.TheVariants.{One}
use Rattle.protocols.specs.declared.equal.FoldState.{FoldState}
use Rattle.protocols.specs.Word.{width, modulus, add, sub}
use Rattle.protocols.specs.Shares.{Miner, one, two, three}
use Rattle.protocols.specs.Place.{silence}
use Rattle.protocols.specs.Equal.{compare, first_masks, fold_share, fold, folds, equal}
use Rattle.protocols.specs.Parties.{Process, connect, PlayedApart}
use Rattle.protocols.specs.Own.{share, Pair, pair}
use Rattle.protocols.proofs.Laws.Apart.Compose.{alike, apart_then, apart-with_rounds, apart-locally}
use Rattle.protocols.proofs.Laws.Apart.Programs.{round, nth, miners, for_next, for_two_three, from_previous, previous}
use Rattle.protocols.proofs.Laws.Apart.Programs.{each_next, one_deals}
use Rattle.protocols.proofs.Laws.Apart.Bit.{bit_apart}

-- ---- the comparison

abbrev compare_program : ℕ → Miner → Pair → List ℕ → Process 1 ℕ
compare_program m one x l =
    let r₂ = nth 0 l in
    round ℕ 0 (for_two_three (r₂ ∷ []) (sub m (sub m x.u x.v) r₂ ∷ [])) (λ mail. m - 1)
compare_program m two x l = round ℕ 0 silence (λ mail. add m (sub m x.u x.v) (nth 0 (mail One)))
compare_program m three x l = round ℕ 0 silence (λ mail. sub m 0 (add m (sub m x.u x.v) (nth 0 (mail One))))

compare_apart : (n : ℕ) → PlayedApart (compare n) pair share
unfolding connect compare
compare_apart n = record {
  rounds = 1;
  timetable = one_deals 1 ∷ [];
  program = miners 1 0 (compare_program (modulus n));
  plays = λ x b. alike refl refl refl refl refl refl;
}

-- ---- the folds

-- before a round a miner has its share, its mask and the previous miner's mask, which it has received
record OwnFoldState : Type 0 where
  p : ℕ
  q : ℕ
  q' : ℕ

abbrev own_fold_state : Party → FoldState → OwnFoldState
own_fold_state i h = record { p = share i h.p; q = share i h.q; q' = previous i h.q }

abbrev nothing : OwnFoldState
nothing = record { p = 0; q = 0; q' = 0 }

abbrev first_masks_program : Miner → ℕ → List ℕ → Process 1 OwnFoldState
first_masks_program i p l =
    let q = nth 0 l in
    round OwnFoldState 0 (for_next i (q ∷ [])) λ mail.
    record { p = p; q = q; q' = nth 0 (from_previous i mail) }

first_masks_apart : PlayedApart first_masks share own_fold_state
unfolding connect first_masks
first_masks_apart = record {
  rounds = 1;
  timetable = each_next 1 ∷ [];
  program = miners 1 nothing first_masks_program;
  plays = λ p b. alike refl refl refl refl refl refl;
}

abbrev fold_program : ℕ → ℕ → Miner → OwnFoldState → List ℕ → Process 1 OwnFoldState
fold_program w k i h l =
    let p = bit_xor (bit_xor h.p h.q) h.q' in
    let q = nth 0 l in
    round OwnFoldState 0 (for_next i (p ∷ q ∷ [])) λ mail.
    record { p = fold_share w k p (nth 0 (from_previous i mail)); q = q; q' = nth 1 (from_previous i mail) }

fold_apart : (n k : ℕ) → PlayedApart (fold n k) own_fold_state own_fold_state
unfolding connect fold
fold_apart n k = record {
  rounds = 1;
  timetable = each_next 2 ∷ [];
  program = miners 1 nothing (fold_program (width n) k);
  plays = λ h b. alike refl refl refl refl refl refl;
}

folds_apart : (n k : ℕ) → PlayedApart (folds n k) pair own_fold_state
unfolding folds
folds_apart n = apart-with_rounds (apart_then (compare_apart n) first_masks_apart) (fold_apart n)

-- ---- the bit that the rounds leave, converted

pub equal_apart : (n : ℕ) → PlayedApart (equal n) pair share
unfolding equal
equal_apart n =
    apart_then (folds_apart n n)
    (apart_then (apart-locally (λ i h. h.p) (λ i h. refl)) (bit_apart (modulus n) 0))
