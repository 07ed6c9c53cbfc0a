-- Equal records are equal in each part.
use Prim.Native.Nat.{ℕ, zero, suc, ◌-◌, ◌<◌}
use mathlib.Core.Path.{◌≡◌, refl, sym, ap, ◌∙◌}
use mathlib.Core.List.{List, [], ◌∷◌, map}
use native.Mathlib.Omega.{arith}
use lib.ListN.{get_or, take}
use Rattle.protocols.specs.declared.place.Place.{Place}
use Rattle.protocols.specs.Shares.{Miner}
use Rattle.protocols.specs.Place.{Receiver, miner, controller, list}
use Rattle.protocols.specs.Counts.{count_for}
use Rattle.machine.specs.declared.answer.Answer.{Answer}
use Rattle.machine.specs.Lent.{table, received_words}
use Rattle.machine.specs.Run.{RunResult, Reply, reply}
use Rattle.machine.specs.Records.{MinerRecord, miner_record, ControllerRecord, controller_record, SameReplies, SameWords, SameToMiner, SameToController}

-- ---- lists by their entries

get_or-take : (l : List ℕ) (n k : ℕ) → k < n → get_or (take n l) k 0 ≡ get_or l k 0
get_or-take l zero k h = absurd (omega arith)
get_or-take [] (suc n) k h = refl
get_or-take (x ∷ l) (suc n) zero h = refl
get_or-take (x ∷ l) (suc n) (suc k) h = get_or-take l n k (omega arith)

taken-same : (l l' : List ℕ) (n n' k : ℕ) → take n l ≡ take n' l' → k < n → k < n' → get_or l k 0 ≡ get_or l' k 0
taken-same l l' n n' k e h h' = sym (get_or-take l n k h) ∙ ap (λ (t : List ℕ). get_or t k 0) e ∙ get_or-take l' n' k h'

-- ---- records

numbers : (l : List Answer) → map (λ (a : Reply). a.number) (map reply l) ≡ map (λ (a : Answer). a.number) l
numbers [] = refl
numbers (a ∷ l) = ap (λ (t : List ℕ). a.number ∷ t) (numbers l)

places : (l : List Answer) → map (λ (a : Reply). a.place) (map reply l) ≡ map (λ (a : Answer). a.place) l
places [] = refl
places (a ∷ l) = ap (λ (t : List Place). a.place ∷ t) (places l)

replies-same : (r r' : RunResult) → map reply r.answers ≡ map reply r'.answers → SameReplies r r'
replies-same r r' e =
    (sym (numbers r.answers) ∙ ap (map (λ (a : Reply). a.number)) e ∙ numbers r'.answers, sym (places r.answers) ∙ ap (map (λ (a : Reply). a.place)) e ∙ places r'.answers)

words_same : (q : Receiver) (r r' : RunResult) → received_words r.place r.lent q ≡ received_words r'.place r'.lent q → SameWords q r r'
words_same q r r' e k h h' = taken-same (list q r.lent.received) (list q r'.lent.received) (count_for q r.place.received) (count_for q r'.place.received) k e h h'

pub miner_records : (i : Miner) (r r' : RunResult) → miner_record i r ≡ miner_record i r' → SameToMiner i r r'
miner_records i r r' e = record {
  same_tape = ap (λ (m : MinerRecord). m.tape) e;
  same_shares = λ h f f'. taken-same (table i r.lent.tables) (table i r'.lent.tables) r.place.handles r'.place.handles (h - 1)
      (ap (λ (m : MinerRecord). m.shares) e) (omega (arith, f)) (omega (arith, f'));
  same_words = words_same (miner i) r r' (ap (λ (m : MinerRecord). m.received) e);
  same_replies = replies-same r r' (ap (λ (m : MinerRecord). m.replies) e);
}

pub controller_records : (r r' : RunResult) → controller_record r ≡ controller_record r' → SameToController r r'
controller_records r r' e = record {
  same_words = words_same controller r r' (ap (λ (m : ControllerRecord). m.received) e);
  same_opened = ap (λ (m : ControllerRecord). m.opened) e;
  same_replies = replies-same r r' (ap (λ (m : ControllerRecord). m.replies) e);
}
