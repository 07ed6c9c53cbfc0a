-- A miner's table after a run with programs depends on its table before, its tape and its received list only.
use Rattle.std.proofs.Common.{◌≡◌, ℕ, List, drop, refl, sym, ap, ◌∙◌}
use Rattle.protocols.specs.declared.place.Place.{Place}
use Rattle.protocols.specs.Shares.{Miner, one, two, three}
use Rattle.protocols.specs.Place.{tape, owner, rest, count, Lists, miner, list}
use Rattle.protocols.specs.Parties.{for_party}
use Rattle.protocols.specs.Alone.{Alone, alone}
use Rattle.protocols.proofs.Laws.Apart.Compose.{tape-rest}
use Rattle.machine.specs.declared.lent.Sizes.{Sizes}
use Rattle.machine.specs.Lent.{Lent, table}
use Rattle.machine.specs.Run.{RunResult}
use Rattle.machine.specs.Apart.{own_part, Programs, ComesTo, HasPrograms, SameRunView}
use Rattle.machine.proofs.Laws.Apart.Words.{same_words}

-- ---- a miner's received words and table, as those of the party

for-owner : (i : Miner) (l : Lists) → for_party (owner i) l ≡ list (miner i) l
for-owner one l = refl
for-owner two l = refl
for-owner three l = refl

own_part-owner : (i : Miner) (l : Lent) → own_part (owner i) l ≡ table i l.tables
own_part-owner one l = refl
own_part-owner two l = refl
own_part-owner three l = refl

-- ---- its table after a run

module _ (P : Programs) (p : Place) (i : Miner) (l l' : Lent) (r r' : RunResult)
    (C : ComesTo P p l r) (C' : ComesTo P p l' r') where
  -- its table after the run is what its program ends with by itself
  same_table : table i l.tables ≡ table i l'.tables → tape (owner i) l.tapes ≡ tape (owner i) l'.tapes
      → list (miner i) C.words ≡ list (miner i) C'.words → table i r.lent.tables ≡ table i r'.lent.tables
  same_table held drawn heard =
      let j = owner i in
      let own : own_part j l ≡ own_part j l' = own_part-owner i l ∙ held ∙ sym (own_part-owner i l') in
      let draws : tape j (rest p.drawn l.tapes) ≡ tape j (rest p.drawn l'.tapes) =
      tape-rest p.drawn l.tapes j ∙ ap (drop (count j p.drawn)) drawn ∙ sym (tape-rest p.drawn l'.tapes j) in
      let hears : for_party j C.words ≡ for_party j C'.words =
      for-owner i C.words ∙ heard ∙ sym (for-owner i C'.words) in
      let ends = λ (a : Alone (List ℕ)). a.ends in
      sym (own_part-owner i r.lent)
      ∙ sym (ap ends (C.by_itself j))
      ∙ (λ k. (alone (List ℕ) P.rounds j P.timetable (P.program j (own k) (draws k)) (hears k)).ends)
      ∙ ap ends (C'.by_itself j)
      ∙ own_part-owner i r'.lent

pub same_run_view : (runs : Place → Lent → RunResult) (p : Place) (z : Sizes) (k : List ℕ)
    → HasPrograms runs p z k → SameRunView runs p z k
same_run_view runs p z k (P, comes) i l l' e e' f f' held drawn received =
    let C = comes l e f in
    let C' = comes l' e' f' in
    same_table P p i l l' (runs p l) (runs p l') C C' held drawn
    (same_words P p (miner i) l l' (runs p l) (runs p l') C C' (e ∙ sym e') received)
