-- If two runs with programs leave the same received lists, so does each mixture of the two.
use Rattle.std.proofs.Common.{◌≡◌, ℕ, ◌+◌, Bool, true, false, cond, List, length, take, drop, ◌++◌, refl, sym, ap, ◌∙◌}
use Rattle.protocols.specs.declared.place.Party.{Party}
use Rattle.protocols.specs.declared.place.Party.TheVariants.{Provider, One, Two, Three}
use Rattle.protocols.specs.declared.place.Place.{Place}
use Rattle.protocols.specs.Shares.{Miner, one, two, three}
use Rattle.protocols.specs.Place.{tape, owner, rest, count, counts, list}
use Rattle.protocols.specs.Counts.{count_for}
use Rattle.protocols.specs.Parties.{Connection, connection, connect}
use Rattle.protocols.proofs.Laws.Apart.Compose.{tape-rest}
use Rattle.protocols.proofs.Laws.Apart.Mixed.{mixed as of_both, by_list, connect-mixed, tape-mixed}
use Rattle.machine.specs.declared.lent.Sizes.{Sizes}
use Rattle.machine.specs.Lent.{Lent, sizes, table}
use Rattle.machine.specs.Run.{RunResult}
use Rattle.machine.specs.Apart.{own_part, Programs, process_of, ComesTo, HasPrograms, mixed_lent, MixedRuns}
use Rattle.machine.proofs.Laws.Apart.Words.{same_words}

-- ---- the lent lists

own_part-mixed : (first : Party → Bool) (l l' : Lent) (i : Party)
    → own_part i (mixed_lent first l l') ≡ of_both first (λ j. own_part j l) (λ j. own_part j l') i
own_part-mixed first l l' = elim [ Provider ↦ refl | One ↦ refl | Two ↦ refl | Three ↦ refl ]

length-either : (b : Bool) (x y : List ℕ) (n : ℕ) → length x ≡ n → length y ≡ n → length (cond b x y) ≡ n
length-either true x y n e f = e
length-either false x y n e f = f

-- lists that are mixed of two of the same lengths have these lengths
sizes-mixed : (first : Party → Bool) (l l' : Lent) (z : Sizes) → sizes l ≡ z → sizes l' ≡ z
    → sizes (mixed_lent first l l') ≡ z
sizes-mixed first l l' z e e' =
    let either = λ (i : Party) (n : Sizes → ℕ) (x y : List ℕ).
    λ (f : length x ≡ n (sizes l)) (g : length y ≡ n (sizes l')).
    length-either (first i) x y (n z) (f ∙ ap n e) (g ∙ ap n e') in
    let one = either One (λ y. y.one) l.tables.one l'.tables.one refl refl in
    let two = either Two (λ y. y.two) l.tables.two l'.tables.two refl refl in
    let three = either Three (λ y. y.three) l.tables.three l'.tables.three refl refl in
    let inputs = either Provider (λ y. y.inputs) l.inputs l'.inputs refl refl in
    let tape₀ = either Provider (λ y. y.tapes.provider) l.tapes.provider l'.tapes.provider refl refl in
    let tape₁ = either One (λ y. y.tapes.one) l.tapes.one l'.tapes.one refl refl in
    let tape₂ = either Two (λ y. y.tapes.two) l.tapes.two l'.tapes.two refl refl in
    let tape₃ = either Three (λ y. y.tapes.three) l.tapes.three l'.tapes.three refl refl in
    λ k. record {
      one = one k;
      two = two k;
      three = three k;
      kinds = (e k).kinds;
      inputs = inputs k;
      tapes = counts (tape₀ k) (tape₁ k) (tape₂ k) (tape₃ k);
      received = (e k).received;
    }

-- ---- the four programs, and the run

module _ (P : Programs) (p : Place) (first : Party → Bool) (l l' : Lent) where
  abbrev m : Lent
  m = mixed_lent first l l'

  started-mixed : (i : Party) → process_of P p m i ≡ of_both first (process_of P p l) (process_of P p l') i
  started-mixed i =
      let words : tape i (rest p.drawn m.tapes)
      ≡ drop (count i p.drawn) (cond (first i) (tape i l.tapes) (tape i l'.tapes)) =
      tape-rest p.drawn m.tapes i ∙ ap (drop (count i p.drawn)) (tape-mixed first l.tapes l'.tapes i) in
      (λ k. P.program i (own_part-mixed first l l' i k) (words k))
      ∙ elim (first i) as (λ b. P.program i (cond b (own_part i l) (own_part i l'))
      (drop (count i p.drawn) (cond b (tape i l.tapes) (tape i l'.tapes)))
      ≡ cond b (process_of P p l i) (process_of P p l' i)) [
        | true ↦ λ k. P.program i (own_part i l) (sym (tape-rest p.drawn l.tapes i) k)
        | false ↦ λ k. P.program i (own_part i l') (sym (tape-rest p.drawn l'.tapes i) k)
      ]

  module _ (r r' r'' : RunResult) (C : ComesTo P p l r) (C' : ComesTo P p l' r') (C'' : ComesTo P p m r'')
      (sent : C.words ≡ C'.words) where
    whole : connection (λ i. own_part i r''.lent) C''.words P.timetable
        ≡ connection (of_both first (λ i. own_part i r.lent) (λ i. own_part i r'.lent)) C.words P.timetable
    whole =
        let a = C.plays in
        let b = C'.plays in
        let words = λ (c : Connection (List ℕ)). c.received in
        let times = λ (c : Connection (List ℕ)). c.sent in
        sym C''.plays
        ∙ ap (connect P.rounds) (λ k i. started-mixed i k)
        ∙ connect-mixed first P.rounds (process_of P p l) (process_of P p l') (ap words a ∙ sent ∙ sym (ap words b))
        (ap times a ∙ sym (ap times b))
        ∙ (λ k. connection (of_both first (a k).ends (b k).ends) (a k).received (a k).sent)

    lists_mixed : r''.lent.received ≡ r.lent.received
    lists_mixed =
        by_list λ q.
        C''.gain q
        ∙ ap (λ (c : Connection (List ℕ)). let a = list q l.received in let k = count_for q p.received in
        let w = list q c.received in take k a ++ (w ++ drop (k + length w) a)) whole
        ∙ sym (C.gain q)

    tables-mixed : (i : Miner)
        → table i r''.lent.tables ≡ cond (first (owner i)) (table i r.lent.tables) (table i r'.lent.tables)
    tables-mixed = elim [
      | one ↦ λ k. (whole k).ends One
      | two ↦ λ k. (whole k).ends Two
      | three ↦ λ k. (whole k).ends Three
    ]

pub mixed_runs : (runs : Place → Lent → RunResult) (p : Place) (z : Sizes) (k : List ℕ) → HasPrograms runs p z k
    → (l l' : Lent) → sizes l ≡ z → sizes l' ≡ z → l.kinds ≡ k → l'.kinds ≡ k
    → (first : Party → Bool) → MixedRuns runs p l l' first
mixed_runs runs p z k (P, comes) l l' e e' f f' first =
    let m = mixed_lent first l l' in
    let C = comes l e f in
    let C' = comes l' e' f' in
    let C'' = comes m (sizes-mixed first l l' z e e') f in
    let sent = λ (same : (runs p l).lent.received ≡ (runs p l').lent.received).
    by_list (λ q. same_words P p q l l' (runs p l) (runs p l') C C' (e ∙ sym e') (ap (list q) same)) in
    record {
      received = λ same. lists_mixed P p first l l' (runs p l) (runs p l') (runs p m) C C' C'' (sent same);
      tables = λ same. tables-mixed P p first l l' (runs p l) (runs p l') (runs p m) C C' C'' (sent same);
    }
