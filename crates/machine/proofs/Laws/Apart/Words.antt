-- The received lists after a run with programs determine the words that are sent in it.
use Rattle.std.proofs.Common.{◌≡◌, ℕ, List, ◌++◌, length, take, drop, sym, ap, subst, ◌∙◌}
use Rattle.std.proofs.Math.Seq.{take-append_seam, drop-append_seam}
use Rattle.std.proofs.lemmas.List.{length-take}
use Rattle.std.specs.Prelude.{min}
use Rattle.protocols.specs.declared.place.Place.{Place}
use Rattle.protocols.specs.Place.{Receiver, list}
use Rattle.protocols.specs.Counts.{count_for}
use Rattle.protocols.specs.Parties.{Connection}
use Rattle.protocols.proofs.Laws.Counts.{due-list_lengths}
use Rattle.protocols.proofs.Laws.Apart.Lengths.{total, length-received}
use Rattle.machine.specs.declared.lent.Sizes.{Sizes}
use Rattle.machine.specs.Lent.{Lent, sizes}
use Rattle.machine.specs.Run.{RunResult}
use Rattle.machine.specs.Apart.{Programs, process_of, ComesTo}

-- in equal lists, equally long parts behind equally long fronts are equal
same_between : (a w d a' w' d' : List ℕ)
    → length a ≡ length a' → length w ≡ length w' → a ++ (w ++ d) ≡ a' ++ (w' ++ d') → w ≡ w'
same_between a w d a' w' d' long as_long same =
    sym (between a w d) ∙ (λ i. take (as_long i) (drop (long i) (same i))) ∙ between a' w' d'
  where
    between : (a w d : List ℕ) → take (length w) (drop (length a) (a ++ (w ++ d))) ≡ w
    between a w d = ap (take (length w)) (drop-append_seam a (w ++ d)) ∙ take-append_seam w d

module _ (P : Programs) (p : Place) (q : Receiver) where
  -- their number, by the timetable
  number_of_words : (l : Lent) (r : RunResult) (C : ComesTo P p l r) → length (list q C.words) ≡ total q P.timetable
  number_of_words l r C =
      subst (λ (c : Connection (List ℕ)). length (list q c.received) ≡ total q c.sent) C.plays
      (length-received (List ℕ) P.rounds (process_of P p l) q)

  -- the number of words in front of them, by the place and the list's length
  abbrev in_front : Sizes → ℕ
  in_front z = min (count_for q p.received) (count_for q z.received)

  number_in_front : (l : Lent) → length (take (count_for q p.received) (list q l.received)) ≡ in_front (sizes l)
  number_in_front l =
      length-take (count_for q p.received) (list q l.received)
      ∙ ap (min (count_for q p.received)) (sym (due-list_lengths q l.received))

  pub same_words : (l l' : Lent) (r r' : RunResult) (C : ComesTo P p l r) (C' : ComesTo P p l' r')
      → sizes l ≡ sizes l' → list q r.lent.received ≡ list q r'.lent.received → list q C.words ≡ list q C'.words
  same_words l l' r r' C C' e same =
      same_between _ _ _ _ _ _ (number_in_front l ∙ ap in_front e ∙ sym (number_in_front l'))
      (number_of_words l r C ∙ sym (number_of_words l' r' C'))
      (sym (C.gain q) ∙ same ∙ C'.gain q)
