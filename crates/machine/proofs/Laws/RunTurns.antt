-- The code's loop, one command in each turn: how many are done, the last answer, and the lent lists.
use Prim.Native.Nat.{ℕ, suc, ◌+◌, ◌/◌, ◌≤◌, ◌<◌}
use mathlib.Core.Path.{◌≡◌, refl, sym, ◌∙◌}
use mathlib.Core.Bool.{Bool, true, false, cond}
use mathlib.Core.List.{List, [], ◌∷◌, map}
use native.Mathlib.Omega.{arith}
use lib.ListN.{length, get_or, drop}
use lib.Dec.{eqb, ltb}
use lib.Seq.{drop-cons}
use Rattle.std.proofs.lemmas.List.{drop_all}
use native.Mathlib.Numerals.{add-one}
use Rattle.std.specs.Simd.{first_chunks}
use borrow.Author.Tests.{eq-eqb, ne_eqb, eqb-true, le-ltb}
use Rattle.protocols.specs.declared.place.Place.{Place}
use Rattle.machine.specs.declared.code.Command.{Command}
use Rattle.machine.specs.declared.answer.Answer.{Answer}
use Rattle.machine.specs.declared.answer.Run.{Run}
use Rattle.machine.specs.Table.{command_of}
use Rattle.machine.specs.Lent.{Lent, sizes}
use Rattle.machine.specs.Verdict.{is_sound, verdict}
use Rattle.machine.specs.Command.{CommandOutcome, answer, command_outcome, command}
use Rattle.machine.specs.Run.{RunResult, run_result, after_command, run_to_refusal, commands_of, accepted_count, refused_number, last_answer, RunOutcome, run_outcome, run_outcome_of}
use Rattle.machine.proofs.Laws.Runs.{to_refusal_none, to_refusal-first}
use Rattle.machine.proofs.Laws.Threes.{of_words, commands_cut}
use Rattle.machine.proofs.Laws.Sound.{sound-after}

-- the end of a run that goes on after k commands were done, the last with the answer a
abbrev pub end_after : ℕ → Answer → RunResult → RunOutcome
end_after k a r = run_outcome (record { done = k + accepted_count r.answers; last = last_answer a r.answers }) r.lent

none_before : (p : Place) (r : RunResult) → end_after 0 (answer 0 p 0) r ≡ run_outcome_of p r
none_before p r = let e : 0 + accepted_count r.answers ≡ accepted_count r.answers = omega arith in rw e

one_more_lem : (k a : ℕ) → k + suc a ≡ k + 1 + a
one_more_lem k a = omega arith

none_more : (k : ℕ) → k + 0 ≡ k
none_more k = omega arith

after-accepted : (k : ℕ) (a : Answer) (o : CommandOutcome) (r : RunResult) → o.answer.number ≡ 0 → end_after k a (after_command o r) ≡ end_after (k + 1) o.answer r
unfolding accepted_count last_answer
after-accepted k a o r e = rw (eq-eqb o.answer.number 0 e, one_more_lem k (accepted_count r.answers))

after-refused : (k : ℕ) (a : Answer) (o : CommandOutcome) → ¬ (o.answer.number ≡ 0)
    → end_after k a (after_command o (run_result [] o.answer.place o.lent)) ≡ run_outcome (record { done = k; last = o.answer }) o.lent
unfolding accepted_count last_answer
after-refused k a o e = rw (ne_eqb o.answer.number 0 e, none_more k)

-- the next command c, after k are done, the last with the answer a
module _ (c : Command) (cs : List Command) (k : ℕ) (a : Answer) (l : Lent) (o : CommandOutcome) (eo : o ≡ command 5 c a.place l) where
  first : run_to_refusal 5 (c ∷ cs) a.place l
      ≡ cond (eqb o.answer.number 0) (after_command o (run_to_refusal 5 cs o.answer.place o.lent)) (after_command o (run_result [] o.answer.place o.lent))
  first = rw eo (to_refusal-first 5 c cs a.place l)

  -- if it is accepted, one more is done
  first-accepted : o.answer.number ≡ 0
      → end_after (k + 1) o.answer (run_to_refusal 5 cs o.answer.place o.lent) ≡ end_after k a (run_to_refusal 5 (c ∷ cs) a.place l)
  first-accepted e = rw (first, eq-eqb o.answer.number 0 e) (sym (after-accepted k a o (run_to_refusal 5 cs o.answer.place o.lent) e))

  -- if it is refused, it is the last
  first-refused : ¬ (o.answer.number ≡ 0) → run_outcome (record { done = k; last = o.answer }) o.lent ≡ end_after k a (run_to_refusal 5 (c ∷ cs) a.place l)
  first-refused e = rw (first, ne_eqb o.answer.number 0 e) (sym (after-refused k a o e))

-- if no command is left, the last answer is a
none_left : (k : ℕ) (a : Answer) (l : Lent) → run_outcome (record { done = k; last = a }) l ≡ end_after k a (run_to_refusal 5 [] a.place l)
unfolding accepted_count last_answer
none_left k a l = rw (to_refusal_none, none_more k)

-- ---- the commands as three words each, of which k are done, the last with the answer a

-- the run of the commands that are left
abbrev pub rest_of_run : List (List ℕ) → ℕ → Answer → Lent → RunResult
rest_of_run cut k a l = run_to_refusal 5 (map of_words (drop k cut)) a.place l

-- at the start it is the whole run
pub rest_of_run-at_start : (words : List ℕ) (cut : List (List ℕ)) (p : Place) (l : Lent) → cut ≡ first_chunks 3 (length words / 3) words
    → end_after 0 (answer 0 p 0) (rest_of_run cut 0 (answer 0 p 0) l) ≡ run_outcome_of p (run_to_refusal 5 (commands_of words) p l)
rest_of_run-at_start words cut p l e = rw (e, commands_cut words) (none_before p (run_to_refusal 5 (map of_words (first_chunks 3 (length words / 3) words)) p l))

module _ (cut : List (List ℕ)) (k : ℕ) (a : Answer) (l : Lent) where
  module _ (h : k < length cut) (o : CommandOutcome) (eo : o ≡ command 5 (of_words (get_or cut k [])) a.place l) where
    next : drop k cut ≡ get_or cut k [] ∷ drop (k + 1) cut
    next = rw add-one (drop-cons cut k [] h)

    pub turn-accepted : o.answer.number ≡ 0 → end_after (k + 1) o.answer (rest_of_run cut (k + 1) o.answer o.lent) ≡ end_after k a (rest_of_run cut k a l)
    turn-accepted e = rw next (first-accepted (of_words (get_or cut k [])) (map of_words (drop (k + 1) cut)) k a l o eo e)

    pub turn-refused : ¬ (o.answer.number ≡ 0) → run_outcome (record { done = k; last = o.answer }) o.lent ≡ end_after k a (rest_of_run cut k a l)
    turn-refused e = rw next (first-refused (of_words (get_or cut k [])) (map of_words (drop (k + 1) cut)) k a l o eo e)

    -- refusal 4 does not apply after the command
    pub turn-sound : is_sound a.place (sizes l) l.kinds ≡ true → is_sound o.answer.place (sizes o.lent) o.lent.kinds ≡ true
    turn-sound s = rw eo (sound-after 5 (of_words (get_or cut k [])) a.place l s)

  -- if all are done, the last answer is a
  pub turns_end : length cut ≤ k → run_outcome (record { done = k; last = a }) l ≡ end_after k a (rest_of_run cut k a l)
  turns_end h = rw (drop_all k cut h) (none_left k a l)

-- ---- if refusal 4 applies

pub command-unsound : (n : ℕ) (c : Command) (p : Place) (l : Lent) → is_sound p (sizes l) l.kinds ≡ false → command n c p l ≡ command_outcome (answer 4 p 0) l
unfolding command verdict
command-unsound n c p l e = rw e

module _ (p : Place) (l : Lent) (s : is_sound p (sizes l) l.kinds ≡ false) where
  -- the first command is refused, if there is one
  at_first : (words : List ℕ) → run_outcome (record { done = 0; last = answer (cond (ltb (length words) 3) 0 4) p 0 }) l
      ≡ run_outcome_of p (run_to_refusal 5 (commands_of words) p l)
  unfolding commands_of
  at_first [] = none_left 0 (answer 0 p 0) l ∙ none_before p (run_to_refusal 5 [] p l)
  at_first (x ∷ []) = none_left 0 (answer 0 p 0) l ∙ none_before p (run_to_refusal 5 [] p l)
  at_first (x ∷ y ∷ []) = none_left 0 (answer 0 p 0) l ∙ none_before p (run_to_refusal 5 [] p l)
  at_first (x ∷ y ∷ z ∷ r) =
      rw (le-ltb (suc (suc (suc (length r)))) 3 (omega arith))
      (first-refused (command_of x y z) (commands_of r) 0 (answer 0 p 0) l (command_outcome (answer 4 p 0) l) (sym (command-unsound 5 (command_of x y z) p l s)) (λ f. omega arith)
      ∙ none_before p (run_to_refusal 5 (command_of x y z ∷ commands_of r) p l))

  pub run-unsound : (words : List ℕ) (r : Run) → r.done ≡ 0 → r.last ≡ answer (cond (ltb (length words) 3) 0 4) p 0
      → run_outcome r l ≡ run_outcome_of p (run_to_refusal 5 (commands_of words) p l)
  run-unsound words r done last = (λ i. run_outcome (record { done = done i; last = last i }) l) ∙ at_first words

-- ---- its last answer

-- after the answer a
module _ (n : ℕ) where
  -- its place is where the run ends
  pub last_place : (cs : List Command) (l : Lent) (a : Answer) → let r = run_to_refusal n cs a.place l in r.place ≡ (last_answer a r.answers).place
  unfolding run_to_refusal last_answer
  last_place [] l a = refl
  last_place (c ∷ cs) l a = let o = command n c a.place l in by_test (eqb o.answer.number 0) o (last_place cs o.lent o.answer)
    where
      by_test : (b : Bool) (o : CommandOutcome) → let s = run_to_refusal n cs o.answer.place o.lent in s.place ≡ (last_answer o.answer s.answers).place
          → let r = cond b (after_command o s) (after_command o (run_result [] o.answer.place o.lent)) in r.place ≡ (last_answer a r.answers).place
      by_test true o e = e
      by_test false o e = refl

  -- its number is that of the first refusal, or 0
  pub last_number : (cs : List Command) (l : Lent) (a : Answer) → a.number ≡ 0
      → let r = run_to_refusal n cs a.place l in refused_number r.answers ≡ (last_answer a r.answers).number
  unfolding run_to_refusal last_answer refused_number
  last_number [] l a e = sym e
  last_number (c ∷ cs) l a e =
      let o = command n c a.place l in by_test (eqb o.answer.number 0) o refl (λ f. last_number cs o.lent o.answer f)
    where
      by_test : (b : Bool) (o : CommandOutcome) → eqb o.answer.number 0 ≡ b → let s = run_to_refusal n cs o.answer.place o.lent in
          (o.answer.number ≡ 0 → refused_number s.answers ≡ (last_answer o.answer s.answers).number)
          → let r = cond b (after_command o s) (after_command o (run_result [] o.answer.place o.lent)) in refused_number r.answers ≡ (last_answer a r.answers).number
      by_test true o f e = rw f (e (eqb-true o.answer.number 0 f))
      by_test false o f e = rw f
