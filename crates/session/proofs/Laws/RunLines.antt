-- The lines of a run's opens, made of the opened words.
use Prim.Native.Nat.{ℕ}
use mathlib.Core.Path.{◌≡◌, refl, ap, ◌∙◌}
use mathlib.Core.Bool.{Bool, true, false, cond, ◌&&◌, and-false}
use mathlib.Core.List.{List, [], ◌∷◌, ◌++◌}
use lib.ListN.{get_or, take, drop}
use lib.Dec.{eqb}
use Rattle.protocols.specs.declared.place.Place.{Place}
use Rattle.machine.specs.declared.code.Command.{Command}
use Rattle.machine.specs.declared.answer.Answer.{Answer}
use Rattle.machine.specs.Lent.{Lent}
use Rattle.machine.specs.Command.{CommandOutcome, command}
use Rattle.machine.specs.Run.{RunResult, run_result, after_command, run_to_refusal, accepted_count, opened_words}
use Rattle.machine.proofs.Laws.Runs.{to_refusal_none, to_refusal-first, accepted_none, accepted_next, opened_next}
use Rattle.session.specs.Text.{open_line, open_lines, open_lines_by_words}

no_lines : (cs : List Command) → open_lines cs [] ≡ []
unfolding open_lines
no_lines [] = refl
no_lines (c ∷ cs) = refl

no_run : [] ≡ open_lines_by_words (take (accepted_count []) []) (opened_words [] [])
unfolding open_lines_by_words
no_run = rw accepted_none

-- a run's first command is accepted or refused
module _ (c : Command) (cs : List Command) (o : CommandOutcome) (r : RunResult) where
  abbrev a : Answer
  a = o.answer

  abbrev Lines : List Command → RunResult → Type 0
  Lines ds t = open_lines ds t.answers ≡ open_lines_by_words (take (accepted_count t.answers) ds) (opened_words ds t.answers)

  lines_by : (b : Bool) → eqb a.number 0 ≡ b → Lines cs r → Lines (c ∷ cs) (cond b (after_command o r) (after_command o (run_result [] a.place o.lent)))
  unfolding open_lines open_lines_by_words
  lines_by true e h = rw (accepted_next a r.answers, opened_next c cs a r.answers, e) (by_code (eqb c.code 11))
    where
      by_code : (b : Bool)
          → cond (b && true) (open_line c.a a.opened) [] ++ open_lines cs r.answers
          ≡ let w = cond (b && true) (a.opened ∷ []) [] ++ opened_words cs r.answers in
          cond b (open_line c.a (get_or w 0 0) ++ open_lines_by_words (take (accepted_count r.answers) cs) (drop 1 w)) (open_lines_by_words (take (accepted_count r.answers) cs) w)
      by_code true = ap (λ (t : List ℕ). open_line c.a a.opened ++ t) h
      by_code false = h
  lines_by false e h = rw (accepted_next a [], e, and-false (eqb c.code 11)) (no_lines cs)

pub run_lines : (n : ℕ) (cs : List Command) (p : Place) (l : Lent) → let t = (run_to_refusal n cs p l).answers in
    open_lines cs t ≡ open_lines_by_words (take (accepted_count t) cs) (opened_words cs t)
run_lines n [] p l = rw to_refusal_none (no_lines [] ∙ no_run)
run_lines n (c ∷ cs) p l =
    let o = command n c p l in
    rw (to_refusal-first n c cs p l)
    (lines_by c cs o (run_to_refusal n cs o.answer.place o.lent) (eqb o.answer.number 0) refl (run_lines n cs o.answer.place o.lent))
