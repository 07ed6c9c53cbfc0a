-- A run up to the first refusal is the run of the commands up to it, and opens what the register machine opens.
use Prim.Native.Nat.{ℕ, zero, suc}
use mathlib.Core.Path.{◌≡◌, refl, ap, ap₂, ◌∙◌}
use mathlib.Core.Bool.{Bool, true, false, cond}
use mathlib.Core.List.{List, [], ◌∷◌, ◌++◌}
use native.Mathlib.Omega.{arith}
use borrow.Author.Tests.{eq-eqb, ne_eqb}
use lib.Dec.{eqb}
use Rattle.protocols.specs.declared.place.Place.{Place}
use Rattle.machine.specs.declared.code.Command.{Command}
use Rattle.protocols.specs.Word.{modulus}
use Rattle.machine.specs.Lent.{Lent, sizes, LentAreWords}
use Rattle.machine.specs.Command.{CommandOutcome, command}
use Rattle.machine.specs.Registers.{opened_registers_to_refusal}
use Rattle.machine.specs.Start.{starting_registers}
use Rattle.machine.specs.Run.{RunResult, run_result, after_command, run, run_to_refusal, answer_numbers, is_opened, opened_words}
use Rattle.machine.specs.Claims.{ToRefusal, all_done, stopped}
use Rattle.machine.proofs.Laws.Agree.{command_agreement, shown-after}
use Rattle.machine.proofs.Laws.RunAgree.{goes_on as leads-on}
use Rattle.machine.proofs.Laws.Runs.{to_refusal-first, opened_next}

-- the first command c, by its number w
module _ (n : ℕ) (c : Command) (cs : List Command) (p : Place) (l : Lent) where
  abbrev first : CommandOutcome
  first = command n c p l

  abbrev rest : RunResult
  rest = run_to_refusal n cs first.answer.place first.lent

  abbrev alone : RunResult
  alone = after_command first (run_result [] first.answer.place first.lent)

  run_by : (b : Bool) → eqb first.answer.number 0 ≡ b → run_to_refusal n (c ∷ cs) p l ≡ cond b (after_command first rest) alone
  run_by b e = to_refusal-first n c cs p l ∙ ap (λ (d : Bool). cond d (after_command first rest) alone) e

  goes_on : first.answer.number ≡ 0 → run_to_refusal n (c ∷ cs) p l ≡ after_command first rest
  goes_on e = run_by true (eq-eqb first.answer.number 0 e)

  stops : (w : ℕ) → first.answer.number ≡ suc w → run_to_refusal n (c ∷ cs) p l ≡ alone
  stops w e = run_by false (ne_eqb first.answer.number 0 (λ f. omega (arith, e, f)))

  numbers-before : (w : ℕ) → first.answer.number ≡ w → (r : RunResult) (k : List ℕ) → answer_numbers r ≡ k → answer_numbers (after_command first r) ≡ w ∷ k
  numbers-before w e r k f = ap₂ (λ (v : ℕ) (t : List ℕ). v ∷ t) e f

  after_first : (w : ℕ) → first.answer.number ≡ w → ToRefusal n cs first.answer.place first.lent → ToRefusal n (c ∷ cs) p l
  unfolding run
  after_first zero e (all_done same zeros) =
      all_done (goes_on e ∙ ap (after_command first) same) (numbers-before 0 e (run n cs first.answer.place first.lent) _ zeros)
  after_first zero e (stopped k r above within same zeros) =
      stopped (suc k) r above (omega (arith, within)) (goes_on e ∙ ap (after_command first) same) (ap answer_numbers (goes_on e) ∙ numbers-before 0 e rest _ zeros)
  after_first (suc w) e t =
      stopped zero (suc w) (omega arith) (omega arith) (stops w e)
      (ap answer_numbers (stops w e) ∙ numbers-before (suc w) e (run_result [] first.answer.place first.lent) [] refl)

pub to_refusal : (n : ℕ) (cs : List Command) (p : Place) (l : Lent) → ToRefusal n cs p l
unfolding run run_to_refusal
to_refusal n [] p l = all_done refl refl
to_refusal n (c ∷ cs) p l =
    let o = command n c p l in after_first n c cs p l o.answer.number refl (to_refusal n cs o.answer.place o.lent)

-- ---- its opened words

pub no_answers : (cs : List Command) → opened_words cs [] ≡ []
unfolding opened_words
no_answers [] = refl
no_answers (c ∷ cs) = refl

pub opened-first : (c : Command) (cs : List Command) (o : CommandOutcome) (r : RunResult) (b : Bool)
    → opened_words (c ∷ cs) (cond b (after_command o r) (after_command o (run_result [] o.answer.place o.lent))).answers
    ≡ cond (is_opened c o.answer) (o.answer.opened ∷ []) [] ++ cond b (opened_words cs r.answers) []
opened-first c cs o r true = opened_next c cs o.answer r.answers
opened-first c cs o r false =
    opened_next c cs o.answer [] ∙ ap (λ (w : List ℕ). cond (is_opened c o.answer) (o.answer.opened ∷ []) [] ++ w) (no_answers cs)

pub opened_to_refusal : (n : ℕ) (cs : List Command) (p : Place) (l : Lent) → LentAreWords (modulus n) p l
    → opened_words cs (run_to_refusal n cs p l).answers ≡ opened_registers_to_refusal n cs (sizes l) l.inputs (starting_registers n p l)
unfolding run_to_refusal opened_registers_to_refusal
opened_to_refusal n [] p l w = no_answers []
opened_to_refusal n (c ∷ cs) p l w =
    let o = command n c p l in
    let e = command_agreement n c p l w in
    let r = run_to_refusal n cs o.answer.place o.lent in
    let agrees = opened_to_refusal n cs o.answer.place o.lent e.words ∙ leads-on n c p l (opened_registers_to_refusal n cs) w in
    opened-first c cs o r (eqb o.answer.number 0)
    ∙ ap₂ (λ (v u : List ℕ). v ++ u) (shown-after n c p l w)
    (ap₂ (λ (k : ℕ) (u : List ℕ). cond (eqb k 0) u []) e.same_number agrees)
