-- `machine::run::run_soundly` meets its contract: one turn of the loop is one command of the run.
use Rattle.std.proofs.Common.{◌≡◌, ℕ, length, refl, ◌∙◌, arith}
use mathlib.Core.Path.{sym}
use Rattle.std.specs.declared.result.Result.{Result}
use Rattle.protocols.specs.declared.place.Place.{Place}
use Rattle.machine.specs.declared.answer.Accepted.{Accepted}
use Rattle.machine.specs.declared.refusal.Refusal.{Refusal}
use Rattle.machine.specs.Lent.{Lent}
use Rattle.machine.specs.Command.{CommandOutcome, answer, answer_of, command_outcome}
use Rattle.machine.proofs.Laws.Rows.{refusal_number-positive}
use Rattle.machine.proofs.Laws.RunTurns.{rest_of_run-at_start, turn-accepted, turn-refused, turn-sound, turns_end}
use Rattle.machine.proofs.run.run_soundly.Goals as goal

-- four names that stay the same from turn to turn
same_names-trans : {a₁ a₂ a₃ a₄ b₁ b₂ b₃ b₄ c₁ c₂ c₃ c₄ : ℕ} → (a₁ ≡ b₁) × (a₂ ≡ b₂) × (a₃ ≡ b₃) × (a₄ ≡ b₄) → (b₁ ≡ c₁) × (b₂ ≡ c₂) × (b₃ ≡ c₃) × (b₄ ≡ c₄)
    → (a₁ ≡ c₁) × (a₂ ≡ c₂) × (a₃ ≡ c₃) × (a₄ ≡ c₄)
same_names-trans e f = (e.0 ∙ f.0, e.1 ∙ f.1, e.2 ∙ f.2, e.3 ∙ f.3)

-- the outcome of a step, by the case of its answer
outcome_of_case : (p : Place) (l : Lent) (o : CommandOutcome) {answered one : Result Accepted Refusal} → answered ≡ one
    → command_outcome (answer_of p answered) l ≡ o → command_outcome (answer_of p one) l ≡ o
outcome_of_case p l o is h = rw (sym is) h

pub loop-done-init : goal.loop-done-init
loop-done-init c = record {
  same_tables = (refl, refl, refl, refl);
  same_lists = (refl, refl, refl, refl);
  stays_sound = c.requires;
  comes_to_the_whole = rest_of_run-at_start c.args.commands.now _ c.args.start _ c.as_chunks.ensures.front;
}

pub returns-in_default-clause-done : goal.returns-in_default-clause-done
returns-in_default-clause-done c =
    let l = c.loop-done in
    rw (c.of-last.ensures, c.in_default.is)
    (turn-refused _ l.done (answer 0 l.last.place l.last.opened) _ c.loop-done-test.true _
    (outcome_of_case _ _ _ c.in_default.is c.step-answered.ensures.done)
    (λ e. omega (arith, e, refusal_number-positive c.in_default.field-0))
    ∙ l.invariant.comes_to_the_whole)

pub loop-done-preserved : goal.loop-done-preserved
loop-done-preserved c =
    let l = c.loop-done in
    let last = answer 0 l.last.place l.last.opened in
    record {
      same_tables = same_names-trans c.step-answered.ensures.same_tables l.invariant.same_tables;
      same_lists = same_names-trans c.step-answered.ensures.same_lists l.invariant.same_lists;
      stays_sound = turn-sound _ l.done last _ c.loop-done-test.true _ (outcome_of_case _ _ _ c.in-Ok.is c.step-answered.ensures.done) l.invariant.stays_sound;
      comes_to_the_whole = turn-accepted _ l.done last _ c.loop-done-test.true _ (outcome_of_case _ _ _ c.in-Ok.is c.step-answered.ensures.done) refl ∙ l.invariant.comes_to_the_whole;
    }

pub returns-clause-done : goal.returns-clause-done
returns-clause-done c =
    let l = c.loop-done in
    let e : length c.as_chunks.result.0.now ≡ l.done = omega arith in
    rw (c.of.ensures, e) (turns_end c.as_chunks.result.0.now l.done (answer 0 l.last.place l.last.opened) _ (omega arith) ∙ l.invariant.comes_to_the_whole)
