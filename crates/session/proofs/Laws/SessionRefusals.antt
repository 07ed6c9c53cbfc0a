-- Sessions are refused as the table of refusals says, and are otherwise the run of their commands.
use Prim.Native.Nat.{ℕ, ◌≤◌, ◌<◌}
use mathlib.Core.Path.{◌≡◌, refl, sym, ap, ◌∙◌, subst}
use mathlib.Core.Logic.{◌↔◌}
use mathlib.Core.List.{List}
use native.Mathlib.Omega.{arith}
use Rattle.machine.proofs.Laws.Lowest.{passes, refuses, same_lowest}
use Rattle.session.specs.Session.{State, SessionOutcome, early_refusal, outcome_of_refusal}
use Rattle.session.specs.Refusals.{AppliesToSession, LowestOfSession}
use Rattle.session.specs.Claims.{its_outcome, its_number, IsTaken, UpToRefusal, runs_to_end, stops_at, SessionRefusals}
use Rattle.session.proofs.Laws.Session.{session-refused, session-run}
use Rattle.session.proofs.Laws.Refusals.{bounds, FirstRefusal, exact}
use Rattle.session.proofs.Laws.UpToRefusal.{no_refusal, up_to-refusal}

module _ (file w : List ℕ) (s : State) where
  -- no command is refused with one of the numbers 1 to 4
  not_early : UpToRefusal file w s → ¬ ((0 < its_number file w s) × (its_number file w s ≤ 4))
  not_early (runs_to_end zeros e) h = omega (arith, ap (λ (o : SessionOutcome). o.answer.number) e, h.0)
  not_early (stops_at k r five within zeros lowest e) h = omega (arith, ap (λ (o : SessionOutcome). o.answer.number) e, h.1)

  pub session-applies : {r : ℕ} → AppliesToSession file w s r → early_refusal file w s ≡ r → its_outcome file w s ≡ outcome_of_refusal r w s
  session-applies {r} a e = session-refused file w s (λ z. omega (arith, bounds file w s a, e, z)) ∙ ap (λ (q : ℕ). outcome_of_refusal q w s) e

  number_is : {r : ℕ} → AppliesToSession file w s r → early_refusal file w s ≡ r → its_number file w s ≡ r
  number_is a e = ap (λ (o : SessionOutcome). o.answer.number) (session-applies a e)

  pub is_taken : ((q : ℕ) → 1 ≤ q → ¬ AppliesToSession file w s q) → IsTaken file w s
  is_taken none r a = none r (bounds file w s a).0 a

  unchanged_by : {v : ℕ} → FirstRefusal (AppliesToSession file w s) 1 v → early_refusal file w s ≡ v → ¬ IsTaken file w s
      → its_outcome file w s ≡ outcome_of_refusal (its_number file w s) w s
  unchanged_by (passes z none) e h = absurd (h (is_taken none))
  unchanged_by (refuses r a below) e h = session-applies a e ∙ ap (λ (q : ℕ). outcome_of_refusal q w s) (sym (number_is a e))

  refused_by : {v : ℕ} → FirstRefusal (AppliesToSession file w s) 1 v → early_refusal file w s ≡ v → (r : ℕ) → 0 < r → r ≤ 4
      → (its_number file w s ≡ r) ↔ LowestOfSession file w s r
  refused_by (passes z none) e r g h =
      (λ f. absurd (not_early (up_to-refusal file w s (is_taken none)) (omega (arith, f))), λ l. absurd (is_taken none r l.0))
  refused_by (refuses q a below) e r g h = (
    λ f. subst (LowestOfSession file w s) (sym (number_is a e) ∙ f) (a, λ j i b. below j (bounds file w s b).0 i b),
    λ l. number_is a e ∙ same_lowest (λ j b. (bounds file w s b).0) a below l,
  )

  pub session_refusals : SessionRefusals file w s
  session_refusals = record {
    refused = refused_by (exact file w s) refl;
    unchanged = unchanged_by (exact file w s) refl;
    taken = up_to-refusal file w s;
    runs = λ t. session-run file w s (no_refusal file w s t);
  }
