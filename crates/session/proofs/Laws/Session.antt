-- A session that is refused as a whole, and one that is taken.
use Prim.Native.Nat.{ℕ, ◌/◌, ◌≤◌}
use mathlib.Core.Path.{◌≡◌, ◌∙◌, ap, sym}
use mathlib.Core.Bool.{Bool, ◌&&◌}
use mathlib.Core.List.{List}
use native.Mathlib.Omega.{arith}
use lib.ListN.{length, take}
use lib.Dec.{leb}
use borrow.Author.Tests.{eq-eqb, ne_eqb, leb-true}
use Rattle.machine.specs.Run.{empty_place}
use Rattle.machine.specs.declared.refusal.Refusal.{Refusal}
use Rattle.machine.specs.Refusal.{refusal_number}
use Rattle.machine.proofs.Laws.Rows.{refusal_number-positive}
use Rattle.protocols.proofs.Laws.Deliveries.{both}
use Rattle.session.specs.declared.answer.SessionAnswer.{SessionAnswer}
use Rattle.session.specs.Words.{words_of}
use Rattle.session.specs.Contents.{sheet_of}
use Rattle.session.specs.Session.{State, SessionOutcome, session_outcome, session_answer, first_refusal, early_refusal, outcome_of_refusal, outcome_of_run, run_of, words_after, session}
use Rattle.session.proofs.Laws.Words.{take-words_after}
use Rattle.session.proofs.Laws.Contents.{passes_tests, fits_lent}

-- if no refusal 1 to 4 applies, enough words are lent for the file's; `alike` is the test of the other lengths
pub words_lent : (f w : List ℕ) (alike : Bool) → first_refusal f (alike && leb 7692 (length w)) ≡ 0 → length f / 4 ≤ length w
words_lent f w alike h =
    let a = passes_tests f (alike && leb 7692 (length w)) h in
    omega (arith, fits_lent f a, leb-true 7692 (length w) (both alike (leb 7692 (length w)) a.enough).1)

module _ (f w : List ℕ) (s : State) where
  pub session-refused : ¬ (early_refusal f w s ≡ 0) → session f w s ≡ outcome_of_refusal (early_refusal f w s) w s
  unfolding session
  session-refused h = rw (ne_eqb (early_refusal f w s) 0 h)

  -- a session refused by the code's refusal r
  pub session-of_refusal : (r : Refusal) → refusal_number r ≡ early_refusal f w s → (a : SessionAnswer) → a ≡ session_answer 0 empty_place (refusal_number r) → session_outcome a w s ≡ session f w s
  session-of_refusal r e a h =
      ap (λ (x : SessionAnswer). session_outcome x w s) (h ∙ ap (λ (n : ℕ). session_answer 0 empty_place n) e)
      ∙ sym (session-refused (λ z. omega (arith, refusal_number-positive r, e, z)))

  pub session-run : early_refusal f w s ≡ 0 → session f w s ≡ outcome_of_run (run_of (sheet_of (words_of f)) s) (words_after f w)
  unfolding session
  session-run h = rw (eq-eqb (early_refusal f w s) 0 h)

  -- a session run by the code: v are the lent words after decoding, and u are those of the file
  pub session-done : early_refusal f w s ≡ 0 → (u v : List ℕ) → v ≡ words_after f w → u ≡ take (length f / 4) v → (a : SessionAnswer) (t : State)
      → session_outcome a u t ≡ outcome_of_run (run_of (sheet_of u) s) u → session_outcome a v t ≡ session f w s
  session-done h u v e eu a t r =
      ap (λ (o : SessionOutcome). session_outcome o.answer v o.state) r
      ∙ (λ i. outcome_of_run (run_of (sheet_of ((eu ∙ ap (take (length f / 4)) e ∙ take-words_after f w) i)) s) (e i))
      ∙ sym (session-run h)
