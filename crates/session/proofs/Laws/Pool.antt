-- What the program does with a file of at most 30,768 bytes, and with a longer one.
use Prim.Native.Nat.{ℕ, ◌%◌, ◌≤◌}
use mathlib.Core.Path.{◌≡◌, refl, ◌∙◌}
use mathlib.Core.List.{List}
use native.Mathlib.Omega.{arith}
use borrow.Author.Tests.{lt-ltb, le-ltb}
use lib.ListN.{length}
use Rattle.machine.proofs.Laws.Lowest.{passes, refuses}
use Rattle.machine.proofs.Laws.Tests.{stable}
use Rattle.session.specs.Words.{words_of}
use Rattle.session.specs.Contents.{sheet_of}
use Rattle.session.specs.Session.{State, is_lent, early_refusal}
use Rattle.session.specs.Refusals.{AppliesToSession, no_words}
use Rattle.session.specs.Text.{digits, spaced_numbers, refusal_line, pool}
use Rattle.session.specs.Claims.{IsTaken}
use Rattle.session.specs.Pool.{PoolReads}
use Rattle.session.proofs.Laws.Contents.{passes_tests, fits_lent}
use Rattle.session.proofs.Laws.Refusals.{FirstRefusal, exact}

module _ (file w : List ℕ) (s : State) where
  -- no session takes a file of more bytes
  taken-le : IsTaken file w s → length file ≤ 30768
  taken-le taken = by_exact (exact file w s) refl
    where
      by_exact : {v : ℕ} → FirstRefusal (AppliesToSession file w s) 1 v → early_refusal file w s ≡ v → length file ≤ 30768
      by_exact (passes z none) e =
          let whole : length file % 4 ≡ 0 = stable (length file % 4) 0 (λ n. taken 1 (no_words n)) in
          omega (arith, whole, fits_lent file (passes_tests file (is_lent (sheet_of (words_of file)) w s) (e ∙ z)))
      by_exact (refuses r a below) e = absurd (taken r a)

  pub pool_reads : PoolReads file w s
  unfolding pool refusal_line spaced_numbers digits
  pool_reads = record {
    reads = λ h. rw (le-ltb 30768 (length file) h);
    too_long = λ h. rw (lt-ltb 30768 (length file) h);
    not_taken = λ h t. omega (arith, h, taken-le t);
  }
