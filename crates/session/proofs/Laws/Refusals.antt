-- The tests of a session give the lowest of the refusals 1 to 4 that applies, or 0 if none does.
use Prim.Native.Nat.{ℕ, ◌%◌, ◌/◌, ◌≤◌, ◌<◌}
use mathlib.Core.Path.{◌≡◌, refl, sym, ◌∙◌}
use mathlib.Core.Logic.{◌⊎◌, inl, inr}
use mathlib.Core.List.{List}
use native.Mathlib.Omega.{arith}
use lib.ListN.{length}
use Rattle.protocols.specs.Shares.{Miner}
use Rattle.machine.specs.Lent.{table}
use Rattle.machine.proofs.Laws.Lowest.{Exact, passes, step}
use Rattle.machine.proofs.Laws.Tests.{Decides, same_as, and, by_le, by_eq, some_miner}
use Rattle.session.specs.Words.{words_of}
use Rattle.session.specs.Contents.{count_of, limits, sheet_of}
use Rattle.session.specs.Session.{State, is_whole, has_chained_contents, has_legal_counts, is_lent, first_refusal, early_refusal}
use Rattle.session.specs.Refusals.{AppliesToSession, too_short, no_words, wrong_start, wrong_end, over_limit, not_in_threes, lengths_differ, few_words}
use Rattle.session.proofs.Laws.Words.{length-words_of}
use Rattle.session.proofs.Laws.ContentsTests.{due-due_start, Broken, by_chain, Over, by_within}

-- 0 if no number from k on applies, else the lowest that does
abbrev pub FirstRefusal : (ℕ → Type 0) → ℕ → ℕ → Type 0
FirstRefusal = Exact (λ v. v ≡ 0) (λ r. r) (λ r. r)

-- ---- each test decides its row of the table of refusals

module _ (file w : List ℕ) (s : State) where
  pub bounds : {q : ℕ} → AppliesToSession file w s q → (1 ≤ q) × (q ≤ 4)
  bounds (too_short h) = omega arith
  bounds (no_words h) = omega arith
  bounds (wrong_start k h e) = omega arith
  bounds (wrong_end h) = omega arith
  bounds (over_limit k h e) = omega arith
  bounds (not_in_threes h) = omega arith
  bounds (lengths_differ i h) = omega arith
  bounds (few_words h) = omega arith

  test_1 : Decides (AppliesToSession file w s 1) (is_whole file)
  test_1 = same_as to from (and (by_le 48 (length file)) (λ n. by_eq (length file % 4) 0))
    where
      to : (length file < 48) ⊎ (¬ (length file % 4 ≡ 0)) → AppliesToSession file w s 1
      to (inl h) = too_short h
      to (inr h) = no_words h

      from : AppliesToSession file w s 1 → (length file < 48) ⊎ (¬ (length file % 4 ≡ 0))
      from (too_short h) = inl h
      from (no_words h) = inr h

  -- if 1 does not apply, the file has twelve words of contents
  has_contents : ¬ AppliesToSession file w s 1 → 12 ≤ length (words_of file)
  has_contents none = let long : ¬ (length file < 48) = λ h. none (too_short h) in omega (arith, length-words_of file)

  test_2 : ¬ AppliesToSession file w s 1 → Decides (AppliesToSession file w s 2) (has_chained_contents file)
  test_2 none = same_as to from (by_chain 6 12 (length file / 4) (words_of file) (has_contents none))
    where
      to : Broken 12 (words_of file) 6 (length file / 4) → AppliesToSession file w s 2
      to (inl b) = wrong_start b.0 b.1.0 (λ e. b.1.1 (e ∙ sym (due-due_start (words_of file) b.0)))
      to (inr b) = wrong_end (λ e. b (e ∙ length-words_of file))

      from : AppliesToSession file w s 2 → Broken 12 (words_of file) 6 (length file / 4)
      from (wrong_start k h e) = inl (k, (h, λ f. e (f ∙ due-due_start (words_of file) k)))
      from (wrong_end e) = inr (λ f. e (f ∙ sym (length-words_of file)))

  test_3 : ¬ AppliesToSession file w s 1 → Decides (AppliesToSession file w s 3) (has_legal_counts file)
  test_3 none = same_as to from (and (by_within limits (words_of file) (has_contents none)) (λ n. by_eq (count_of (words_of file) 0 % 3) 0))
    where
      to : ((k : ℕ) × Over limits (words_of file) k) ⊎ (¬ (count_of (words_of file) 0 % 3 ≡ 0)) → AppliesToSession file w s 3
      to (inl b) = over_limit b.0 b.1.0 b.1.1
      to (inr b) = not_in_threes b

      from : AppliesToSession file w s 3 → ((k : ℕ) × Over limits (words_of file) k) ⊎ (¬ (count_of (words_of file) 0 % 3 ≡ 0))
      from (over_limit k h e) = inl (k, (h, e))
      from (not_in_threes e) = inr e

  test_4 : Decides (AppliesToSession file w s 4) (is_lent (sheet_of (words_of file)) w s)
  test_4 = same_as to from (and (some_miner (λ i. by_eq (length (table i s.tables)) (length s.kinds))) (λ n. by_le 7692 (length w)))
    where
      Differ : Type 0
      Differ = (i : Miner) × (¬ (length (table i s.tables) ≡ length s.kinds))

      to : Differ ⊎ (length w < 7692) → AppliesToSession file w s 4
      to (inl b) = lengths_differ b.0 b.1
      to (inr b) = few_words b

      from : AppliesToSession file w s 4 → Differ ⊎ (length w < 7692)
      from (lengths_differ i h) = inl (i, h)
      from (few_words h) = inr h

  pub exact : FirstRefusal (AppliesToSession file w s) 1 (early_refusal file w s)
  unfolding first_refusal
  exact = step 1 test_1 (λ n1. step 2 (test_2 n1) (λ n2. step 3 (test_3 n1) (λ n3. step 4 test_4 (λ n4. passes refl none))))
    where
      none : (q : ℕ) → 5 ≤ q → ¬ AppliesToSession file w s q
      none q h a = omega (arith, bounds a)
