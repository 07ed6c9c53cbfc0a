-- The text of a session, from its answer, the lent words after it, and the words that the controller received.
use Prim.Native.Nat.{ℕ, ◌+◌, ◌*◌, ◌/◌, ◌≤◌, ◌<◌}
use mathlib.Core.Path.{◌≡◌, refl, sym, ap, ap₂, ◌∙◌, subst}
use mathlib.Core.Bool.{true, false, cond, false≢true}
use mathlib.Core.List.{List, ◌++◌}
use native.Mathlib.Omega.{arith}
use borrow.Author.Tests.{le-leb, lt-ltb, le-ltb}
use lib.ListN.{length, take, drop, length-append, length-drop}
use lib.Seq.{take-take, take-append-le, drop-append-le}
use Rattle.std.proofs.lemmas.List.{length-take}
use Rattle.protocols.specs.Word.{modulus}
use Rattle.machine.specs.Run.{RunResult, commands_of, accepted_count, empty_place, sums_in_threes}
use Rattle.machine.proofs.Laws.ControllerWords.{controller_adds_up}
use Rattle.machine.proofs.Laws.Lowest.{passes, refuses}
use Rattle.machine.proofs.Laws.Tests.{stable}
use Rattle.machine.proofs.Laws.Threes.{commands_taken, commands_fit}
use Rattle.session.specs.declared.answer.SessionAnswer.{SessionAnswer}
use Rattle.session.specs.Words.{words_of}
use Rattle.session.specs.Contents.{start_of, count_of, body, Sheet, sheet_of}
use Rattle.session.specs.Session.{State, lent_to_commands, is_lent, early_refusal, outcome_of_refusal, run_of, session_answer, SessionOutcome, session_outcome, outcome_of_run, words_after, session}
use Rattle.session.specs.Refusals.{AppliesToSession, wrong_start, over_limit}
use Rattle.session.specs.Claims.{IsTaken, UpToRefusal, runs_to_end, stops_at, outcome_after}
use Rattle.session.specs.Text.{open_lines, last_line, is_early, refusal_line, text_of, open_lines_by_words, pool_outcome, pool}
use Rattle.session.specs.Private.Report.{text_by_shares, IsReadable}
use Rattle.session.proofs.Laws.Contents.{bodies, passes_tests}
use Rattle.session.proofs.Laws.Refusals.{bounds, FirstRefusal, exact}
use Rattle.session.proofs.Laws.Session.{session-run}
use Rattle.session.proofs.Laws.SessionRefusals.{session-applies, is_taken}
use Rattle.session.proofs.Laws.RunLines.{run_lines}
use Rattle.session.proofs.Laws.UpToRefusal.{up_to-refusal}

module _ (f w : List ℕ) (s : State) where
  abbrev words : List ℕ
  words = words_of f

  abbrev sheet : Sheet
  sheet = sheet_of words

  -- the text of an outcome is the one that the code makes, and all that is read for it is there
  pub record IsReported (o : SessionOutcome) : Type 0 where
    pub text : text_of sheet s o.answer ≡ text_by_shares o.answer o.words o.state.received.controller
    pub readable : is_early o.answer.number ≡ false → IsReadable o.answer o.words o.state.received.controller

  -- ---- a session that is refused as a whole

  is_early-small : (r : ℕ) → 1 ≤ r → r ≤ 4 → is_early r ≡ true
  is_early-small r h e = rw (lt-ltb 0 r (omega (arith, h)), le-leb r 4 e)

  refusal-reported : (r : ℕ) → 1 ≤ r → r ≤ 4 → IsReported (outcome_of_refusal r w s)
  unfolding text_of text_by_shares
  refusal-reported r h e = record { text = rw (is_early-small r h e); readable = λ d. absurd (false≢true (sym d ∙ is_early-small r h e)) }

  -- ---- a session that is taken

  module _ (zero : early_refusal f w s ≡ 0) (taken : IsTaken f w s) where
    abbrev its_run : RunResult
    its_run = run_of sheet s

    abbrev done : ℕ
    done = accepted_count its_run.answers

    starts_at_12 : start_of words 0 ≡ 12
    starts_at_12 = stable (start_of words 0) 12 (λ n. taken 2 (wrong_start 0 (omega arith) n))

    at_most_384 : count_of words 0 ≤ 384
    at_most_384 = let h : ¬ (384 < count_of words 0) = λ b. taken 3 (over_limit 0 (omega arith) b) in omega (arith, h)

    commands_end : 12 + count_of words 0 ≤ length words
    commands_end = omega (arith, (bodies f (passes_tests f (is_lent sheet w s) zero)).within 0 (omega arith), starts_at_12)

    is_done : {k r : ℕ} → session f w s ≡ outcome_after f w s k r → done ≡ k
    is_done e = ap (λ (o : SessionOutcome). o.answer.done) (sym (session-run f w s zero) ∙ e)

    done-le : UpToRefusal f w s → done ≤ length sheet.commands
    done-le (runs_to_end zeros e) = omega (arith, is_done e)
    done-le (stops_at k r five below zeros lowest e) = omega (arith, is_done e, below)

    done_words-le : 3 * done ≤ count_of words 0
    done_words-le =
        omega (
          arith,
          done-le (up_to-refusal f w s taken),
          commands_fit (body words 0),
          length-take (count_of words 0) (drop (start_of words 0) words),
        )

    -- the lent words behind the contents begin with the commands
    commands_stand : take (3 * done) (drop 12 (words_after f w)) ≡ take (3 * done) (body words 0)
    commands_stand =
        let k = 3 * done in
        let rest = drop (length f / 4) w in
        ap (take k) (drop-append-le 12 words rest (omega (arith, commands_end)))
        ∙ take-append-le k (drop 12 words) rest (omega (arith, length-drop 12 words, commands_end, done_words-le))
        ∙ ap (λ (n : ℕ). take k (drop n words)) (sym starts_at_12)
        ∙ sym (take-take k (count_of words 0) (drop (start_of words 0) words) done_words-le)

    run-text : open_lines sheet.commands its_run.answers
        ≡ open_lines_by_words (commands_of (take (3 * done) (drop 12 (words_after f w))))
        (sums_in_threes (modulus 5) (take its_run.place.received.controller its_run.lent.received.controller))
    run-text =
        let handed = controller_adds_up 5 sheet.commands empty_place (lent_to_commands sheet s) in
        run_lines 5 sheet.commands empty_place (lent_to_commands sheet s)
        ∙ ap₂ open_lines_by_words (sym (ap commands_of commands_stand ∙ commands_taken done (body words 0)))
        (handed.add_up ∙ ap (sums_in_threes (modulus 5)) (sym handed.received))

    run-reported : IsReported (outcome_of_run its_run (words_after f w))
    unfolding text_of text_by_shares
    run-reported =
        let a = (outcome_of_run its_run (words_after f w)).answer in
        record {
          text = ap (λ (l : List ℕ). cond (is_early a.number) (refusal_line a.number) (l ++ last_line a)) run-text;
          readable = λ e. record {
            within_limit = omega (arith, done_words-le, at_most_384);
            has_commands = omega (arith, done_words-le, commands_end, length-append words (drop (length f / 4) w));
            has_shares = (controller_adds_up 5 sheet.commands empty_place (lent_to_commands sheet s)).within (omega arith);
          };
        }

  pub session-reported : IsReported (session f w s)
  session-reported = by_exact (exact f w s) refl
    where
      by_exact : {v : ℕ} → FirstRefusal (AppliesToSession f w s) 1 v → early_refusal f w s ≡ v → IsReported (session f w s)
      by_exact (passes z none) e =
          subst IsReported (sym (session-run f w s (e ∙ z)))
          (run-reported (e ∙ z) (is_taken f w s none))
      by_exact (refuses r a below) e =
          let b = bounds f w s a in subst IsReported (sym (session-applies f w s a e)) (refusal-reported r b.0 b.1)

-- ---- in the form of the code

module _ (a : SessionAnswer) (w shares : List ℕ) where
  pub early_text : is_early a.number ≡ true → text_by_shares a w shares ≡ refusal_line a.number
  unfolding text_by_shares
  early_text e = rw e

  -- the lines of the opens among the first n words of commands
  abbrev pub opens_in : ℕ → List ℕ
  opens_in n = open_lines_by_words (commands_of (take n (drop 12 w))) (sums_in_threes (modulus 5) (take a.place.received.controller shares))

  pub late_text : (n : ℕ) → n ≡ 3 * a.done → is_early a.number ≡ false → text_by_shares a w shares ≡ opens_in n ++ last_line a
  unfolding text_by_shares
  late_text n en e = rw (en, e)

module _ (f w : List ℕ) (s : State) where
  -- a file that is too long for the program
  pub pool-long : {a : SessionAnswer} (shares : List ℕ) {t : List ℕ} → 30768 < length f → a ≡ session_answer 0 empty_place 3
      → t ≡ text_by_shares a w shares → pool_outcome t w s ≡ pool f w s
  unfolding pool text_by_shares
  pool-long shares h ea et = rw (lt-ltb 30768 (length f) h, et, ea)

  module _ (a : SessionAnswer) (v : List ℕ) (t : State) (e : session_outcome a v t ≡ session f w s) where
    pub pool-run : {x : List ℕ} → length f ≤ 30768 → x ≡ text_by_shares a v t.received.controller → pool_outcome x v t ≡ pool f w s
    unfolding pool
    pool-run h ex =
        rw (le-ltb 30768 (length f) h)
        (ap (λ (y : List ℕ). pool_outcome y v t) ex
        ∙ ap (λ (o : SessionOutcome). pool_outcome (text_by_shares o.answer o.words o.state.received.controller) o.words o.state) e
        ∙ ap (λ (y : List ℕ). pool_outcome y (session f w s).words (session f w s).state) (sym (session-reported f w s).text))

    pub is_readable : is_early a.number ≡ false → IsReadable a v t.received.controller
    is_readable =
        subst (λ (o : SessionOutcome). is_early o.answer.number ≡ false → IsReadable o.answer o.words o.state.received.controller) (sym e)
        (session-reported f w s).readable
