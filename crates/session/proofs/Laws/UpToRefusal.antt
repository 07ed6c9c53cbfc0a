-- A session that is taken runs its commands up to the first refusal.
use Prim.Native.Nat.{ℕ, suc, ◌<◌}
use mathlib.Core.Path.{◌≡◌, sym, ap, ◌∙◌}
use mathlib.Core.List.{List, [], ◌∷◌, ◌++◌, map-append}
use native.Mathlib.Omega.{arith}
use lib.ListN.{length, get_or, take, replicate, length-map}
use lib.Seq.{take-suc, take-length, length-take-le}
use Rattle.protocols.specs.Shares.{Miner}
use Rattle.machine.specs.declared.code.Command.{Command}
use Rattle.machine.specs.declared.answer.Answer.{Answer}
use Rattle.machine.specs.Table.{command_of}
use Rattle.machine.specs.Lent.{table}
use Rattle.machine.specs.Command.{CommandOutcome, command, command_outcome, answer}
use Rattle.machine.specs.Run.{RunResult, run, answer_numbers, empty_place}
use Rattle.machine.specs.Refusals.{Lowest, Applies}
use Rattle.machine.specs.Claims.{ToRefusal}
use Rattle.machine.specs.Claims as machine
use Rattle.machine.proofs.Laws.Refusals.{command_refusals}
use Rattle.machine.proofs.Laws.Tests.{stable}
use Rattle.machine.proofs.Laws.Lowest.{passes, refuses}
use Rattle.machine.proofs.Laws.Runs.{and_then, run_last, length-answers}
use Rattle.machine.proofs.Laws.Sound.{run-stays_sound, sound-at-empty, above_4}
use Rattle.machine.proofs.Laws.ToRefusal.{to_refusal}
use Rattle.session.specs.Session.{State, state_of, run_of, session_answer, session_outcome, words_after, early_refusal}
use Rattle.session.specs.Refusals.{AppliesToSession, lengths_differ}
use Rattle.session.specs.Claims.{sheet, lent_at_start, its_outcome, IsTaken, run_of_first, outcome_after, UpToRefusal, runs_to_end, stops_at}
use Rattle.session.proofs.Laws.Session.{session-run}
use Rattle.session.proofs.Laws.Refusals.{FirstRefusal, exact}
use Rattle.session.proofs.Laws.Answers.{EndsWith, ends-done, ends-refused, zeros_then}

module _ (file w : List ℕ) (s : State) where
  abbrev commands : List Command
  commands = (sheet file w s).commands

  abbrev ran : RunResult
  ran = run_of (sheet file w s) s

  -- a session that is taken passes every test
  pub no_refusal : IsTaken file w s → early_refusal file w s ≡ 0
  no_refusal t = by_exact (exact file w s)
    where
      by_exact : {v : ℕ} → FirstRefusal (AppliesToSession file w s) 1 v → v ≡ 0
      by_exact (passes zero none) = zero
      by_exact (refuses r h below) = absurd (t r h)

  module _ (t : IsTaken file w s) where
    outcome_at : (k r : ℕ) → EndsWith ran.answers k r → ran.place ≡ (run_of_first file w s k).place → ran.lent ≡ (run_of_first file w s k).lent
        → its_outcome file w s ≡ outcome_after file w s k r
    outcome_at k r e p l =
        session-run file w s (no_refusal t) ∙ (λ i. session_outcome (session_answer (e.0 i) (p i) (e.1 i)) (words_after file w) (state_of (l i)))

    up_to_end : ran ≡ run 5 commands empty_place (lent_at_start file w s) → answer_numbers (run 5 commands empty_place (lent_at_start file w s)) ≡ replicate (length commands) 0
        → UpToRefusal file w s
    up_to_end same zeros =
        let whole = ap (λ (cs : List Command). run 5 cs empty_place (lent_at_start file w s)) (take-length commands) in
        let e = same ∙ sym whole in
        runs_to_end (ap answer_numbers whole ∙ zeros)
        (outcome_at (length commands) 0 (ends-done ran.answers (length commands) (ap answer_numbers same ∙ zeros)) (ap (λ (r : RunResult). r.place) e)
        (ap (λ (r : RunResult). r.lent) e))

    -- number 4 applies to no command
    sound : (k : ℕ) (c : Command) → ¬ Applies 5 c (run_of_first file w s k).place (run_of_first file w s k).lent 4
    sound k = run-stays_sound 5 (take k commands) empty_place (lent_at_start file w s) (λ d. sound-at-empty 5 d (lent_at_start file w s) same)
      where
        same : (i : Miner) → length (table i s.tables) ≡ length s.kinds
        same i = stable (length (table i s.tables)) (length s.kinds) (λ n. t 4 (lengths_differ i n))

    -- command k is the first refused one, with the number r
    module _ (k r : ℕ) (above : 0 < r) (within : k < length commands) (same : ran ≡ run 5 (take (suc k) commands) empty_place (lent_at_start file w s))
        (numbers_are : answer_numbers ran ≡ replicate k 0 ++ (r ∷ [])) where
      abbrev c : Command
      c = get_or commands k (command_of 0 0 0)

      abbrev before : RunResult
      before = run_of_first file w s k

      abbrev o : CommandOutcome
      o = command 5 c before.place before.lent

      ran-and_then : ran ≡ and_then 5 before c
      ran-and_then =
          same ∙ ap (λ (cs : List Command). run 5 cs empty_place (lent_at_start file w s)) (take-suc commands k (command_of 0 0 0) within)
          ∙ run_last 5 (take k commands) c empty_place (lent_at_start file w s)

      split : (answer_numbers before ≡ replicate k 0) × (o.answer.number ≡ r)
      split =
          zeros_then (answer_numbers before) o.answer.number k r
          (length-map before.answers (λ (a : Answer). a.number) ∙ length-answers 5 (take k commands) empty_place (lent_at_start file w s)
          ∙ length-take-le k commands (omega (arith, within)))
          (sym (map-append (λ (a : Answer). a.number) before.answers (o.answer ∷ [])) ∙ ap answer_numbers (sym ran-and_then) ∙ numbers_are)

      unchanged : o ≡ command_outcome (answer o.answer.number before.place 0) before.lent
      unchanged = (command_refusals 5 c before.place before.lent).unchanged (λ e. omega (arith, split.1, e))

      lowest : Lowest 5 c before.place before.lent r
      lowest = ((command_refusals 5 c before.place before.lent).refused r above).0 split.1

      up_to-refused : UpToRefusal file w s
      up_to-refused =
          stops_at k r (above_4 5 c before.place before.lent r (sound k c) lowest.0) within split.0 lowest
          (outcome_at k r (ends-refused ran.answers k r above numbers_are)
          (ap (λ (x : RunResult). x.place) ran-and_then ∙ ap (λ (x : CommandOutcome). x.answer.place) unchanged)
          (ap (λ (x : RunResult). x.lent) ran-and_then ∙ ap (λ (x : CommandOutcome). x.lent) unchanged))

    by_run : ToRefusal 5 commands empty_place (lent_at_start file w s) → UpToRefusal file w s
    by_run (machine.all_done same zeros) = up_to_end same zeros
    by_run (machine.stopped k r above within same numbers_are) = up_to-refused k r above within same numbers_are

    pub up_to-refusal : UpToRefusal file w s
    up_to-refusal = by_run (to_refusal 5 commands empty_place (lent_at_start file w s))
