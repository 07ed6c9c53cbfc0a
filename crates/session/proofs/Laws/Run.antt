-- A session answers what the machine's run of its commands ended with.
use Prim.Native.Nat.{ℕ}
use mathlib.Core.Path.{◌≡◌, refl, sym, ap, ◌∙◌}
use mathlib.Core.List.{List}
use Rattle.protocols.specs.declared.place.Place.{Place}
use Rattle.protocols.specs.Place.{tapes}
use Rattle.machine.specs.declared.code.Command.{Command}
use Rattle.machine.specs.Lent.{Lent, lent_lists}
use Rattle.machine.specs.Command as machine
use Rattle.machine.specs.Run.{run_to_refusal, commands_of, accepted_count, RunOutcome, run_outcome_of, empty_place}
use Rattle.machine.proofs.Laws.RunTurns.{last_place, last_number}
use Rattle.session.specs.Contents.{body, sheet_of}
use Rattle.session.specs.Session.{State, state_of, lent_to_commands, session_answer, SessionOutcome, session_outcome, outcome_of_run, run_of}

-- a run's end as the outcome of a session, with the lent words w
abbrev pub outcome_of_end : List ℕ → RunOutcome → SessionOutcome
outcome_of_end w e = session_outcome (session_answer e.run.done e.run.last.place e.run.last.number) w (state_of e.lent)

end_of_run : (w : List ℕ) (cs : List Command) (l : Lent)
    → outcome_of_end w (run_outcome_of empty_place (run_to_refusal 5 cs empty_place l)) ≡ outcome_of_run (run_to_refusal 5 cs empty_place l) w
end_of_run w cs l =
    let r = run_to_refusal 5 cs empty_place l in
    let a = machine.answer 0 empty_place 0 in
    sym (λ i. session_outcome (session_answer (accepted_count r.answers) (last_place 5 cs l a i) (last_number 5 cs l a refl i)) w (state_of r.lent))

-- the run of the bodies of the words w from the empty place record is the session's
pub run_of-bodies : (w : List ℕ) (s : State) {commands inputs provider one two three : List ℕ} → commands ≡ body w 0 → inputs ≡ body w 1
    → provider ≡ body w 2 → one ≡ body w 3 → two ≡ body w 4 → three ≡ body w 5 → {p : Place} → p ≡ empty_place → {e : RunOutcome}
    → e ≡ run_outcome_of p (run_to_refusal 5 (commands_of commands) p (lent_lists s.tables s.kinds inputs (tapes provider one two three) s.received))
    → outcome_of_end w e ≡ outcome_of_run (run_of (sheet_of w) s) w
run_of-bodies w s c i p x y z h r =
    ap (outcome_of_end w)
    (r ∙ (λ k. run_outcome_of (h k) (run_to_refusal 5 (commands_of (c k)) (h k) (lent_lists s.tables s.kinds (i k) (tapes (p k) (x k) (y k) (z k)) s.received))))
    ∙ end_of_run w (commands_of (body w 0)) (lent_to_commands (sheet_of w) s)
