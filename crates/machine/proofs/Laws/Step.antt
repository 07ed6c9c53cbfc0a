-- One command, if refusal 4 does not apply, by its tests.
use mathlib.Core.Path.{◌≡◌, sym, ap, ◌∙◌}
use mathlib.Core.Bool.{true}
use Rattle.std.specs.Prelude.{Result, Ok, Err}
use Rattle.protocols.specs.declared.place.Place.{Place}
use Rattle.machine.specs.declared.answer.Answer.{Answer}
use Rattle.machine.specs.Table.{Code, code_named, row}
use Rattle.machine.specs.declared.code.Command.{Command}
use Rattle.machine.specs.declared.refusal.Refusal.{Refusal}
use Rattle.machine.specs.Refusal.{refusal_number}
use Rattle.machine.specs.Lent.{Lent, sizes}
use Rattle.machine.specs.Verdict.{Verdict, Accepted, Refused, pass, is_sound, row_checks, row_verdict, supply_verdict, verdict}
use Rattle.machine.specs.Command.{CommandOutcome, answer, command_outcome, verdict_outcome, command}
use Rattle.machine.proofs.Laws.Tested.{judged_by}

module _ (c : Command) (p : Place) (l : Lent) (s : is_sound p (sizes l) l.kinds ≡ true) where
  -- the command, by the verdict v
  by_verdict : {v : Verdict} → v ≡ verdict 5 c p (sizes l) l.kinds → verdict_outcome 5 v c p l ≡ command 5 c p l
  unfolding command
  by_verdict e = ap (λ (v : Verdict). verdict_outcome 5 v c p l) e

  pub command-unknown : {y : Result Code Refusal} {r : Refusal} {a : Answer} → y ≡ code_named c.code → y ≡ Err r → a ≡ answer (refusal_number r) p 0
      → command_outcome a l ≡ command 5 c p l
  unfolding verdict
  command-unknown {r} ey em ea = ap (λ (a : Answer). command_outcome a l) ea ∙ by_verdict {v = Refused r} (sym (rw (s, sym ey ∙ em)))

  module _ {y : Result Code Refusal} (x : Code) (ey : y ≡ code_named c.code) (ex : y ≡ Ok x) where
    known : row_verdict 5 (row 5 x) c p (sizes l) l.kinds (Accepted x) ≡ verdict 5 c p (sizes l) l.kinds
    unfolding verdict
    known = sym (rw (s, sym ey ∙ ex))

    pub command-refused : {r : Refusal} {a : Answer} → Err r ≡ row_checks 5 (row 5 x) c p (sizes l).one (sizes l).inputs l.kinds → a ≡ answer (refusal_number r) p 0
        → command_outcome a l ≡ command 5 c p l
    command-refused er ea =
        ap (λ (a : Answer). command_outcome a l) ea ∙ by_verdict (sym (judged_by 5 (row 5 x) c p (sizes l) l.kinds (Accepted x) er) ∙ known)

    pub command-passed : {o : CommandOutcome} → pass ≡ row_checks 5 (row 5 x) c p (sizes l).one (sizes l).inputs l.kinds
        → o ≡ verdict_outcome 5 (supply_verdict (row 5 x) p (sizes l) (Accepted x)) c p l → o ≡ command 5 c p l
    command-passed er eo = eo ∙ by_verdict (sym (judged_by 5 (row 5 x) c p (sizes l) l.kinds (Accepted x) er) ∙ known)
