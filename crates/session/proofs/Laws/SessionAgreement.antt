-- After a session the shares combine to the words of the register machine, and its opened words are printed.
use Prim.Native.Nat.{ℕ, ◌^◌}
use mathlib.Core.Path.{◌≡◌, sym, ap, ap₂, ◌∙◌, subst}
use mathlib.Core.List.{List, [], ◌∷◌}
use native.Mathlib.Omega.{arith}
use lib.ListN.{length, take, drop}
use Rattle.protocols.specs.declared.place.Party.{Party}
use Rattle.protocols.specs.declared.place.Party.TheVariants.{Provider, One, Two, Three}
use Rattle.protocols.specs.Word.{modulus}
use Rattle.protocols.specs.Place.{tape}
use Rattle.protocols.specs.Contents.{AllBelow}
use Rattle.protocols.proofs.Laws.Blocks.{below-take, below-drop}
use Rattle.machine.specs.declared.code.Command.{Command}
use Rattle.machine.specs.Lent.{tape_lengths, sizes, LentAreWords}
use Rattle.machine.specs.Registers.{registers, opened_registers_to_refusal}
use Rattle.machine.specs.Start.{starting_registers}
use Rattle.machine.specs.Run.{run, empty_place, registers_after}
use Rattle.machine.proofs.Laws.RunAgree.{throughout, run-agrees}
use Rattle.machine.proofs.Laws.Runs.{start_by_tables}
use Rattle.machine.proofs.Laws.ToRefusal.{opened_to_refusal}
use Rattle.machine.proofs.Laws.Blind.Runs.{start-empty, words_from_empty}
use Rattle.session.specs.Words.{words_of}
use Rattle.session.specs.Contents.{start_of, count_of, body}
use Rattle.session.specs.Session.{State, SessionOutcome, lent_to_commands, run_of}
use Rattle.session.specs.Text.{open_lines, open_lines_by_words}
use Rattle.session.specs.Claims.{sheet, lent_at_start, its_outcome, IsTaken, outcome_after, UpToRefusal, runs_to_end, stops_at, SessionAgreement}
use Rattle.session.proofs.Laws.Session.{session-run}
use Rattle.session.proofs.Laws.RunLines.{run_lines}
use Rattle.session.proofs.Laws.UpToRefusal.{no_refusal, up_to-refusal}

-- ---- four bytes give a word, so inputs and tapes are words

words_of-below : (f : List ℕ) → AllBelow 256 f → AllBelow (2 ^ 32) (words_of f)
unfolding words_of
words_of-below [] b = tt
words_of-below (x ∷ []) b = tt
words_of-below (x ∷ y ∷ []) b = tt
words_of-below (x ∷ y ∷ z ∷ []) b = tt
words_of-below (x ∷ y ∷ z ∷ u ∷ f) b = (omega (arith, b.0, b.1.0, b.1.1.0, b.1.1.1.0), words_of-below f b.1.1.1.1)

module _ (file w : List ℕ) (s : State) (bytes : AllBelow 256 file) where
  body_below : (k : ℕ) → AllBelow (modulus 5) (body (words_of file) k)
  body_below k =
      let l = words_of file in
      below-take (modulus 5) (count_of l k) (drop (start_of l k) l) (below-drop (modulus 5) (start_of l k) l (words_of-below file bytes))

  tapes-below : (i : Party) → AllBelow (modulus 5) (tape i (sheet file w s).tapes)
  tapes-below Provider = body_below 2
  tapes-below One = body_below 3
  tapes-below Two = body_below 4
  tapes-below Three = body_below 5

  are_words : LentAreWords (modulus 5) empty_place (lent_at_start file w s)
  are_words =
      let b = sheet file w s in
      words_from_empty 5 s.tables s.kinds s.received (tape_lengths b.tapes) b.inputs b.tapes (body_below 1) tapes-below

-- ---- the outcome of a session that is taken

module _ (file w : List ℕ) (s : State) (bytes : AllBelow 256 file) (t : IsTaken file w s) where
  abbrev commands : List Command
  commands = (sheet file w s).commands

  -- the register machine, run on the commands done, holds what the shares of this outcome combine to
  abbrev SameRegisters : SessionOutcome → Type 0
  SameRegisters o = starting_registers 5 o.answer.place (lent_to_commands (sheet file w s) o.state)
      ≡ registers_after 5 (take o.answer.done commands) (sizes (lent_at_start file w s)) (sheet file w s).inputs (registers [] empty_place)

  same_at : (k r : ℕ) → SameRegisters (outcome_after file w s k r)
  same_at k r =
      let cs = take k commands in
      let l = lent_at_start file w s in
      let b = sheet file w s in
      let after-k = run 5 cs empty_place l in
      start_by_tables 5 after-k.place after-k.lent b.inputs b.tapes after-k.lent.received
      ∙ (run-agrees 5 cs empty_place l (are_words file w s bytes)).same_registers
      ∙ ap (registers_after 5 cs (sizes l) l.inputs) (start-empty 5 l)

  same_registers : UpToRefusal file w s → SameRegisters (its_outcome file w s)
  same_registers (runs_to_end zeros e) = subst SameRegisters (sym e) (same_at (length commands) 0)
  same_registers (stops_at k r five within zeros lowest e) = subst SameRegisters (sym e) (same_at k r)

  same_opened : open_lines commands (run_of (sheet file w s) s).answers
      ≡ open_lines_by_words (take (its_outcome file w s).answer.done commands)
      (opened_registers_to_refusal 5 commands (sizes (lent_at_start file w s)) (sheet file w s).inputs (registers [] empty_place))
  same_opened =
      let l = lent_at_start file w s in
      let done = ap (λ (o : SessionOutcome). o.answer.done) (session-run file w s (no_refusal file w s t)) in
      run_lines 5 commands empty_place l
      ∙ ap₂ (λ (k : ℕ) (v : List ℕ). open_lines_by_words (take k commands) v) (sym done)
      (opened_to_refusal 5 commands empty_place l (are_words file w s bytes) ∙ ap (opened_registers_to_refusal 5 commands (sizes l) l.inputs) (start-empty 5 l))

  pub session_agreement : SessionAgreement file w s
  session_agreement = record {
    throughout = throughout 5 (take (its_outcome file w s).answer.done commands) empty_place (lent_at_start file w s) (are_words file w s bytes);
    same_registers = same_registers (up_to-refusal file w s t);
    same_opened = same_opened;
  }
