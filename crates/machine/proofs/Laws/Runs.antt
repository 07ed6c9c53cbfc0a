-- Runs, the commands done and the opened words, one command at a time: laws for other crates.
use Prim.Native.Nat.{ℕ, suc}
use mathlib.Core.Path.{◌≡◌, refl, ap}
use mathlib.Core.Bool.{cond}
use mathlib.Core.List.{List, [], ◌∷◌, ◌++◌}
use lib.ListN.{length}
use lib.Dec.{eqb}
use Rattle.protocols.specs.declared.place.Place.{Place}
use Rattle.protocols.specs.Place.{Tapes, Lists}
use Rattle.machine.specs.declared.code.Command.{Command}
use Rattle.machine.specs.declared.answer.Answer.{Answer}
use Rattle.machine.specs.Lent.{Lent, lent_lists}
use Rattle.machine.specs.Command.{command}
use Rattle.machine.specs.Start.{starting_registers}
use Rattle.machine.specs.Run.{RunResult, run_result, after_command, run, run_to_refusal, accepted_count, refused_number, is_opened, opened_words}

-- ---- past refusals

-- a run, and then the command c
abbrev pub and_then : ℕ → RunResult → Command → RunResult
and_then n r c = let o = command n c r.place r.lent in run_result (r.answers ++ (o.answer ∷ [])) o.answer.place o.lent

pub run_last : (n : ℕ) (cs : List Command) (c : Command) (p : Place) (l : Lent) → run n (cs ++ (c ∷ [])) p l ≡ and_then n (run n cs p l) c
unfolding run
run_last n [] c p l = refl
run_last n (d ∷ cs) c p l = let o = command n d p l in ap (after_command o) (run_last n cs c o.answer.place o.lent)

pub length-answers : (n : ℕ) (cs : List Command) (p : Place) (l : Lent) → length (run n cs p l).answers ≡ length cs
unfolding run
length-answers n [] p l = refl
length-answers n (c ∷ cs) p l = let o = command n c p l in ap suc (length-answers n cs o.answer.place o.lent)

-- ---- up to the first refusal

pub to_refusal_none : (n : ℕ) (p : Place) (l : Lent) → run_to_refusal n [] p l ≡ run_result [] p l
unfolding run_to_refusal
to_refusal_none n p l = refl

pub to_refusal-first : (n : ℕ) (c : Command) (cs : List Command) (p : Place) (l : Lent) → let o = command n c p l in
    run_to_refusal n (c ∷ cs) p l
    ≡ cond (eqb o.answer.number 0) (after_command o (run_to_refusal n cs o.answer.place o.lent)) (after_command o (run_result [] o.answer.place o.lent))
unfolding run_to_refusal
to_refusal-first n c cs p l = refl

-- ---- how many commands are done, and the number of a refusal

pub accepted_none : accepted_count [] ≡ 0
unfolding accepted_count
accepted_none = refl

pub accepted_next : (a : Answer) (l : List Answer) → accepted_count (a ∷ l) ≡ cond (eqb a.number 0) (suc (accepted_count l)) 0
unfolding accepted_count
accepted_next a l = refl

pub refused_none : refused_number [] ≡ 0
unfolding refused_number
refused_none = refl

pub refused_next : (a : Answer) (l : List Answer) → refused_number (a ∷ l) ≡ cond (eqb a.number 0) (refused_number l) a.number
unfolding refused_number
refused_next a l = refl

-- ---- the opened words

pub opened_next : (c : Command) (cs : List Command) (a : Answer) (l : List Answer)
    → opened_words (c ∷ cs) (a ∷ l) ≡ cond (is_opened c a) (a.opened ∷ []) [] ++ opened_words cs l
unfolding opened_words
opened_next c cs a l = refl

-- ---- the registers of the shares

-- they depend on tables and kinds only
pub start_by_tables : (n : ℕ) (p : Place) (l : Lent) (inputs : List ℕ) (t : Tapes) (r : Lists)
    → starting_registers n p (lent_lists l.tables l.kinds inputs t r) ≡ starting_registers n p l
unfolding starting_registers
start_by_tables n p l inputs t r = refl
