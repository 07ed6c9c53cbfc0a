-- Blindness of runs up to the first refusal: each is a run of the commands up to it, whose number is public.
use Prim.Native.Nat.{ℕ}
use mathlib.Core.Path.{◌≡◌, refl, sym, ap, ◌∙◌}
use mathlib.Core.Bool.{Bool, true, false, cond}
use mathlib.Core.List.{List, [], ◌∷◌, ◌++◌}
use lib.ListN.{take}
use lib.Dec.{eqb}
use Rattle.protocols.specs.declared.place.Drawn.{Drawn}
use Rattle.protocols.specs.declared.place.Place.{Place}
use Rattle.protocols.specs.Word.{modulus}
use Rattle.protocols.specs.Place.{Tapes, Lists}
use Rattle.protocols.specs.Contents.{AllBelow, Contents}
use Rattle.machine.specs.declared.code.Command.{Command}
use Rattle.machine.specs.declared.lent.Sizes.{Sizes}
use Rattle.machine.specs.Lent.{Tables, Lent, lent_lists, lengths, sizes, LentAreWords}
use Rattle.machine.specs.Verdict.{Verdict, verdict_number, verdict}
use Rattle.machine.specs.Command.{CommandOutcome, command}
use Rattle.machine.specs.Registers.{Registers, registers, judge, step, opened_register, opened_registers, opened_registers_to_refusal}
use Rattle.machine.specs.Start.{starting_registers}
use Rattle.machine.specs.Run.{RunResult, run_result, after_command, run, run_to_refusal, empty_place}
use Rattle.machine.specs.Records.{miner_record, controller_record}
use Rattle.machine.specs.Claims.{RunBlindnessToRefusal}
use Rattle.machine.proofs.Laws.Judge.{judge-same}
use Rattle.machine.proofs.Laws.Agree.{command_agreement}
use Rattle.machine.proofs.Laws.RunAgree.{goes_on}
use Rattle.machine.proofs.Laws.Blind.Public.{place_after, kinds_after, tried, command_public}
use Rattle.machine.proofs.Laws.Blind.Run.{Held}
use Rattle.machine.proofs.Laws.Blind.Pairs.{weaken}
use Rattle.machine.proofs.Laws.Blind.Runs.{contents_long, base, held, start-empty, same_size, run_blindness}

-- ---- the run, and its opened words

pub run-to : (n : ℕ) (cs : List Command) (p : Place) (l : Lent) → run_to_refusal n cs p l ≡ run n (take (tried n cs p (sizes l) l.kinds) cs) p l
unfolding run_to_refusal run tried
run-to n [] p l = refl
run-to n (c ∷ cs) p l =
    let o = command n c p l in
    let v = verdict n c p (sizes l) l.kinds in
    let u = command_public n c p l (sizes l) l.kinds refl refl in
    let q = o.answer.place in
    let m = tried n cs (place_after n v p) (sizes l) (kinds_after n v p l.kinds) in
    let goes : run_to_refusal n cs q o.lent ≡ run n (take m cs) q o.lent =
    run-to n cs q o.lent ∙ (λ i. run n (take (tried n cs (u.same_place i) (u.same-sizes i) (u.same-kinds i)) cs) q o.lent) in
    ap (λ (k : ℕ). cond (eqb k 0) (after_command o (run_to_refusal n cs q o.lent)) (after_command o (run_result [] q o.lent))) u.same_number
    ∙ by_test (eqb (verdict_number v) 0) o (run_to_refusal n cs q o.lent) m goes
  where
    by_test : (b : Bool) (o : CommandOutcome) (r : RunResult) (m : ℕ) → r ≡ run n (take m cs) o.answer.place o.lent
        → cond b (after_command o r) (after_command o (run_result [] o.answer.place o.lent)) ≡ after_command o (run n (take (cond b m 0) cs) o.answer.place o.lent)
    by_test true o r m e = ap (after_command o) e
    by_test false o r m e = refl

pub leads-to : (n : ℕ) (cs : List Command) (p : Place) (l : Lent) → LentAreWords (modulus n) p l
    → opened_registers_to_refusal n cs (sizes l) l.inputs (starting_registers n p l) ≡ opened_registers n (take (tried n cs p (sizes l) l.kinds) cs) (sizes l) l.inputs (starting_registers n p l)
unfolding opened_registers_to_refusal opened_registers tried
leads-to n [] p l w = refl
leads-to n (c ∷ cs) p l w =
    let o = command n c p l in
    let v = verdict n c p (sizes l) l.kinds in
    let u = command_public n c p l (sizes l) l.kinds refl refl in
    let q = o.answer.place in
    let m = starting_registers n p l in
    let k = tried n cs (place_after n v p) (sizes l) (kinds_after n v p l.kinds) in
    let next = step n c (sizes l) l.inputs m in
    let goes : opened_registers_to_refusal n cs (sizes l) l.inputs next ≡ opened_registers n (take k cs) (sizes l) l.inputs next =
    sym (goes_on n c p l (opened_registers_to_refusal n cs) w)
    ∙ leads-to n cs q o.lent (command_agreement n c p l w).words
    ∙ (λ i. opened_registers n (take (tried n cs (u.same_place i) (u.same-sizes i) (u.same-kinds i)) cs) (sizes o.lent) o.lent.inputs (starting_registers n q o.lent))
    ∙ goes_on n c p l (opened_registers n (take k cs)) w in
    ap (λ (t : List ℕ). opened_register n (judge n c (sizes l) m) c m ++ t)
    (ap (λ (y : Verdict). cond (eqb (verdict_number y) 0) (opened_registers_to_refusal n cs (sizes l) l.inputs next) []) (judge-same n c p l)
    ∙ by_test (eqb (verdict_number v) 0) (opened_registers_to_refusal n cs (sizes l) l.inputs next) k next goes)
  where
    by_test : (b : Bool) (t : List ℕ) (k : ℕ) (m : Registers) → t ≡ opened_registers n (take k cs) (sizes l) l.inputs m
        → cond b t [] ≡ opened_registers n (take (cond b k 0) cs) (sizes l) l.inputs m
    by_test true t k m e = e
    by_test false t k m e = refl

-- ---- blindness

module _ (n : ℕ) (cs : List Command) (s : Tables) (k : List ℕ) (r : Lists) (d : Drawn) where
  abbrev public_commands : Sizes → List Command
  public_commands z = take (tried n cs empty_place z k) cs

  ran_as : (i : List ℕ) (z : Sizes) → lengths s k i d r ≡ z → (t : Tapes) → Contents (modulus n) d t
      → run_to_refusal n cs empty_place (lent_lists s k i t r) ≡ run n (public_commands z) empty_place (lent_lists s k i t r)
  ran_as i z e t h =
      run-to n cs empty_place (lent_lists s k i t r)
      ∙ ap (λ (y : Sizes). run n (public_commands y) empty_place (lent_lists s k i t r)) (ap (λ (y : Drawn). lengths s k i y r) (contents_long (modulus n) d t h) ∙ e)

  leading_as : (i : List ℕ) (z : Sizes) → lengths s k i d r ≡ z → AllBelow (modulus n) i
      → opened_registers_to_refusal n cs (lengths s k i d r) i (registers [] empty_place) ≡ opened_registers n (public_commands z) (lengths s k i d r) i (registers [] empty_place)
  leading_as i z e b =
      let l = base n s k r d i in
      let h : Held n empty_place (lengths s k i d r) k l = held n s k r d i (lengths s k i d r) refl b in
      sym (λ j. opened_registers_to_refusal n cs (h.sized j) i (start-empty n l j))
      ∙ leads-to n cs empty_place l h.words
      ∙ (λ j. opened_registers n (public_commands (h.sized j)) (h.sized j) i (start-empty n l j))
      ∙ ap (λ (y : Sizes). opened_registers n (public_commands y) (lengths s k i d r) i (registers [] empty_place)) e

pub run_blindness_to_refusal : (n : ℕ) → RunBlindnessToRefusal n (modulus n)
run_blindness_to_refusal n cs s k r d x y long bx by =
    let z = lengths s k x d r in
    let e : lengths s k y d r ≡ z = same_size n s k r d x y long in
    let B = run_blindness n (take (tried n cs empty_place z k) cs) s k r d x y long bx by in
    record {
      miner = λ i own. weaken
          (λ t t' h h' a. ap (miner_record i) (ran_as n cs s k r d x z refl t h.0) ∙ a ∙ ap (miner_record i) (sym (ran_as n cs s k r d y z e t' h'.0)))
          (B.miner i own);
      controller = λ a. weaken
          (λ t t' h h' b. ap controller_record (ran_as n cs s k r d x z refl t h) ∙ b ∙ ap controller_record (sym (ran_as n cs s k r d y z e t' h')))
          (B.controller (sym (leading_as n cs s k r d x z refl bx) ∙ a ∙ leading_as n cs s k r d y z e by));
    }
