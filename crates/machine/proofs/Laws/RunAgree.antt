-- Agreement of runs: at each command, and at the end with the register machine that is started once.
use Prim.Native.Nat.{ℕ}
use mathlib.Core.Path.{◌≡◌, refl, ap₂, ◌∙◌}
use mathlib.Core.List.{List, [], ◌∷◌, ◌++◌, map}
use Rattle.protocols.specs.declared.place.Place.{Place}
use Rattle.protocols.specs.Word.{modulus}
use Rattle.machine.specs.declared.lent.Sizes.{Sizes}
use Rattle.machine.specs.declared.code.Command.{Command}
use Rattle.machine.specs.Lent.{Lent, sizes, LentAreWords}
use Rattle.machine.specs.Command.{command}
use Rattle.machine.specs.Registers.{Registers, step, opened_registers}
use Rattle.machine.specs.Start.{starting_registers}
use Rattle.machine.specs.Run.{run, Reply, reply, opened_words, registers_after, replies}
use Rattle.machine.specs.Claims.{Throughout, RunAgrees}
use Rattle.machine.proofs.Laws.Agree.{command_agreement, start-after, shown-after}

pub throughout : (n : ℕ) (cs : List Command) (p : Place) (l : Lent) → LentAreWords (modulus n) p l → Throughout n cs p l
unfolding Throughout
throughout n [] p l w = tt
throughout n (c ∷ cs) p l w = let e = command_agreement n c p l w in (e, throughout n cs (command n c p l).answer.place (command n c p l).lent e.words)

-- the register machine after the command is the one that starts from what the command leaves
pub goes_on : {A : Type 0} (n : ℕ) (c : Command) (p : Place) (l : Lent) (f : Sizes → List ℕ → Registers → A) → LentAreWords (modulus n) p l
    → let o = command n c p l in f (sizes o.lent) o.lent.inputs (starting_registers n o.answer.place o.lent) ≡ f (sizes l) l.inputs (step n c (sizes l) l.inputs (starting_registers n p l))
goes_on n c p l f w = let e = command_agreement n c p l w in λ i. f (e.sizes_kept i) (e.inputs_kept i) (start-after n c p l w i)

replies_agree : (n : ℕ) (cs : List Command) (p : Place) (l : Lent) → LentAreWords (modulus n) p l
    → map reply (run n cs p l).answers ≡ replies n cs (sizes l) l.inputs (starting_registers n p l)
unfolding run replies
replies_agree n [] p l w = refl
replies_agree n (c ∷ cs) p l w =
    let e = command_agreement n c p l w in
    let o = command n c p l in
    ap₂ (λ (r : Reply) (s : List Reply). r ∷ s) (λ i. record { number = e.same_number i; place = e.same_place i })
    (replies_agree n cs o.answer.place o.lent e.words ∙ goes_on n c p l (replies n cs) w)

registers_agree : (n : ℕ) (cs : List Command) (p : Place) (l : Lent) → LentAreWords (modulus n) p l
    → starting_registers n (run n cs p l).place (run n cs p l).lent ≡ registers_after n cs (sizes l) l.inputs (starting_registers n p l)
unfolding run registers_after
registers_agree n [] p l w = refl
registers_agree n (c ∷ cs) p l w =
    let o = command n c p l in
    registers_agree n cs o.answer.place o.lent (command_agreement n c p l w).words ∙ goes_on n c p l (registers_after n cs) w

opened_agree : (n : ℕ) (cs : List Command) (p : Place) (l : Lent) → LentAreWords (modulus n) p l
    → opened_words cs (run n cs p l).answers ≡ opened_registers n cs (sizes l) l.inputs (starting_registers n p l)
unfolding run opened_words opened_registers
opened_agree n [] p l w = refl
opened_agree n (c ∷ cs) p l w =
    let o = command n c p l in
    ap₂ (λ (r s : List ℕ). r ++ s) (shown-after n c p l w)
    (opened_agree n cs o.answer.place o.lent (command_agreement n c p l w).words ∙ goes_on n c p l (opened_registers n cs) w)

pub run-agrees : (n : ℕ) (cs : List Command) (p : Place) (l : Lent) → LentAreWords (modulus n) p l → RunAgrees n cs p l
run-agrees n cs p l w = record {
  same_replies = replies_agree n cs p l w;
  same_registers = registers_agree n cs p l w;
  same_opened = opened_agree n cs p l w;
}
