-- In a run up to the first refusal, each three words that the controller receives have an opened word as their sum.
use Prim.Native.Nat.{ℕ, ◌+◌, ◌≤◌}
use mathlib.Core.Path.{◌≡◌, refl, sym, ap, ap₂, ◌∙◌, subst}
use mathlib.Core.Bool.{Bool, true, false, cond, ◌&&◌, and-false}
use mathlib.Core.List.{List, [], ◌∷◌, ◌++◌, append-nil, append_assoc}
use native.Mathlib.Omega.{arith}
use borrow.Author.Tests.{eqb-true, ne_eqb, ltb-false}
use lib.ListN.{length, take, drop, length-append}
use lib.Seq.{length-sets, length-take-le, take_at}
use lib.Dec.{eqb}
use Rattle.protocols.specs.declared.place.Place.{Place}
use Rattle.protocols.specs.Word.{modulus}
use Rattle.protocols.specs.Shares.{sum_of}
use Rattle.protocols.specs.Place.{controller, in_order}
use Rattle.machine.specs.Table.{Code, Open, code_named, row, opens_value}
use Rattle.machine.specs.declared.code.Command.{Command}
use Rattle.machine.specs.Lent.{Lent, sizes, received_words}
use Rattle.machine.specs.Verdict.{Verdict, Accepted, Refused, verdict}
use Rattle.machine.specs.Command.{CommandOutcome, accepted_outcome, verdict_outcome, command}
use Rattle.machine.specs.Run.{RunResult, run_result, after_command, run_to_refusal, is_opened, sums_in_threes}
use Rattle.machine.specs.Claims.{AddsUp}
use Rattle.machine.proofs.Laws.Accepted.{has_room}
use Rattle.machine.specs.Refusal.{refusal_number as refusal_number}
use Rattle.machine.proofs.Laws.Rows.{refusal_number-positive}
use Rattle.machine.proofs.Laws.Rows.{same_code}
use Rattle.machine.proofs.Laws.Steps.{open_hands}
use Rattle.machine.proofs.Laws.ToRefusal.{no_answers, opened-first}
use Rattle.machine.proofs.Laws.Agree.{takes, draws, makes, sends, appended, has_passed, code_opens}
use Rattle.machine.proofs.Laws.Lawful.{lawful}

-- the controller's list has gained the words w, and its count is at most its length
record Gained (p : Place) (l : Lent) (q : Place) (r : Lent) (w : List ℕ) : Type 0 where
  received : received_words q r controller ≡ received_words p l controller ++ w
  within : p.received.controller ≤ length l.received.controller → q.received.controller ≤ length r.received.controller

nothing_gained : (p : Place) (l : Lent) → Gained p l p l []
nothing_gained p l = record { received = sym (append-nil (received_words p l controller)); within = λ h. h }

no_sums : (m : ℕ) → [] ≡ sums_in_threes m []
unfolding sums_in_threes
no_sums m = refl

none : (s : List ℕ) → length s ≡ 0 → s ≡ []
none [] e = refl
none (x ∷ s) e = absurd (omega arith)

-- open sends its result to the controller, in the order of the miners
hands : (n : ℕ) (c : Command) (p : Place) (l : Lent) (x : Code) → x ≡ Open
    → (sends n c p l x (draws n c p l x)).controller ≡ in_order (makes n c p l x (draws n c p l x))
hands n c p l x e =
    subst (λ (y : Code). (sends n c p l y (draws n c p l y)).controller ≡ in_order (makes n c p l y (draws n c p l y))) (sym e)
    (open_hands n c.b (takes n c p l Open) (draws n c p l Open))

module _ (n : ℕ) (c : Command) (p : Place) (l : Lent) where
  abbrev decision : Verdict
  decision = verdict n c p (sizes l) l.kinds

  -- ---- an accepted command

  module _ (x : Code) (e : decision ≡ Accepted x) where
    abbrev sent : List ℕ
    sent = (sends n c p l x (draws n c p l x)).controller

    long : length sent ≡ (row n x).received.controller
    long = ((lawful x).counted n c.b).long (takes n c p l x) (draws n c p l x) controller

    gains : Gained p l (verdict_outcome n (Accepted x) c p l).answer.place (verdict_outcome n (Accepted x) c p l).lent sent
    unfolding accepted_outcome
    gains =
        let at = p.received.controller in
        let held = l.received.controller in
        let a = has_passed n c p l x e in
        let fits : at + length sent ≤ length held = omega (arith, (has_room a).received controller, long) in
        let filled : length (take at held ++ sent) ≡ at + (row n x).received.controller
        = length-append (take at held) sent ∙ ap₂ ◌+◌ (length-take-le at held (omega arith)) long in
        record {
          received = ap (take (at + (row n x).received.controller)) (appended n c p l x a (draws n c p l x) controller ∙ sym (append_assoc (take at held) sent _))
              ∙ take_at (take at held ++ sent) (drop (at + length sent) held) _ filled;
          within = λ h. omega (arith, length-sets held at sent, (has_room a).received controller);
        }

    -- its opened word, then those after it
    adds_up : (w : List ℕ) → let o = (verdict_outcome n (Accepted x) c p l).answer in
        cond (is_opened c o) (o.opened ∷ []) [] ++ sums_in_threes (modulus n) w ≡ sums_in_threes (modulus n) (sent ++ w)
    unfolding accepted_outcome sums_in_threes
    adds_up w = by_code (eqb c.code 11) refl
      where
        by_code : (b : Bool) → eqb c.code 11 ≡ b → let s = sum_of (modulus n) (makes n c p l x (draws n c p l x)) in
            cond (b && true) (cond (opens_value (row n x)) s 0 ∷ []) [] ++ sums_in_threes (modulus n) w ≡ sums_in_threes (modulus n) (sent ++ w)
        by_code true f =
            let s = sum_of (modulus n) (makes n c p l x (draws n c p l x)) in
            let is_open : x ≡ Open = same_code (has_passed n c p l x e).known (ap code_named (eqb-true c.code 11 f)) in
            ap (λ (b : Bool). cond b s 0 ∷ sums_in_threes (modulus n) w) (sym (code_opens n c p l x e) ∙ f)
            ∙ ap (λ (t : List ℕ). sums_in_threes (modulus n) (t ++ w)) (sym (hands n c p l x is_open))
        by_code false f =
            ap (λ (t : List ℕ). sums_in_threes (modulus n) (t ++ w))
            (sym (none sent (omega (arith, long, ltb-false 0 (row n x).received.controller (sym (code_opens n c p l x e) ∙ f)))))

  -- ---- any command

  -- it sends the words s to the controller
  record Step (o : CommandOutcome) : Type 0 where
    s : List ℕ
    gained : Gained p l o.answer.place o.lent s
    opened : (w : List ℕ) → cond (is_opened c o.answer) (o.answer.opened ∷ []) [] ++ sums_in_threes (modulus n) w ≡ sums_in_threes (modulus n) (s ++ w)

  step_by : (v : Verdict) → decision ≡ v → Step (verdict_outcome n v c p l)
  step_by (Accepted x) e = record { s = sent x e; gained = gains x e; opened = adds_up x e }
  step_by (Refused r) e = record {
    s = [];
    gained = nothing_gained p l;
    opened = λ w. ap (λ (b : Bool). cond b (0 ∷ []) [] ++ sums_in_threes (modulus n) w)
        (ap (λ (b : Bool). eqb c.code 11 && b) (ne_eqb (refusal_number r) 0 (λ f. omega (arith, f, refusal_number-positive r))) ∙ and-false (eqb c.code 11));
  }

  step : Step (command n c p l)
  unfolding command
  step = step_by decision refl

  -- ---- a run

  run_by : (cs : List Command) (b : Bool) (r : RunResult) → let o = command n c p l in
      AddsUp (modulus n) cs o.answer.place o.lent r
      → AddsUp (modulus n) (c ∷ cs) p l (cond b (after_command o r) (after_command o (run_result [] o.answer.place o.lent)))
  run_by cs true r t =
      let f = step in
      let a = (command n c p l).answer in
      record {
        words = f.s ++ t.words;
        received = t.received ∙ ap (λ (u : List ℕ). u ++ t.words) f.gained.received ∙ append_assoc (received_words p l controller) f.s t.words;
        within = λ h. t.within (f.gained.within h);
        add_up = opened-first c cs (command n c p l) r true ∙ ap (λ (u : List ℕ). cond (is_opened c a) (a.opened ∷ []) [] ++ u) t.add_up ∙ f.opened t.words;
      }
  run_by cs false r t =
      let f = step in
      let a = (command n c p l).answer in
      record {
        words = f.s;
        received = f.gained.received;
        within = f.gained.within;
        add_up = opened-first c cs (command n c p l) r false ∙ ap (λ (u : List ℕ). cond (is_opened c a) (a.opened ∷ []) [] ++ u) (no_sums (modulus n)) ∙ f.opened [] ∙ ap (sums_in_threes (modulus n)) (append-nil f.s);
      }

pub controller_adds_up : (n : ℕ) (cs : List Command) (p : Place) (l : Lent) → AddsUp (modulus n) cs p l (run_to_refusal n cs p l)
unfolding run_to_refusal
controller_adds_up n [] p l = record { words = []; received = (nothing_gained p l).received; within = λ h. h; add_up = no_answers [] ∙ no_sums (modulus n) }
controller_adds_up n (c ∷ cs) p l =
    let o = command n c p l in
    run_by n c p l cs (eqb o.answer.number 0) (run_to_refusal n cs o.answer.place o.lent) (controller_adds_up n cs o.answer.place o.lent)
