-- Each command's opened word, from those of the accepted opens: every other command opens 0.
use Prim.Native.Nat.{ℕ}
use mathlib.Core.Path.{◌≡◌, refl, ap, ap₂}
use mathlib.Core.Bool.{Bool, true, false, cond, ◌&&◌}
use mathlib.Core.List.{List, [], ◌∷◌, ◌++◌, map}
use borrow.Author.Tests.{eqb-false}
use lib.ListN.{get_or, drop}
use lib.Dec.{eqb}
use Rattle.protocols.specs.declared.place.Place.{Place}
use Rattle.protocols.specs.Word.{modulus}
use Rattle.machine.specs.declared.code.Command.{Command}
use Rattle.machine.specs.declared.answer.Answer.{Answer}
use Rattle.machine.specs.Lent.{Lent, LentAreWords}
use Rattle.machine.specs.Command.{CommandOutcome, command}
use Rattle.machine.specs.Run.{run, Reply, reply, is_opened, opened_words}
use Rattle.machine.proofs.Laws.Refusals.{command_refusals}
use Rattle.machine.proofs.Laws.Agree.{command_agreement}

-- the words w at the accepted opens, 0 at all other commands
unfoldable pub spread : List Command → List Reply → List ℕ → List ℕ
spread [] l w = []
spread (c ∷ cs) [] w = []
spread (c ∷ cs) (r ∷ l) w = let b = eqb c.code 11 && eqb r.number 0 in cond b (get_or w 0 0) 0 ∷ spread cs l (cond b (drop 1 w) w)

not_open : (n : ℕ) (c : Command) (p : Place) (l : Lent) → LentAreWords (modulus n) p l → is_opened c (command n c p l).answer ≡ false → (command n c p l).answer.opened ≡ 0
not_open n c p l w = by_code (eqb c.code 11) refl
  where
    by_code : (b : Bool) → eqb c.code 11 ≡ b → (b && eqb (command n c p l).answer.number 0) ≡ false → (command n c p l).answer.opened ≡ 0
    by_code true f e =
        let refused = eqb-false (command n c p l).answer.number 0 e in ap (λ (o : CommandOutcome). o.answer.opened) ((command_refusals n c p l).unchanged refused)
    by_code false f e = (command_agreement n c p l w).not_opened (eqb-false c.code 11 f)

by_open : (cs : List Command) (a : Answer) (l : List Answer) (b : Bool) → (b ≡ false → a.opened ≡ 0)
    → map (λ (e : Answer). e.opened) l ≡ spread cs (map reply l) (opened_words cs l)
    → let w = cond b (a.opened ∷ []) [] ++ opened_words cs l in
    a.opened ∷ map (λ (e : Answer). e.opened) l ≡ cond b (get_or w 0 0) 0 ∷ spread cs (map reply l) (cond b (drop 1 w) w)
by_open cs a l true f e = ap (λ (t : List ℕ). a.opened ∷ t) e
by_open cs a l false f e = ap₂ (λ (u : ℕ) (t : List ℕ). u ∷ t) (f refl) e

pub told-spread : (n : ℕ) (cs : List Command) (p : Place) (l : Lent) → LentAreWords (modulus n) p l
    → let a = (run n cs p l).answers in map (λ (b : Answer). b.opened) a ≡ spread cs (map reply a) (opened_words cs a)
unfolding run opened_words spread
told-spread n [] p l w = refl
told-spread n (c ∷ cs) p l w =
    let o = command n c p l in
    by_open cs o.answer (run n cs o.answer.place o.lent).answers (is_opened c o.answer) (not_open n c p l w)
    (told-spread n cs o.answer.place o.lent (command_agreement n c p l w).words)
