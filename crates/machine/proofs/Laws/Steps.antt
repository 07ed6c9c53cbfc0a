-- A command's protocol on the lent tapes never lacks words, if the command is accepted; and what open sends to the
-- controller.
use Prim.Native.Nat.{ℕ, ◌-◌, ◌<◌}
use mathlib.Core.Path.{◌≡◌, refl, ap₂, ◌∙◌, subst₂}
use native.Mathlib.Omega.{arith}
use borrow.Author.Tests.{leb-true}
use lib.Dec.{leb}
use lib.ListN.{length}
use Rattle.protocols.specs.declared.place.Party.{Party}
use Rattle.protocols.specs.declared.place.Party.TheVariants.{Provider, One, Two, Three}
use Rattle.protocols.specs.declared.place.Drawn.{Drawn}
use Rattle.protocols.specs.declared.place.Place.{Place}
use Rattle.protocols.specs.Place.{Tapes, tape, count, in_order, advance, block}
use Rattle.protocols.specs.Protocol.{done, perform}
use Rattle.protocols.specs.Claims.{Lacks}
use Rattle.protocols.proofs.Laws.Perform.{on_tapes}
use Rattle.protocols.proofs.Laws.Blocks.{block_same}
use Rattle.machine.specs.Table.{Code, Open, row}
use Rattle.machine.specs.declared.arguments.Arguments.{Arguments}
use Rattle.machine.specs.declared.code.Command.{Command}
use Rattle.machine.specs.Lent.{Lent, tape_lengths, sizes}
use Rattle.machine.specs.Steps.{protocol}
use Rattle.machine.proofs.Laws.Accepted.{every_one, Passed}
use Rattle.machine.proofs.Laws.Lawful.{ring, lawful}

-- open sends its result to the controller, in the order of the miners
pub open_hands : (n b : ℕ) (g : Arguments) (t : Tapes) → ((protocol n Open b).received g t).controller ≡ in_order ((protocol n Open b).result g t)
unfolding protocol
open_hands n b g t = (ring n).opening_shown g.u t

-- ---- tapes

-- a tape's length, as one of the four lengths
pub count-lengths : (i : Party) (t : Tapes) → count i (tape_lengths t) ≡ length (tape i t)
count-lengths Provider t = refl
count-lengths One t = refl
count-lengths Two t = refl
count-lengths Three t = refl

-- each tape has the words left that an accepted command draws
pub never_lacks : (n : ℕ) (x : Code) (c : Command) (p : Place) (l : Lent) → Passed n x c p (sizes l) l.kinds
    → (i : Party) → ¬ Lacks (row n x).drawn p l.tapes i
never_lacks n x c p l a i lacks =
    let left = every_one (λ j. leb (count j (row n x).drawn) (count j (tape_lengths l.tapes) - count j p.drawn)) a.twelve i in
    let has = leb-true (count i (row n x).drawn) (count i (tape_lengths l.tapes) - count i p.drawn) left in
    omega (arith, has, count-lengths i l.tapes, lacks)

-- a command's protocol if every tape has the words of its row, from a place q with the draws of p
pub performs : (n : ℕ) (x : Code) (b : ℕ) (g : Arguments) (p q : Place) (t : Tapes) → q.drawn ≡ p.drawn → ((i : Party) → ¬ Lacks (row n x).drawn p t i)
    → let f = protocol n x b in
    let w = block f.draws p t in
    perform f g q t ≡ done (f.result g w) (f.received g w) (advance q (row n x).drawn)
performs n x b g p q t e never =
    let f = protocol n x b in
    let drawn : f.draws ≡ (row n x).drawn = ((lawful x).counted n b).drawn in
    (on_tapes f g q t).done_if (λ i lacks. never i (subst₂ (λ (d k : Drawn). length (tape i t) - count i k < count i d) drawn e lacks))
    ∙ ap₂ (λ (w : Tapes) (d : Drawn). done (f.result g w) (f.received g w) (advance q d)) (block_same f.draws q p t e) drawn
