-- What is public in a run: it depends on the commands, the place record, the lengths and the kinds only.
use Prim.Native.Nat.{ℕ, suc}
use mathlib.Core.Path.{◌≡◌, refl, subst₂}
use mathlib.Core.Bool.{cond}
use mathlib.Core.List.{List, [], ◌∷◌}
use lib.Dec.{eqb}
use Rattle.protocols.specs.declared.place.Place.{Place}
use Rattle.machine.specs.declared.code.Command.{Command}
use Rattle.machine.specs.declared.lent.Sizes.{Sizes}
use Rattle.machine.specs.Table.{kind_number, row, with_row}
use Rattle.machine.specs.Lent.{Lent, sizes}
use Rattle.machine.specs.Verdict.{Verdict, Accepted, Refused, verdict_number, verdict}
use Rattle.machine.specs.Command.{CommandOutcome, with_entry, accepted_outcome, verdict_outcome, command}
use Rattle.machine.specs.Run.{Reply}
use Rattle.machine.proofs.Laws.Agree.{draws, sizes-left}

-- the place record and the kinds after a command
abbrev pub place_after : ℕ → Verdict → Place → Place
place_after n (Accepted x) p = with_row p (row n x)
place_after n (Refused r) p = p

abbrev pub kinds_after : ℕ → Verdict → Place → List ℕ → List ℕ
kinds_after n (Accepted x) p k = with_entry (row n x).values k p.handles (kind_number (row n x).kind)
kinds_after n (Refused r) p k = k

-- the place record and the kinds after a run, and the replies
unfoldable pub place_at_end : ℕ → List Command → Place → Sizes → List ℕ → Place
place_at_end n [] p z k = p
place_at_end n (c ∷ cs) p z k = let v = verdict n c p z k in place_at_end n cs (place_after n v p) z (kinds_after n v p k)

unfoldable pub kinds_at_end : ℕ → List Command → Place → Sizes → List ℕ → List ℕ
kinds_at_end n [] p z k = k
kinds_at_end n (c ∷ cs) p z k =
    let v = verdict n c p z k in
    kinds_at_end n cs (place_after n v p) z (kinds_after n v p k)

unfoldable pub replies_to : ℕ → List Command → Place → Sizes → List ℕ → List Reply
replies_to n [] p z k = []
replies_to n (c ∷ cs) p z k =
    let v = verdict n c p z k in
    record { number = verdict_number v; place = place_after n v p } ∷ replies_to n cs (place_after n v p) z (kinds_after n v p k)

-- how many commands are tried up to the first refused one, that one included
unfoldable pub tried : ℕ → List Command → Place → Sizes → List ℕ → ℕ
tried n [] p z k = 0
tried n (c ∷ cs) p z k = let v = verdict n c p z k in suc (cond (eqb (verdict_number v) 0) (tried n cs (place_after n v p) z (kinds_after n v p k)) 0)

-- ---- a command answers and leaves exactly this

-- the public part of a command's outcome o, for the verdict v
pub record Public (n : ℕ) (p : Place) (z : Sizes) (k : List ℕ) (v : Verdict) (o : CommandOutcome) : Type 0 where
  pub same_number : o.answer.number ≡ verdict_number v
  pub same_place : o.answer.place ≡ place_after n v p
  pub same-sizes : sizes o.lent ≡ z
  pub same-kinds : o.lent.kinds ≡ kinds_after n v p k

module _ (n : ℕ) (c : Command) (p : Place) (l : Lent) where
  public_by : (v : Verdict) → Public n p (sizes l) l.kinds v (verdict_outcome n v c p l)
  unfolding accepted_outcome
  public_by (Accepted x) = record { same_number = refl; same_place = refl; same-sizes = sizes-left n c p l x (draws n c p l x); same-kinds = refl }
  public_by (Refused r) = record { same_number = refl; same_place = refl; same-sizes = refl; same-kinds = refl }

  pub command_public : (z : Sizes) (k : List ℕ) → sizes l ≡ z → l.kinds ≡ k → Public n p z k (verdict n c p z k) (command n c p l)
  unfolding command
  command_public z k e f =
      subst₂ (λ (y : Sizes) (j : List ℕ). Public n p y j (verdict n c p y j) (command n c p l)) e f (public_by (verdict n c p (sizes l) l.kinds))
