-- Blindness of one protocol for one observer; for whole runs see Specification: Blindness
-- What the observer receives and holds depends on the operands only by what it may know.
use Rattle.std.specs.Prelude.{◌≡◌, ℕ}
use Rattle.protocols.specs.declared.place.Party.{Party}
use Rattle.protocols.specs.declared.place.Party.TheVariants.{Provider, One, Two, Three}
use Rattle.protocols.specs.declared.shares.Shares.{Shares}
use Rattle.protocols.specs.Shares.{Miner, one, two, three, at, Operands, sum_of}
use Rattle.protocols.specs.Place.{Tapes, tape, Receiver, miner, controller, list}
use Rattle.protocols.specs.Protocol.{Protocol}
use Rattle.protocols.specs.Contents.{Contents}

-- a miner, the controller, or a miner that is the controller too
pub data Observer : Type 0 where
  watching : Miner → Observer
  controlling : Observer
  both : Miner → Observer

-- whose received list and shares the observer has
abbrev pub Sees : Observer → Receiver → Type 0
Sees (watching i) (miner j) = i ≡ j
Sees (watching i) controller = ⊥
Sees controlling (miner j) = ⊥
Sees controlling controller = Unit {0}
Sees (both i) (miner j) = i ≡ j
Sees (both i) controller = Unit {0}

-- whose tape it has
abbrev pub Holds : Observer → Party → Type 0
Holds o Provider = ⊥
Holds o One = Sees o (miner one)
Holds o Two = Sees o (miner two)
Holds o Three = Sees o (miner three)

-- two values that look the same to the observer
abbrev pub SameShares : Observer → Shares → Shares → Type 0
SameShares o s s' = (i : Miner) → Sees o (miner i) → at i s ≡ at i s'

-- two pairs of operands that look the same to the observer
abbrev pub SameOperands : Observer → Operands → Operands → Type 0
SameOperands o x x' = SameShares o x.u x'.u × SameShares o x.v x'.v

-- two values that look the same to the observer of an open: to the controller their words are the same too
abbrev pub SameOpened : ℕ → Observer → Shares → Shares → Type 0
SameOpened m o s s' = SameShares o s s' × (Sees o controller → sum_of m s ≡ sum_of m s')

-- For operands s that are `Good`, `mask s` maps the contents that the drawn words may have one to one onto themselves,
-- and keeps the words of the tapes that the observer holds; `unmask s` is its inverse. Two runs whose masked words are
-- equal, on operands that look the same to the observer (`Same`), deliver the same words to it, and their results look
-- the same to it (`After`).
pub record Blind (m : ℕ) (o : Observer) {S T : Type 0} (f : Protocol S T)
    (Good : S → Type 0) (Same : S → S → Type 0) (After : T → T → Type 0) : Type 0 where
  pub mask : S → Tapes → Tapes
  pub unmask : S → Tapes → Tapes
  pub mask_words : (s : S) → Good s → (b : Tapes) → Contents m f.draws b → Contents m f.draws (mask s b)
  pub unmask_words : (s : S) → Good s → (b : Tapes) → Contents m f.draws b → Contents m f.draws (unmask s b)
  pub unmask_mask : (s : S) → Good s → (b : Tapes) → Contents m f.draws b → unmask s (mask s b) ≡ b
  pub mask_unmask : (s : S) → Good s → (b : Tapes) → Contents m f.draws b → mask s (unmask s b) ≡ b
  pub mask_own : (s : S) → Good s → (b : Tapes) → Contents m f.draws b
      → (p : Party) → Holds o p → tape p (mask s b) ≡ tape p b
  pub same : (s s' : S) → Good s → Good s' → Same s s'
      → (b b' : Tapes) → Contents m f.draws b → Contents m f.draws b' → mask s b ≡ mask s' b'
      → After (f.result s b) (f.result s' b')
      × ((r : Receiver) → Sees o r → list r (f.received s b) ≡ list r (f.received s' b'))
