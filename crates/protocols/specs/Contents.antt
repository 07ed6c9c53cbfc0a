-- What a tape, a block of drawn words or a received list may hold: a number of words below m; Specification: Words
use Rattle.std.specs.Prelude.{◌≡◌, ℕ, ◌<◌, List, [], ◌∷◌, length}
use Rattle.protocols.specs.declared.place.Party.{Party}
use Rattle.protocols.specs.declared.place.Drawn.{Drawn}
use Rattle.protocols.specs.Place.{Tapes, tape, count}

-- each word of the list is below m
abbrev pub AllBelow : ℕ → List ℕ → Type 0
AllBelow m [] = Unit {0}
AllBelow m (x ∷ l) = (x < m) × AllBelow m l

-- a list of n words below m
pub record Words (m n : ℕ) (l : List ℕ) : Type 0 where
  pub long : length l ≡ n
  pub below : AllBelow m l

-- four tapes of n words, all below m
abbrev pub Contents : ℕ → Drawn → Tapes → Type 0
Contents m n t = (p : Party) → Words m (count p n) (tape p t)
