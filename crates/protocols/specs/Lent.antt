-- The lent tapes and received lists, as the code holds them; Specification: Lent lists
use Rattle.std.specs.Prelude.{ℕ, ◌≡◌, Option, Some, None, List, []}
use Rattle.std.specs.Borrow.{Bor}
use Rattle.protocols.specs.declared.lent.Lists as code_lists
use Rattle.protocols.specs.declared.lent.Tapes as code_tapes
use Rattle.protocols.specs.declared.place.Place.{Place}
use Rattle.protocols.specs.Place.{Tapes, tapes, Lists, lists}

-- the four tapes
abbrev pub tapes_of : code_tapes.Tapes → Tapes
tapes_of t = tapes t.provider.now t.one.now t.two.now t.three.now

-- the four received lists
abbrev pub lists_of : code_lists.Lists → Lists
lists_of l = lists l.one.now l.two.now l.three.now l.controller.now

-- the same four lists are lent, whatever words they hold
abbrev pub SameLists : code_lists.Lists → code_lists.Lists → Type 0
SameLists a b =
    (b.one.ghost_name ≡ a.one.ghost_name)
    × (b.two.ghost_name ≡ a.two.ghost_name)
    × (b.three.ghost_name ≡ a.three.ghost_name)
    × (b.controller.ghost_name ≡ a.controller.ghost_name)

-- the words of one tape that a draw answers, and the place
abbrev pub lent_words : Option (Bor (List ℕ) × Place) → Option (List ℕ × Place)
lent_words (Some (w, q)) = Some (w.now, q)
lent_words None = None

-- the words of each miner's tape that a draw answers, and the place
abbrev pub lent_blocks : Option ((Bor (List ℕ) × Bor (List ℕ) × Bor (List ℕ)) × Place) → Option (Tapes × Place)
lent_blocks (Some ((a, b, c), q)) = Some (tapes [] a.now b.now c.now, q)
lent_blocks None = None
