-- The text of counts, of shares and of a shortage.
use Rattle.std.specs.Prelude.{ℕ, List, [], ◌∷◌, ◌++◌, codes, decimal, flat_map}
use Rattle.protocols.specs.declared.place.Drawn.{Drawn}
use Rattle.protocols.specs.declared.place.Received.{Received}
use Rattle.protocols.specs.declared.place.Place.{Place}
use Rattle.protocols.specs.declared.shares.Shares.{Shares}
use Rattle.protocols.specs.declared.outcome.Shortage.{Shortage}
use Rattle.protocols.specs.declared.outcome.Shortage.TheVariants.{TapeSpent, ListFull}

-- numbers in decimal, a space between two
abbrev pub decimals : List ℕ → List ℕ
decimals [] = []
decimals (n ∷ rest) = decimal n ++ flat_map (λ m. codes " " ++ decimal m) rest

-- provider, miners 1, 2, 3
abbrev pub drawn_text : Drawn → List ℕ
drawn_text n = decimals (n.provider ∷ n.one ∷ n.two ∷ n.three ∷ [])

-- miners 1, 2, 3, controller
abbrev pub received_text : Received → List ℕ
received_text n = decimals (n.one ∷ n.two ∷ n.three ∷ n.controller ∷ [])

-- the ten counts, in the order of Specification: Place record
abbrev pub place_text : Place → List ℕ
place_text p =
    decimals (p.handles ∷ p.inputs ∷ []) ++ codes " " ++ drawn_text p.drawn ++ codes " " ++ received_text p.received

-- miners 1, 2, 3
abbrev pub shares_text : Shares → List ℕ
shares_text s = decimals (s.one ∷ s.two ∷ s.three ∷ [])

-- the sentences of refusals 12 and 13; Specification: Sentences
abbrev pub shortage : Shortage → List ℕ
shortage TapeSpent = codes "a tape has fewer words left than are drawn from it; lend more random words"
shortage ListFull = codes "a received list has room for fewer words than are sent to it; lend a longer list"
