-- Draws from every miner's tape at once; Specification: Draws
use Rattle.std.specs.Prelude.{cond}
use Rattle.protocols.specs.declared.place.Drawn.{Drawn}
use Rattle.protocols.specs.declared.place.Place.{Place}
use Rattle.protocols.specs.declared.shares.Shares.{Shares}
use Rattle.protocols.specs.Place.{Tapes, counts, words, advance, Draw, draw_of, spent_draw, enough, block}

-- a part of the next n words of each tape, or spent if a tape has fewer left
abbrev pub draw_part : {T : Type 0} → Drawn → (Tapes → T) → Place → Tapes → Draw T
draw_part n part p t = cond (enough n p t) (draw_of (part (block n p t)) (advance p n)) (spent_draw p)

-- the next word of each miner's tape
unfoldable pub draw_each : Place → Tapes → Draw Shares
draw_each = draw_part (counts 0 1 1 1) (λ b. words b 0)

-- the next two words of each miner's tape: the first ones, then the second ones
unfoldable pub draw_pairs : Place → Tapes → Draw (Shares × Shares)
draw_pairs = draw_part {T = Shares × Shares} (counts 0 2 2 2) (λ b. (words b 0, words b 1))

-- the next n words of each tape
unfoldable pub draw_block : Drawn → Place → Tapes → Draw Tapes
draw_block n = draw_part n (λ b. b)
