-- `compute` of `HighestBit` meets its contract.
use Rattle.std.proofs.Common.{◌∙◌, [], refl, sym, ap, arith}
use Rattle.protocols.specs.Word.{modulus}
use Rattle.protocols.specs.Place.{tapes, lists}
use Rattle.protocols.specs.Counts.{received_counts}
use Rattle.protocols.specs.Outcome.{with_fronts}
use Rattle.protocols.specs.Local.{difference}
use Rattle.protocols.specs.Bits.{bits}
use Rattle.protocols.specs.Below.{below}
use Rattle.protocols.proofs.Laws.Deliveries.{due_fits, fronts_whole}
use Rattle.protocols.proofs.Laws.Drawn.{bit_last, first_words, last_words, below_parts}
use Rattle.protocols.proofs.Laws.Counts.{rows_at_32}
use Rattle.protocols.proofs.below.HighestBitFixedLengths18122228.compute.Goals as goal

pub returns-clause-shares : goal.returns-clause-shares
returns-clause-shares c x e =
    let a = c.args in
    let w = tapes [] a.tape1.now a.tape2.now a.tape3.now in
    let parts = below_parts x w (refl, c.told-tape1, c.told-tape2, c.told-tape3) in
    let word = rw e at c.rounds-word.ensures.shares in
    (rw word at c.convert.ensures.shares) ∙ sym parts.0

pub returns-clause-words : goal.returns-clause-words
returns-clause-words c x e =
    let a = c.args in
    let l = lists a.one.now a.two.now a.three.now [] in
    let w = tapes [] a.tape1.now a.tape2.now a.tape3.now in
    let u = difference (modulus 5) x in
    let f = first_words 15 w in
    let parts = below_parts x w (refl, c.told-tape1, c.told-tape2, c.told-tape3) in
    let long = rows_at_32.below_row.long x w in
    let room = due_fits 22 28 28 l (omega (arith, c.told-one), omega (arith, c.told-two), omega (arith, c.told-three)) in
    let word = rw e at c.rounds-word.ensures.shares in
    let sent = rw e at c.rounds-word.ensures.sent in
    let bit = rw word at c.convert.ensures.sent in
    bit_last (modulus 5) 31 l _ ((bits 5).received u f) (received_counts 22 25 25 0) (rows_at_32.bits_row.long u f) sent room c.told-two c.told-three _ (last_words 15 w) bit
    ∙ ap (with_fronts l) (sym parts.1)
    ∙ fronts_whole l ((below 5).received x w) (received_counts 22 28 28 0) long c.told-one c.told-two c.told-three refl
