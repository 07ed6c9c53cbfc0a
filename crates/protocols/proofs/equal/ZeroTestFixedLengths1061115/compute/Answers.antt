-- `compute` of `ZeroTest` meets its contract.
use Rattle.std.proofs.Common.{◌∙◌, [], refl, sym, ap, arith}
use Rattle.protocols.specs.Word.{modulus}
use Rattle.protocols.specs.Place.{tapes, lists}
use Rattle.protocols.specs.Counts.{received_counts}
use Rattle.protocols.specs.Outcome.{with_fronts}
use Rattle.protocols.specs.Equal.{folds, equal}
use Rattle.protocols.proofs.Laws.Deliveries.{due_fits, fronts_whole}
use Rattle.protocols.proofs.Laws.Drawn.{bit_last, first_words, last_words, equal_parts, folds_long}
use Rattle.protocols.proofs.Laws.Counts.{rows_at_32}
use Rattle.protocols.proofs.equal.ZeroTestFixedLengths1061115.compute.Goals as goal

pub returns-clause-shares : goal.returns-clause-shares
returns-clause-shares c x e =
    let a = c.args in
    let w = tapes [] a.tape1.now a.tape2.now a.tape3.now in
    let parts = equal_parts x w (refl, c.told-tape1, c.told-tape2, c.told-tape3) in
    let word = c.folds-word.ensures.shares x e in
    (rw word at c.convert.ensures.shares) ∙ sym parts.0

pub returns-clause-words : goal.returns-clause-words
returns-clause-words c x e =
    let a = c.args in
    let l = lists a.one.now a.two.now a.three.now [] in
    let w = tapes [] a.tape1.now a.tape2.now a.tape3.now in
    let f = first_words 7 w in
    let parts = equal_parts x w (refl, c.told-tape1, c.told-tape2, c.told-tape3) in
    let long = rows_at_32.equal_row.long x w in
    let room = due_fits 11 15 15 l (omega (arith, c.told-one), omega (arith, c.told-two), omega (arith, c.told-three)) in
    let word = c.folds-word.ensures.shares x e in
    let bit = rw word at c.convert.ensures.sent in
    bit_last (modulus 5) 0 l _ ((folds 5 5).received x f) (received_counts 11 12 12 0) (folds_long x f) (c.folds-word.ensures.sent x e) room c.told-two c.told-three _ (last_words 7 w) bit
    ∙ ap (with_fronts l) (sym parts.1)
    ∙ fronts_whole l ((equal 5).received x w) (received_counts 11 15 15 0) long c.told-one c.told-two c.told-three refl
