-- `compute` of `Decomposition` meets its contract.
use Rattle.std.proofs.Common.{[], refl, ◌∙◌}
use Rattle.protocols.specs.Place.{tapes, lists}
use Rattle.protocols.specs.Counts.{received_counts}
use Rattle.protocols.proofs.Laws.Deliveries.{fronts_whole}
use Rattle.protocols.proofs.Laws.Counts.{rows_at_32}
use Rattle.protocols.proofs.bits.DecompositionFixedLengths15122225.compute.Goals as goal

pub returns-clause-words : goal.returns-clause-words
returns-clause-words c x e =
    let a = c.args in
    let long = rows_at_32.bits_row.long a.u (tapes [] a.tape1.now a.tape2.now a.tape3.now) in
    rw e at (c.rounds.ensures.sent
    ∙ fronts_whole (lists a.one.now a.two.now a.three.now []) _ (received_counts 22 25 25 0) long c.told-one c.told-two c.told-three refl)
