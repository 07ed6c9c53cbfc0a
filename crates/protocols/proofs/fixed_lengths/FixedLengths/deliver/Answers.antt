-- `protocols::fixed_lengths::FixedLengths::deliver` meets its contract: the controller receives nothing.
use Rattle.protocols.specs.Place.{controller}
use Rattle.protocols.specs.Lent.{tapes_of, lists_of}
use Rattle.protocols.proofs.Laws.Deliveries.{controller_kept}
use Rattle.protocols.proofs.fixed_lengths.FixedLengths.deliver.Goals as goal

pub returns-clause-done : goal.returns-clause-done
returns-clause-done g c =
    let a = c.args in
    let x = g.Self.FixedLengths.operands a.self.now in
    let l = lists_of a.lists.now in
    controller_kept g.Self.FixedLengths.protocol x a.place (tapes_of a.tapes.now) l.one l.two l.three l.controller _
    (λ v. c.requires.receives x v controller) c.deliver_by_list.ensures
