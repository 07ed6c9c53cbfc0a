-- `protocols::fixed_lengths::FixedLengths::deliver_by_list` meets its contract.
use Rattle.std.proofs.Common.{[]}
use Rattle.protocols.specs.Place.{tapes, lists, counts}
use Rattle.protocols.specs.Counts.{received_counts}
use Rattle.protocols.specs.Lent.{tapes_of}
use Rattle.protocols.proofs.Laws.Deliveries.{room_lacks, due_fits, fronts_written}
use Rattle.protocols.proofs.Laws.Lent.{rooms}
use Rattle.protocols.proofs.Laws.Drawn.{spent_delivers, delivery_drawn, block_drawn}
use Rattle.protocols.proofs.fixed_lengths.FixedLengths.deliver_by_list.Goals as goal

pub returns-in_default : goal.returns-in_default
returns-in_default g c =
    let a = c.args in
    let x = g.Self.FixedLengths.operands a.self.now in
    let n = g.row in
    spent_delivers g.Self.FixedLengths.protocol (counts 0 n.D1 n.D n.D) c.requires.draws x a.place (tapes_of a.tapes)
    c.in_default.is c.draw_block.ensures (lists a.one.now a.two.now a.three.now [])

pub returns-then-not-have_room : goal.returns-then-not-have_room
returns-then-not-have_room g c =
    let a = c.args in
    let x = g.Self.FixedLengths.operands a.self.now in
    let n = g.row in
    let d = block_drawn _ _ _ c.in-Some.is c.draw_block.ensures in
    room_lacks g.Self.FixedLengths.protocol (counts 0 n.D1 n.D n.D) c.requires.draws x a.place (tapes_of a.tapes)
    (lists a.one.now a.two.now a.three.now []) (received_counts n.R1 n.R n.R 0) c.requires.receives d.0 (cc)

pub returns : goal.returns
returns g c =
    let a = c.args in
    let x = g.Self.FixedLengths.operands a.self.now in
    let n = g.row in
    let k = received_counts n.R1 n.R n.R 0 in
    let f = g.Self.FixedLengths.protocol in
    let l = lists a.one.now a.two.now a.three.now [] in
    let w = tapes [] c.in-Some.tape1.now c.in-Some.tape2.now c.in-Some.tape3.now in
    let long = c.requires.receives in
    let room = due_fits n.R1 n.R n.R l (rooms n.R1 n.R n.R l (cc)) in
    delivery_drawn f (counts 0 n.D1 n.D n.D) c.requires.draws x a.place (tapes_of a.tapes)
    c.in-Some.is c.draw_block.ensures k long room
    (c.compute.ensures.shares x c.input-input.ensures, fronts_written l (f.received x w) k (long x w) room (c.compute.ensures.words x c.input-input.ensures))
