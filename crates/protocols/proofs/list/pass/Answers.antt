-- `protocols::list::pass` meets its contract.
use Rattle.std.proofs.Common.{[], length-set, ◌∙◌}
use Rattle.protocols.specs.Place.{lists}
use Rattle.protocols.proofs.Laws.Puts.{puts_next}
use Rattle.protocols.proofs.list.pass.Goals as goal

pub loop-k-preserved : goal.loop-k-preserved
loop-k-preserved c =
    let i = c.loop-k.invariant in
    let a = c.args in
    let l = c.loop-k in (
      length-set l.list1 _ _ ∙ i.0,
      length-set l.list2 _ _ ∙ i.1,
      length-set l.list3 _ _ ∙ i.2,
      puts_next a.first a.at l.k a.words.now _ (lists a.list1.now a.list2.now a.list3.now []) (lists l.list1 l.list2 l.list3 []) c.loop-k-test.true i.3,
    )
