-- `protocols::list::put` meets its contract.
use Rattle.std.proofs.Common.{refl, sym, ◌∙◌, length-set, arith}
use Rattle.protocols.proofs.Laws.Puts.{sets-start, sets_turn, sets_end}
use Rattle.protocols.proofs.list.put.Goals as goal

pub loop-k-init : goal.loop-k-init
loop-k-init c = (refl, sets-start c.args.list.now c.args.words.now c.args.at)

pub loop-k-preserved : goal.loop-k-preserved
loop-k-preserved c =
    let i = c.loop-k.invariant in
    (length-set c.loop-k.list _ _ ∙ i.0, sets_turn c.loop-k.list c.args.words.now c.args.at c.loop-k.k c.loop-k-test.true ∙ i.1)

pub returns : goal.returns
returns c =
    let i = c.loop-k.invariant in
    sym (sets_end c.loop-k.list c.args.words.now c.args.at c.loop-k.k (omega arith)) ∙ i.1
