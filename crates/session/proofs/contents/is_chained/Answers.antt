-- `session::contents::is_chained` meets its contract.
use Rattle.std.proofs.Common.{◌*◌, ◌/◌, length, ◌∙◌, arith}
use Rattle.std.proofs.lemmas.List.{drop_all}
use Rattle.session.specs.Contents.{is_chained}
use Rattle.session.proofs.Laws.Contents.{chain_turn, chain_broken}
use Rattle.session.proofs.contents.is_chained.Goals as goal

pub returns-then-start-at : goal.returns-then-start-at
returns-then-start-at c =
    let l = c.args.contents.now in
    chain_broken l (length l / 2) _ _ _ (omega arith) (omega arith) (rw c.as_chunks.ensures.front at c.if-start-at.true) ∙ c.loop-start.invariant

pub loop-start-preserved : goal.loop-start-preserved
loop-start-preserved c =
    let l = c.args.contents.now in
    rw c.as_chunks.ensures.front
    (chain_turn l (length l / 2) _ _ _ (omega arith) (omega arith) (rw c.as_chunks.ensures.front at c.if-start-at.false) ∙ c.loop-start.invariant)

pub returns : goal.returns
unfolding is_chained
returns c = rw (drop_all (2 * c.loop-start.start-index) c.args.contents.now (omega arith)) at c.loop-start.invariant
