-- `session::words::decode` meets its contract.
use Rattle.std.proofs.Common.{◌≡◌, ◌/◌, length, refl, arith}
use Rattle.session.proofs.Laws.Words.{block_turn, rest_turn}
use Rattle.session.proofs.words.decode.Goals as goal

pub loop-i-preserved : goal.loop-i-preserved
loop-i-preserved c =
    let l = c.loop-i in
    rw c.put_block.ensures (block_turn c.args.words.now c.args.file.now l.words _ c.as_chunks.result.0.now l.i c.as_chunks.ensures.front (omega arith) refl l.invariant)

pub returns : goal.returns
returns c =
    let e : c.loop-i.i ≡ length c.args.file.now / 16 = omega arith in
    rw (c.put_words.ensures, c.as_chunks.ensures.front_len)
    (rest_turn c.args.words.now c.args.file.now c.loop-i.words _ c.requires c.as_chunks.ensures.back (rw e at c.loop-i.invariant))
