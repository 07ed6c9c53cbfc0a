-- `session::words::put_words` meets its contract.
use Rattle.std.proofs.Common.{take_all, arith}
use Rattle.session.specs.Words.{words_of}
use Rattle.session.proofs.Laws.Words.{length-words_of, decode_turn}
use Rattle.session.proofs.words.put_words.Goals as goal

pub loop-i-preserved : goal.loop-i-preserved
loop-i-preserved c =
    let l = c.loop-i in
    decode_turn c.args.words.now c.args.bytes.now l.words c.as_chunks.result.0.now c.args.at l.i c.from_le_bytes.result c.as_chunks.ensures.front (omega arith)
    c.from_le_bytes.ensures l.invariant

pub returns : goal.returns
returns c =
    rw (take_all c.loop-i.i (words_of c.args.bytes.now) (omega (arith, length-words_of c.args.bytes.now))) at c.loop-i.invariant
