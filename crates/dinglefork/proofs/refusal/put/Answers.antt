-- `dinglefork::refusal::put` meets its contract.
use Rattle.std.proofs.Common.{arith}
use Rattle.dinglefork.proofs.Texts.{put_over}
use Rattle.dinglefork.proofs.refusal.put.Goals as goal

pub returns-clause-bytes : goal.returns-clause-bytes
returns-clause-bytes c =
    let a = c.args in
    put_over a.out.now a.part.now _ a.at _ c.copy_from_slice.ensures.after (omega arith) c.requires
