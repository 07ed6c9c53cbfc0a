-- `session::contents::is_within_limits` meets its contract.
use Rattle.std.proofs.Common.{◌/◌, length, rules, arith}
use Rattle.std.proofs.iter.runs.Made.{chains}
use Rattle.session.specs.Contents.{limits}
use Rattle.session.proofs.Laws.Contents.{each_within}
use Rattle.session.proofs.contents.is_within_limits.Goals as goal

pub returns : goal.returns
returns c = each_within limits c.args.contents.now (length c.args.contents.now / 2) c.all.result (omega arith) (omega arith) (search (rules, chains))
