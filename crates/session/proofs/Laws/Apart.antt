-- Every session with these commands is played by parties apart.
use Rattle.std.proofs.Common.{ℕ, List}
use Rattle.machine.specs.declared.code.Command.{Command}
use Rattle.machine.specs.declared.lent.Sizes.{Sizes}
use Rattle.machine.specs.Run.{empty_place}
use Rattle.machine.proofs.Laws.Apart.{run_apart_to_refusal}
use Rattle.session.specs.Apart.{SessionApart}

pub session_apart : (cs : List Command) (z : Sizes) (k : List ℕ) → SessionApart cs z k
session_apart cs z k = run_apart_to_refusal 5 cs empty_place z k
