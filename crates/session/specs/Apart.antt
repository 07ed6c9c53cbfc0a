-- Sessions played by parties apart; Specification: Parties apart.
use Rattle.std.specs.Prelude.{ℕ, List}
use Rattle.machine.specs.declared.code.Command.{Command}
use Rattle.machine.specs.declared.lent.Sizes.{Sizes}
use Rattle.machine.specs.Run.{empty_place}
use Rattle.machine.specs.Apart.{HasPrograms}
use Rattle.session.specs.Session.{state_of, run_of}
use Rattle.session.specs.Claims.{sheet_with}

-- promised by `session_apart`: the commands, the lengths of the lent lists and the kinds fix four programs, which leave
-- what the run of every sheet with these commands leaves; if a session of such a sheet is taken, that run is its run
abbrev pub SessionApart : List Command → Sizes → List ℕ → Type 0
SessionApart cs z k = HasPrograms (λ p l. run_of (sheet_with cs l.inputs l.tapes) (state_of l)) empty_place z k
