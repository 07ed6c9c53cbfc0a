-- What the words on the command line name.
use Rattle.std.specs.Prelude.{◌≡◌, ℕ, List, Option, None, Some, Result, IfOk, IfErr, true, if◌then◌else◌}
use Rattle.std.specs.Prelude.{bytes_eq, codes, option_map}
use Rattle.std.specs.Borrow.{Bor}
use Rattle.clap.specs.Words.{App, first_of, kind_of, matches_of, new_app, new_rule, with_rule}
use Rattle.clap.specs.Simple.{on_top}
use Rattle.clap.specs.declared.error.Error.{Error}
use Rattle.clap.specs.declared.error.kind.ErrorKind.TheVariants.{OutOfMemory}

-- The command line: one file, which may be left out, and a version.
abbrev pub line : App
line = with_rule (on_top (λ s. record s { has_version = true }) (new_app (codes "pool"))) (new_rule (codes "FILE"))

-- The result is this file, or no file, or an error for lack of memory.
abbrev pub Names : Option (List ℕ) → Result (Option (Bor (List ℕ))) Error → Type 0
Names file r = IfOk r (λ f. option_map (λ s. s.now) f ≡ file) × IfErr r (λ e. kind_of e ≡ OutOfMemory)

-- The same name, but none for a hyphen alone, which stands for standard input.
abbrev pub but_hyphen : Option (List ℕ) → Option (List ℕ)
but_hyphen None = None
but_hyphen (Some name) = if bytes_eq name (codes "-") then None else Some name

-- The file that the words name, the program's name first, if the command line takes them.
abbrev pub file_of : List (List ℕ) → Option (List ℕ)
file_of words = but_hyphen (first_of (codes "FILE") (matches_of line words))
