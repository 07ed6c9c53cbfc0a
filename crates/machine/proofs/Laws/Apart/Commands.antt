-- Each command, and each list of commands, is a protocol that parties apart can play.
use Rattle.std.proofs.Common.{ℕ, List, [], ◌∷◌, get_or, refl}
use Rattle.protocols.specs.declared.place.Party.{Party}
use Rattle.protocols.specs.declared.place.Party.TheVariants.{Provider, One, Two, Three}
use Rattle.protocols.specs.declared.place.Place.{Place}
use Rattle.protocols.specs.Parties.{PlayedApart}
use Rattle.protocols.proofs.Laws.Apart.Compose.{apart_then, apart-locally, apart-unused, apart-within}
use Rattle.machine.specs.declared.code.Command.{Command}
use Rattle.machine.specs.declared.lent.Sizes.{Sizes}
use Rattle.machine.specs.declared.row.Row.{Row}
use Rattle.machine.specs.Table.{row}
use Rattle.machine.specs.Lent.{entry}
use Rattle.machine.specs.Verdict.{Verdict, Accepted, Refused, verdict}
use Rattle.machine.specs.Command.{with_entry}
use Rattle.machine.specs.Apart.{own_part}
use Rattle.machine.proofs.Laws.Lawful.{OwnArguments, lawful}
use Rattle.machine.proofs.Laws.Agree.{takes}
use Rattle.machine.proofs.Laws.Blind.Public.{place_after, kinds_after}
use Rattle.machine.proofs.Laws.Blind.RunProtocol.{step_protocol, run_protocol}

-- ---- a command

-- the arguments that a party takes from its own part; command and place are public
abbrev taken : Command → Place → Party → List ℕ → OwnArguments
taken c p Provider h = record { input = get_or h p.inputs 0; u = 0; v = 0 }
taken c p One h = record { input = 0; u = entry h c.a; v = entry h c.b }
taken c p Two h = record { input = 0; u = entry h c.a; v = entry h c.b }
taken c p Three h = record { input = 0; u = entry h c.a; v = entry h c.b }

-- its own part after the command, where w is its share of the new value
abbrev left_with : Row → Place → Party → List ℕ → ℕ → List ℕ
left_with x p Provider h w = h
left_with x p One h w = with_entry x.values h p.handles w
left_with x p Two h w = with_entry x.values h p.handles w
left_with x p Three h w = with_entry x.values h p.handles w

step_apart : (n : ℕ) (v : Verdict) (c : Command) (p : Place) → PlayedApart (step_protocol n v c p) own_part own_part
step_apart n (Accepted x) c p =
    apart-within (λ l. takes n c p l x) (taken c p) (left_with (row n x) p)
    (elim [ Provider ↦ λ l. refl | One ↦ λ l. refl | Two ↦ λ l. refl | Three ↦ λ l. refl ])
    (elim [ Provider ↦ λ l b. refl | One ↦ λ l b. refl | Two ↦ λ l b. refl | Three ↦ λ l b. refl ])
    (λ l b. refl)
    ((lawful x).apart n c.b)
step_apart n (Refused r) c p = apart-locally (λ i h. h) (λ i l. refl)

-- ---- a list of commands

pub commands_apart : (n : ℕ) (cs : List Command) (p : Place) (z : Sizes) (k : List ℕ)
    → PlayedApart (run_protocol n cs p z k) own_part own_part
unfolding run_protocol
commands_apart n [] p z k = apart-unused own_part _
commands_apart n (c ∷ cs) p z k =
    let v = verdict n c p z k in
    apart_then (step_apart n v c p) (commands_apart n cs (place_after n v p) z (kinds_after n v p k))
