-- The refusals as the code names them, and their numbers; Specification: Table of refusals.
use Rattle.std.specs.Prelude.{ℕ, nat_eq, List, [], ◌∷◌, Option, Result, Ok, Err}
use Rattle.std.specs.List.{find}
use Rattle.protocols.specs.declared.outcome.Shortage.{Shortage}
use Rattle.protocols.specs.declared.outcome.Shortage.TheVariants as shortage
use Rattle.machine.specs.declared.refusal.Refusal.{Refusal}
use Rattle.machine.specs.declared.refusal.Refusal.TheVariants.{NotWhole, ContentsBroken, OverLimit, LentUnsoundly}
use Rattle.machine.specs.declared.refusal.Refusal.TheVariants.{UnknownCode, FieldNotZero, HandleNotFilled}
use Rattle.machine.specs.declared.refusal.Refusal.TheVariants.{WrongKind, PositionOutside, TablesFull, InputsUsed}
use Rattle.machine.specs.declared.refusal.Refusal.TheVariants.{TapeSpent, ListFull}

-- a refusal's number: 1 to 4 of a session, 4 to 13 of a command; Specification: Table of refusals
abbrev pub refusal_number : Refusal → ℕ
refusal_number NotWhole = 1
refusal_number ContentsBroken = 2
refusal_number OverLimit = 3
refusal_number LentUnsoundly = 4
refusal_number UnknownCode = 5
refusal_number FieldNotZero = 6
refusal_number HandleNotFilled = 7
refusal_number WrongKind = 8
refusal_number PositionOutside = 9
refusal_number TablesFull = 10
refusal_number InputsUsed = 11
refusal_number TapeSpent = 12
refusal_number ListFull = 13

-- all refusals, in the order of the table; Specification: Table of refusals
abbrev pub refusals : List Refusal
refusals =
    NotWhole ∷ ContentsBroken ∷ OverLimit ∷ LentUnsoundly ∷ UnknownCode ∷ FieldNotZero ∷ HandleNotFilled ∷ WrongKind
    ∷ PositionOutside ∷ TablesFull ∷ InputsUsed ∷ TapeSpent ∷ ListFull ∷ []

-- the refusal with the number k, if there is one
abbrev pub refusal_numbered : ℕ → Option Refusal
refusal_numbered k = find (λ r. nat_eq k (refusal_number r)) refusals

-- 0 for a success, else the refusal's number; Specification: Answers
abbrev pub result_number : {T : Type 0} → Result T Refusal → ℕ
result_number (Ok x) = 0
result_number (Err r) = refusal_number r

-- refusal 12 or 13, if the protocol lacks words on a tape or room in a list; Specification: Table of refusals
abbrev pub shortage_refusal : Shortage → Refusal
shortage_refusal shortage.TapeSpent = TapeSpent
shortage_refusal shortage.ListFull = ListFull
