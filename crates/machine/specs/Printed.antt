-- The texts of a refusal and of a kind; Specification: Sentences.
use Rattle.std.specs.Prelude.{ℕ, List, [], ◌++◌, codes, decimal, Option, None, Some}
use Rattle.protocols.specs.declared.outcome.Shortage.TheVariants as shortage
use Rattle.protocols.specs.Printed as protocols
use Rattle.machine.specs.declared.kind.Kind.{Kind}
use Rattle.machine.specs.declared.kind.Kind.TheVariants.{RingValue, BitWord}
use Rattle.machine.specs.declared.refusal.Refusal.{Refusal}
use Rattle.machine.specs.declared.refusal.Refusal.TheVariants.{NotWhole, ContentsBroken, OverLimit, LentUnsoundly}
use Rattle.machine.specs.declared.refusal.Refusal.TheVariants.{UnknownCode, FieldNotZero, HandleNotFilled}
use Rattle.machine.specs.declared.refusal.Refusal.TheVariants.{WrongKind, PositionOutside, TablesFull, InputsUsed}
use Rattle.machine.specs.declared.refusal.Refusal.TheVariants.{TapeSpent, ListFull}
use Rattle.machine.specs.Refusal.{refusal_number, refusal_numbered}

-- a refusal's sentence; Specification: Sentences
abbrev pub sentence : Refusal → List ℕ
sentence NotWhole = codes "the file is under 48 bytes or ends within a word; send the whole file, 4 bytes a word"
sentence ContentsBroken =
    codes "the bodies do not follow one another to the file's end; correct their starts and counts"
sentence OverLimit =
    codes "a body is over its limit or the last command is incomplete; shorten the body or complete the command"
sentence LentUnsoundly =
    codes "the lent lists do not fit; check their lengths, the kinds, the place record and a session's words"
sentence UnknownCode = codes "no command has this code; take one from the table of commands"
sentence FieldNotZero = codes "a field that the command does not use is not 0; set it to 0"
sentence HandleNotFilled = codes "a handle is 0 or not filled; name one that an earlier command filled"
sentence WrongKind = codes "a handle holds the wrong kind of value; make a bit word by bits, or a ring value by bit"
sentence PositionOutside = codes "a bit position is past the highest bit; take one from 0 to 31"
sentence TablesFull = codes "the share tables have no entry left for the new value; lend longer tables and kinds"
sentence InputsUsed = codes "all inputs are used; lend one for each store"
sentence TapeSpent = protocols.shortage shortage.TapeSpent
sentence ListFull = protocols.shortage shortage.ListFull

-- a refusal in words: `refused R: ` and its sentence; Specification: Sentences
abbrev pub refusal : Refusal → List ℕ
refusal r = codes "refused " ++ decimal (refusal_number r) ++ codes ": " ++ sentence r

-- the text of a refusal, if there is one, else no text
abbrev pub text_of : Option Refusal → List ℕ
text_of None = []
text_of (Some r) = refusal r

-- the text of refusal k, or no text if no refusal has this number; Specification: Sentences
abbrev pub refusal_text : ℕ → List ℕ
refusal_text k = text_of (refusal_numbered k)

-- a kind's name
abbrev pub kind : Kind → List ℕ
kind RingValue = codes "ring value"
kind BitWord = codes "bit word"
