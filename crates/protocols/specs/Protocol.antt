-- A protocol or a part of one: what it draws, what the miners hold after it, and what each party receives.
use Rattle.std.specs.Prelude.{ℕ, zero, suc, cond}
use Rattle.protocols.specs.declared.place.Drawn.{Drawn}
use Rattle.protocols.specs.declared.place.Place.{Place}
use Rattle.protocols.specs.Place.{Tapes, Lists, counts, plus, cut, rest, silence, ◌followed_by◌, advance, enough, block}

-- From what the miners hold before it, of type S, and from as many words of each tape as `draws` counts, a protocol
-- makes what the miners hold after it, of type T, and the words that each party receives.
pub record Protocol (S T : Type 0) : Type 0 where
  pub draws : Drawn
  pub result : S → Tapes → T
  pub received : S → Tapes → Lists

-- a step that draws and sends nothing; Specification: Local commands
abbrev pub locally : {S T : Type 0} → (S → T) → Protocol S T
locally f = record { draws = counts 0 0 0 0; result = λ s b. f s; received = λ s b. silence }

-- f on a part of what is held
abbrev pub from_part : {S T Z : Type 0} → (S → T) → Protocol T Z → Protocol S Z
from_part part f =
    record { draws = f.draws; result = λ s b. f.result (part s) b; received = λ s b. f.received (part s) b }

infixr 20 ◌then◌
-- f, then g; Specification: Order of words
unfoldable pub ◌then◌ : {S T Z : Type 0} → Protocol S T → Protocol T Z → Protocol S Z
◌then◌ f g = record {
  draws = plus f.draws g.draws;
  result = λ s b. g.result (f.result s (cut f.draws b)) (rest f.draws b);
  received = λ s b. f.received s (cut f.draws b) followed_by g.received (f.result s (cut f.draws b)) (rest f.draws b);
}

-- f, then the first k of the rounds g
abbrev pub with_rounds : {S T : Type 0} → Protocol S T → (ℕ → Protocol T T) → ℕ → Protocol S T
with_rounds f g zero = f
with_rounds f g (suc k) = with_rounds f g k then g k

-- ---- a protocol on lent tapes, from a place

-- done, with what the miners hold, the received words and the moved place; or spent
pub data ProtocolAnswer (T : Type 0) : Type 0 where
  done : T → Lists → Place → ProtocolAnswer T
  spent : ProtocolAnswer T

-- spent exactly if a tape has too few words left; otherwise done on the next words of each tape; Specification: Draws
unfoldable pub perform : {S T : Type 0} → Protocol S T → S → Place → Tapes → ProtocolAnswer T
perform f s p t =
    let b = block f.draws p t in
    cond (enough f.draws p t) (done (f.result s b) (f.received s b) (advance p f.draws)) spent
