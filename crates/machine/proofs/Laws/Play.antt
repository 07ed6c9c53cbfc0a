-- What a command's protocol delivers, if it draws and sends nothing, and if it works on a part of the arguments;
-- src/commands.rt uses both.
use Prim.Native.Nat.{ℕ, ◌+◌}
use mathlib.Core.Path.{◌≡◌, sym, ap, ◌∙◌}
use native.Mathlib.Omega.{arith}
use Rattle.protocols.specs.declared.place.Drawn.{Drawn}
use Rattle.protocols.specs.declared.place.Party.{Party}
use Rattle.protocols.specs.declared.place.Party.TheVariants.{Provider, One, Two, Three}
use Rattle.protocols.specs.declared.place.Place.{Place}
use Rattle.protocols.specs.declared.shares.Shares.{Shares}
use Rattle.protocols.specs.Place.{Tapes, Lists, counts, count, silence, advance, block}
use Rattle.protocols.specs.Protocol.{Protocol, from_part, ProtocolAnswer, done, perform}
use Rattle.protocols.specs.Outcome.{Delivery, success, delivery_of, delivery}
use Rattle.protocols.specs.Claims.{Lacks}
use Rattle.protocols.proofs.Laws.Deliveries.{delivery-silence}
use Rattle.protocols.proofs.Laws.Perform.{on_tapes, perform-from_part}

-- ---- a protocol that draws nothing and sends nothing

plus_zero : (n : ℕ) → n + 0 ≡ n
plus_zero n = omega arith

unmoved : (p : Place) → advance p (counts 0 0 0 0) ≡ p
unmoved p = λ i. record {
  handles = p.handles;
  inputs = p.inputs;
  drawn = counts (plus_zero p.drawn.provider i) (plus_zero p.drawn.one i) (plus_zero p.drawn.two i) (plus_zero p.drawn.three i);
  received = p.received;
}

none_lacks : {d : Drawn} (p : Place) (t : Tapes) → d ≡ counts 0 0 0 0 → (i : Party) → ¬ Lacks d p t i
none_lacks {d} p t e i lacks = omega (arith, lacks, none i)
  where
    none : (i : Party) → count i d ≡ 0
    none Provider = λ j. (e j).provider
    none One = λ j. (e j).one
    none Two = λ j. (e j).two
    none Three = λ j. (e j).three

-- it delivers its result and nothing else
pub delivery_without_draws : {S : Type 0} (f : Protocol S Shares) (s : S) (p : Place) (t : Tapes) (l : Lists) {x : Shares}
    → f.draws ≡ counts 0 0 0 0 → f.received s (block f.draws p t) ≡ silence → x ≡ f.result s (block f.draws p t)
    → delivery_of (success x p) l ≡ delivery p (perform f s p t) l
delivery_without_draws f s p t l ed er ex =
    let w = block f.draws p t in
    (λ i. delivery_of (success (ex i) p) l)
    ∙ delivery-silence (f.result s w) p p l
    ∙ ap (λ (a : ProtocolAnswer Shares). delivery p a l)
    (sym ((on_tapes f s p t).done_if (none_lacks p t ed)
    ∙ (λ i. done (f.result s w) (er i) (advance p (ed i)))
    ∙ ap (done (f.result s w) silence) (unmoved p)))

-- ---- a protocol on a part of the arguments

pub delivery_from_part : {S Z : Type 0} (part : S → Z) (f : Protocol Z Shares) (s : S) (p : Place) (t : Tapes) (l : Lists) {r : Delivery}
    → r ≡ delivery p (perform f (part s) p t) l → r ≡ delivery p (perform (from_part part f) s p t) l
delivery_from_part part f s p t l h = h ∙ ap (λ (a : ProtocolAnswer Shares). delivery p a l) (sym (perform-from_part part f s p t))
