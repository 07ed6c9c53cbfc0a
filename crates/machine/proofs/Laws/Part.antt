-- A protocol on a part of its arguments has the properties of the protocol on that part.
use Prim.Native.Nat.{ℕ}
use mathlib.Core.Path.{◌≡◌, sym, ap, ◌∙◌}
use Rattle.protocols.specs.declared.place.Drawn.{Drawn}
use Rattle.protocols.specs.declared.place.Place.{Place}
use Rattle.protocols.specs.declared.place.Received.{Received}
use Rattle.protocols.specs.Place.{Tapes}
use Rattle.protocols.specs.Protocol.{Protocol, from_part, perform}
use Rattle.protocols.specs.Counts.{HasCounts}
use Rattle.protocols.specs.Blind.{Observer, Blind}
use Rattle.protocols.proofs.Laws.Perform.{perform-from_part}

-- it does the same on arguments with the same part
pub same-on : {S T Z : Type 0} (part : S → T) (f : Protocol T Z) (g h : S) (p : Place) (t : Tapes)
    → part g ≡ part h → perform (from_part part f) g p t ≡ perform (from_part part f) h p t
same-on part f g h p t e = perform-from_part part f g p t ∙ ap (λ s. perform f s p t) e ∙ sym (perform-from_part part f h p t)

-- it has the same counts, if the part is good
pub counted-on : {m : ℕ} {S T Z : Type 0} {f : Protocol T Z} {Good : T → Type 0} {Made : Z → Type 0} {d : Drawn} {k : Received}
    {Have : S → Type 0} (part : S → T)
    → ((s : S) → Have s → Good (part s)) → HasCounts m f Good Made d k → HasCounts m (from_part part f) Have Made d k
counted-on part good e = record {
  drawn = e.drawn;
  long = λ s. e.long (part s);
  delivered = λ s h. e.delivered (part s) (good s h);
  made = λ s h. e.made (part s) (good s h);
}

-- it is blind
pub blind-on : {m : ℕ} {o : Observer} {S T Z : Type 0} {f : Protocol T Z} {Good : T → Type 0} {Same : T → T → Type 0}
    {After : Z → Z → Type 0} {Have : S → Type 0} {Like : S → S → Type 0} (part : S → T)
    → ((s : S) → Have s → Good (part s)) → ((s s' : S) → Like s s' → Same (part s) (part s'))
    → Blind m o f Good Same After → Blind m o (from_part part f) Have Like After
blind-on part good like B = record {
  mask = λ s. B.mask (part s);
  unmask = λ s. B.unmask (part s);
  mask_words = λ s a. B.mask_words (part s) (good s a);
  unmask_words = λ s a. B.unmask_words (part s) (good s a);
  unmask_mask = λ s a. B.unmask_mask (part s) (good s a);
  mask_unmask = λ s a. B.mask_unmask (part s) (good s a);
  mask_own = λ s a. B.mask_own (part s) (good s a);
  same = λ s s' a a' l. B.same (part s) (part s') (good s a) (good s' a') (like s s' l);
}
