-- Pairings of tape contents: from a blind protocol, with one tape fixed, and for what depends on the contents.
use Prim.Native.Nat.{ℕ}
use mathlib.Core.Path.{◌≡◌, sym, ap, ◌∙◌}
use mathlib.Core.List.{List}
use Rattle.protocols.specs.declared.place.Party.{Party}
use Rattle.protocols.specs.declared.place.Drawn.{Drawn}
use Rattle.protocols.specs.Place.{Tapes, tape}
use Rattle.protocols.specs.Protocol.{Protocol}
use Rattle.protocols.specs.Contents.{Contents}
use Rattle.protocols.specs.Blind.{Observer, Holds, Blind}
use Rattle.machine.specs.Pairing.{Pairing}

-- the tapes that the observer has are the same
abbrev pub SameOwn : Observer → Tapes → Tapes → Type 0
SameOwn o t t' = (p : Party) → Holds o p → tape p t' ≡ tape p t

-- a blind protocol pairs the contents: masked with the operands s, then unmasked with s'
pub pairs : {m : ℕ} {o : Observer} {S T : Type 0} {f : Protocol S T} {Good : S → Type 0} {Same : S → S → Type 0} {After : T → T → Type 0}
    → Blind m o f Good Same After → (s s' : S) → Good s → Good s' → Same s s'
    → Pairing (Contents m f.draws) (λ t t'. After (f.result s t) (f.result s' t') × SameOwn o t t')
pairs {m} {o} {f = f} B s s' a a' e = record {
  to = λ t. B.unmask s' (B.mask s t);
  to_ok = λ t h. B.unmask_words s' a' _ (B.mask_words s a t h);
  one_to_one = λ t t' h h' k. sym (back t h) ∙ ap (λ (u : Tapes). B.unmask s (B.mask s' u)) k ∙ back t' h';
  none_left_over = λ u h. (
    B.unmask s (B.mask s' u),
    B.unmask_words s a _ (B.mask_words s' a' u h),
    ap (B.unmask s') (B.mask_unmask s a _ (B.mask_words s' a' u h)) ∙ B.unmask_mask s' a' u h,
  );
  alike = λ t h.
      let t' = B.unmask s' (B.mask s t) in
      let h' = B.unmask_words s' a' (B.mask s t) (B.mask_words s a t h) in
      let masked : B.mask s' t' ≡ B.mask s t = B.mask_unmask s' a' (B.mask s t) (B.mask_words s a t h) in
      ((B.same s s' a a' e t t' h h' (sym masked)).0, λ p q. sym (B.mask_own s' a' t' h' p q) ∙ ap (tape p) masked ∙ B.mask_own s a t h p q);
}
  where
    back : (t : Tapes) → Contents m f.draws t → B.unmask s (B.mask s' (B.unmask s' (B.mask s t))) ≡ t
    back t h = ap (B.unmask s) (B.mask_unmask s' a' _ (B.mask_words s a t h)) ∙ B.unmask_mask s a t h

pub weaken : {Ok : Tapes → Type 0} {Like Like' : Tapes → Tapes → Type 0} → ((t t' : Tapes) → Ok t → Ok t' → Like t t' → Like' t t') → Pairing Ok Like → Pairing Ok Like'
weaken f P = record {
  to = P.to;
  to_ok = P.to_ok;
  one_to_one = P.one_to_one;
  none_left_over = P.none_left_over;
  alike = λ t h. f t (P.to t) h (P.to_ok t h) (P.alike t h);
}

-- a pairing that keeps the observer's tapes is one of the contents in which such a tape is fixed
pub fixed : {m : ℕ} {d : Drawn} {Like : Tapes → Tapes → Type 0} (o : Observer) (p : Party) → Holds o p → (own : List ℕ)
    → Pairing (Contents m d) (λ t t'. Like t t' × SameOwn o t t') → Pairing (λ t. Contents m d t × (tape p t ≡ own)) Like
fixed o p q own P = record {
  to = P.to;
  to_ok = λ t h. (P.to_ok t h.0, (P.alike t h.0).1 p q ∙ h.1);
  one_to_one = λ t t' h h'. P.one_to_one t t' h.0 h'.0;
  none_left_over = λ u h.
      let w = P.none_left_over u h.0 in
      (w.0, (w.1, sym ((P.alike w.0 w.1).1 p q) ∙ ap (tape p) w.2 ∙ h.1), w.2);
  alike = λ t h. (P.alike t h.0).0;
}
