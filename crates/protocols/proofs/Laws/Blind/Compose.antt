-- Blindness in general: one protocol after another, protocols without a mask, and from one miner to every observer.
use Rattle.std.proofs.Common.{◌≡◌, ℕ, [], ◌++◌, sym, refl, ap, ◌∙◌, subst, ap₂}
use Rattle.protocols.specs.declared.place.Drawn.{Drawn}
use Rattle.protocols.specs.declared.place.Party.{Party}
use Rattle.protocols.specs.declared.place.Party.TheVariants.{Provider, One, Two, Three}
use Rattle.protocols.specs.Shares.{Miner, one, two, three}
use Rattle.protocols.specs.Place.{Tapes, tape, owner, plus, cut, rest, Lists, Receiver, miner, controller, list, ◌followed_by◌}
use Rattle.protocols.specs.Protocol.{Protocol, locally, ◌then◌}
use Rattle.protocols.specs.Contents.{Contents}
use Rattle.protocols.specs.Blind.{Observer, watching, controlling, both, Sees, Holds, Blind}
use Rattle.protocols.proofs.Laws.Blocks.{join, contents_cut, contents_rest, contents_join, join-cut-rest, cut-join, rest-join}

-- ---- one protocol after another

module _ {S T Z : Type 0} (f : Protocol S T) (g : Protocol T Z) where
  pub then_draws : (f then g).draws ≡ plus f.draws g.draws
  unfolding ◌then◌
  then_draws = refl

  pub then_result : (s : S) (b : Tapes) → (f then g).result s b ≡ g.result (f.result s (cut f.draws b)) (rest f.draws b)
  unfolding ◌then◌
  then_result s b = refl

tape-join : (p : Party) (c d : Tapes) → tape p (join c d) ≡ tape p c ++ tape p d
tape-join Provider c d = refl
tape-join One c d = refl
tape-join Two c d = refl
tape-join Three c d = refl

pub list_followed : (r : Receiver) (l k : Lists) → list r (l followed_by k) ≡ list r l ++ list r k
list_followed (miner one) l k = refl
list_followed (miner two) l k = refl
list_followed (miner three) l k = refl
list_followed controller l k = refl

-- a map that takes x and y back to the parts of b takes their join back to b
parts_back : (m : ℕ) (n : Drawn) (back : Tapes → Tapes → Tapes) (x y b : Tapes) → Contents m n x
    → back x y ≡ join (cut n b) (rest n b) → back (cut n (join x y)) (rest n (join x y)) ≡ b
parts_back m n back x y b h e = ap₂ back (cut-join m n x y h) (rest-join m n x y h) ∙ e ∙ join-cut-rest n b

-- f, then g, where the results of f are Good' for g
module _ {m : ℕ} {o : Observer} {S T Z : Type 0} {f : Protocol S T} {g : Protocol T Z} {Good : S → Type 0} {Good' : T → Type 0}
    {Same : S → S → Type 0} {Mid : T → T → Type 0} {After : Z → Z → Type 0} (F : Blind m o f Good Same Mid)
    (made : (s : S) → Good s → (b : Tapes) → Contents m f.draws b → Good' (f.result s b)) (G : Blind m o g Good' Mid After) where
  -- the masks of f and g, on a block of each
  abbrev mask_parts : S → Tapes → Tapes → Tapes
  mask_parts s c d = join (F.mask s c) (G.mask (f.result s c) d)

  abbrev unmask_parts : S → Tapes → Tapes → Tapes
  unmask_parts s c d = join (F.unmask s c) (G.unmask (f.result s (F.unmask s c)) d)

  first_part : (b : Tapes) → Contents m (f then g).draws b → Contents m f.draws (cut f.draws b)
  unfolding ◌then◌
  first_part b h = contents_cut m f.draws g.draws b h

  second_part : (b : Tapes) → Contents m (f then g).draws b → Contents m g.draws (rest f.draws b)
  unfolding ◌then◌
  second_part b h = contents_rest m f.draws g.draws b h

  own_parts : (s : S) → Good s → (b : Tapes) → Contents m (f then g).draws b → (p : Party) → Holds o p
      → tape p (mask_parts s (cut f.draws b) (rest f.draws b)) ≡ tape p b
  own_parts s a b h p e =
      let c = cut f.draws b in
      let d = rest f.draws b in
      tape-join p (F.mask s c) (G.mask (f.result s c) d)
      ∙ ap₂ ◌++◌ (F.mask_own s a c (first_part b h) p e) (G.mask_own (f.result s c) (made s a c (first_part b h)) d (second_part b h) p e)
      ∙ sym (tape-join p c d)
      ∙ ap (tape p) (join-cut-rest f.draws b)

  pub blind_then : Blind m o (f then g) Good Same After
  unfolding ◌then◌
  blind_then = record {
    mask = λ s b. mask_parts s (cut f.draws b) (rest f.draws b);
    unmask = λ s b. unmask_parts s (cut f.draws b) (rest f.draws b);
    mask_words = λ s a b h.
        let hc = first_part b h in
        contents_join m f.draws g.draws _ _ (F.mask_words s a _ hc) (G.mask_words _ (made s a _ hc) _ (second_part b h));
    unmask_words = λ s a b h.
        let hx = F.unmask_words s a _ (first_part b h) in
        contents_join m f.draws g.draws _ _ hx (G.unmask_words _ (made s a _ hx) _ (second_part b h));
    unmask_mask = λ s a b h.
        let c = cut f.draws b in
        let hc = first_part b h in
        let y = G.mask (f.result s c) (rest f.draws b) in
        parts_back m f.draws (unmask_parts s) (F.mask s c) y b (F.mask_words s a c hc)
        (ap (λ (z : Tapes). join z (G.unmask (f.result s z) y)) (F.unmask_mask s a c hc)
        ∙ ap (join c) (G.unmask_mask (f.result s c) (made s a c hc) (rest f.draws b) (second_part b h)));
    mask_unmask = λ s a b h.
        let c = cut f.draws b in
        let hc = first_part b h in
        let x = F.unmask s c in
        let hx = F.unmask_words s a c hc in
        let y = G.unmask (f.result s x) (rest f.draws b) in
        parts_back m f.draws (mask_parts s) x y b hx
        (ap (λ (z : Tapes). join z (G.mask (f.result s x) y)) (F.mask_unmask s a c hc)
        ∙ ap (join c) (G.mask_unmask (f.result s x) (made s a x hx) (rest f.draws b) (second_part b h)));
    mask_own = own_parts;
    same = λ s s' a a' r b b' h h' e.
        let c = cut f.draws b in
        let c' = cut f.draws b' in
        let hc = first_part b h in
        let hc' = first_part b' h' in
        let x = F.mask s c in
        let x' = F.mask s' c' in
        let hx = F.mask_words s a c hc in
        let hx' = F.mask_words s' a' c' hc' in
        let y = G.mask (f.result s c) (rest f.draws b) in
        let y' = G.mask (f.result s' c') (rest f.draws b') in
        let ex = sym (cut-join m f.draws x y hx) ∙ ap (cut f.draws) e ∙ cut-join m f.draws x' y' hx' in
        let ey = sym (rest-join m f.draws x y hx) ∙ ap (rest f.draws) e ∙ rest-join m f.draws x' y' hx' in
        let k = F.same s s' a a' r c c' hc hc' ex in
        let l = G.same _ _ (made s a c hc) (made s' a' c' hc') k.0 _ _ (second_part b h) (second_part b' h') ey in
        (l.0, λ q w. list_followed q _ _ ∙ ap₂ ◌++◌ (k.1 q w) (l.1 q w) ∙ sym (list_followed q _ _));
  }

-- where g is blind for any operands
pub blind_then_any : {m : ℕ} {o : Observer} {S T Z : Type 0} {f : Protocol S T} {g : Protocol T Z} {Good : S → Type 0}
    {Same : S → S → Type 0} {Mid : T → T → Type 0} {After : Z → Z → Type 0}
    → Blind m o f Good Same Mid → Blind m o g (λ t. Unit {0}) Mid After → Blind m o (f then g) Good Same After
blind_then_any F G = blind_then F (λ s a b h. tt) G

-- ---- what looks the same to an observer of two runs, and protocols without a mask

abbrev pub Alike : Observer → {S T : Type 0} → Protocol S T → (T → T → Type 0) → (s s' : S) (b b' : Tapes) → Type 0
Alike o f After s s' b b' =
    After (f.result s b) (f.result s' b') × ((r : Receiver) → Sees o r → list r (f.received s b) ≡ list r (f.received s' b'))

pub blind_unmasked : {m : ℕ} {o : Observer} {S T : Type 0} {f : Protocol S T} {Good : S → Type 0} {Same : S → S → Type 0} {After : T → T → Type 0}
    → ((s s' : S) → Same s s' → (b : Tapes) → Alike o f After s s' b b) → Blind m o f Good Same After
blind_unmasked {o = o} {f = f} {After = After} alike = record {
  mask = λ s b. b;
  unmask = λ s b. b;
  mask_words = λ s a b h. h;
  unmask_words = λ s a b h. h;
  unmask_mask = λ s a b h. refl;
  mask_unmask = λ s a b h. refl;
  mask_own = λ s a b h p e. refl;
  same = λ s s' a a' r b b' h h' e. subst (λ (d : Tapes). Alike o f After s s' b d) e (alike s s' r b);
}

pub blind-locally : {m : ℕ} {o : Observer} {S T : Type 0} (g : S → T) {Good : S → Type 0} {Same : S → S → Type 0} {After : T → T → Type 0}
    → ((s s' : S) → Same s s' → After (g s) (g s')) → Blind m o (locally g) Good Same After
blind-locally g alike = blind_unmasked (λ s s' r b. (alike s s' r, λ q e. refl))

-- ---- blindness for one miner, by its own tape and its received list alone

abbrev pub AlikeFor : Miner → {S T : Type 0} → Protocol S T → (T → T → Type 0) → (s s' : S) (b b' : Tapes) → Type 0
AlikeFor i f After s s' b b' = After (f.result s b) (f.result s' b') × (list (miner i) (f.received s b) ≡ list (miner i) (f.received s' b'))

pub record BlindFor (m : ℕ) (i : Miner) {S T : Type 0} (f : Protocol S T) (Good : S → Type 0) (Same : S → S → Type 0) (After : T → T → Type 0)
    : Type 0 where
  pub mask : S → Tapes → Tapes
  pub unmask : S → Tapes → Tapes
  pub mask_words : (s : S) → Good s → (b : Tapes) → Contents m f.draws b → Contents m f.draws (mask s b)
  pub unmask_words : (s : S) → Good s → (b : Tapes) → Contents m f.draws b → Contents m f.draws (unmask s b)
  pub unmask_mask : (s : S) → Good s → (b : Tapes) → Contents m f.draws b → unmask s (mask s b) ≡ b
  pub mask_unmask : (s : S) → Good s → (b : Tapes) → Contents m f.draws b → mask s (unmask s b) ≡ b
  pub mask_own : (s : S) (b : Tapes) → tape (owner i) (mask s b) ≡ tape (owner i) b
  pub same : (s s' : S) → Same s s' → (b b' : Tapes) → mask s b ≡ mask s' b' → AlikeFor i f After s s' b b'

pub unmasked_for : {m : ℕ} {i : Miner} {S T : Type 0} {f : Protocol S T} {Good : S → Type 0} {Same : S → S → Type 0} {After : T → T → Type 0}
    → ((s s' : S) → Same s s' → (b : Tapes) → AlikeFor i f After s s' b b) → BlindFor m i f Good Same After
unmasked_for {i = i} {f = f} {After = After} alike = record {
  mask = λ s b. b;
  unmask = λ s b. b;
  mask_words = λ s a b h. h;
  unmask_words = λ s a b h. h;
  unmask_mask = λ s a b h. refl;
  mask_unmask = λ s a b h. refl;
  mask_own = λ s b. refl;
  same = λ s s' r b b' e. subst (λ (d : Tapes). AlikeFor i f After s s' b d) e (alike s s' r b);
}

-- ---- from one miner to every observer

-- what looks the same to every miner that o sees
abbrev pub Seen : {T : Type 0} → (Miner → T → T → Type 0) → Observer → T → T → Type 0
Seen After o t t' = (i : Miner) → Sees o (miner i) → After i t t'

-- an observer that sees miner i and no other miner, and sees the same in the controller's list if it sees that
pub blind_as_miner : {m : ℕ} {S T : Type 0} {f : Protocol S T} {Good : S → Type 0} {Same : S → S → Type 0}
    {Mid : T → T → Type 0} {After : Miner → T → T → Type 0}
    (i : Miner) (o : Observer) → ((j : Miner) → Sees o (miner j) → i ≡ j) → BlindFor m i f Good Same Mid → ((t t' : T) → Mid t t' → After i t t')
    → (Sees o controller → (s s' : S) (b b' : Tapes) → Mid (f.result s b) (f.result s' b')
    → list controller (f.received s b) ≡ list controller (f.received s' b'))
    → Blind m o f Good Same (Seen After o)
blind_as_miner {f = f} {After = After} i o only F after told = record {
  mask = F.mask;
  unmask = F.unmask;
  mask_words = F.mask_words;
  unmask_words = F.unmask_words;
  unmask_mask = F.unmask_mask;
  mask_unmask = F.mask_unmask;
  mask_own = λ s a b h. own (F.mask s b) b (F.mask_own s b);
  same = λ s s' a a' r b b' h h' e. let k = F.same s s' r b b' e in (
    λ j q. subst (λ (x : Miner). After x (f.result s b) (f.result s' b')) (only j q) (after _ _ k.0),
    elim [
      | miner j ↦ λ q. subst (λ (x : Miner). list (miner x) (f.received s b) ≡ list (miner x) (f.received s' b')) (only j q) k.1
      | controller ↦ λ q. told q s s' b b' k.0
    ],
  );
}
  where
    own : (t u : Tapes) → tape (owner i) t ≡ tape (owner i) u → (p : Party) → Holds o p → tape p t ≡ tape p u
    own t u e Provider q = absurd q
    own t u e One q = subst (λ (x : Miner). tape (owner x) t ≡ tape (owner x) u) (only one q) e
    own t u e Two q = subst (λ (x : Miner). tape (owner x) t ≡ tape (owner x) u) (only two q) e
    own t u e Three q = subst (λ (x : Miner). tape (owner x) t ≡ tape (owner x) u) (only three q) e

-- a protocol that sends the controller nothing and is blind for each miner
pub blind_silent : {m : ℕ} {S T : Type 0} {f : Protocol S T} {Good : S → Type 0} {Same : Observer → S → S → Type 0} {After : Miner → T → T → Type 0}
    → ((s : S) (b : Tapes) → list controller (f.received s b) ≡ [])
    → ((i : Miner) (o : Observer) → Sees o (miner i) → BlindFor m i f Good (Same o) (After i))
    → (o : Observer) → Blind m o f Good (Same o) (Seen After o)
blind_silent none F (watching i) = blind_as_miner i (watching i) (λ j e. e) (F i (watching i) refl) (λ t t' k. k) (λ e. absurd e)
blind_silent none F controlling =
    blind_unmasked (λ s s' r b. (λ i e. absurd e, elim [ miner j ↦ λ e. absurd e | controller ↦ λ e. none s b ∙ sym (none s' b) ]))
blind_silent none F (both i) =
    blind_as_miner i (both i) (λ j e. e) (F i (both i) refl) (λ t t' k. k) (λ e s s' b b' k. none s b ∙ sym (none s' b'))
