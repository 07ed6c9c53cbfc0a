-- Masks of one tape, and the mask that most steps share.
-- What miner i receives masked is put, word by word, in place of what the next miner draws.
use Rattle.std.proofs.Common.{◌≡◌, ℕ, zero, suc, ◌<◌, List, [], ◌∷◌, get_or, sym, refl, ap, ◌∙◌, ap₂, suc-le-suc, le_of_suc-le-suc, zero-lt-suc, arith}
use Rattle.protocols.specs.declared.place.Party.{Party}
use Rattle.protocols.specs.declared.place.Party.TheVariants.{Provider, One, Two, Three}
use Rattle.protocols.specs.declared.place.Drawn.{Drawn}
use Rattle.protocols.specs.declared.shares.Shares.{Shares}
use Rattle.protocols.specs.Shares.{Miner, one, two, three, prev, at, each, SharesAreWords}
use Rattle.protocols.specs.Place.{Tapes, tapes, tape, counts, count, owner, word, words}
use Rattle.protocols.specs.Protocol.{Protocol}
use Rattle.protocols.specs.Contents.{Words, Contents}
use Rattle.protocols.proofs.Laws.Blocks.{word_lt}
use Rattle.protocols.proofs.Laws.Blind.Miner.{SameAt}
use Rattle.protocols.proofs.Laws.Blind.Compose.{AlikeFor, BlindFor}

-- ---- one party's tape changed

abbrev pub change : Party → List ℕ → Tapes → Tapes
change Provider l t = tapes l t.one t.two t.three
change One l t = tapes t.provider l t.two t.three
change Two l t = tapes t.provider t.one l t.three
change Three l t = tapes t.provider t.one t.two l

tape_change : (p : Party) (l : List ℕ) (t : Tapes) → tape p (change p l t) ≡ l
tape_change Provider l t = refl
tape_change One l t = refl
tape_change Two l t = refl
tape_change Three l t = refl

change_back : (p : Party) (l : List ℕ) (t : Tapes) → change p (tape p t) (change p l t) ≡ t
change_back Provider l t = refl
change_back One l t = refl
change_back Two l t = refl
change_back Three l t = refl

contents_change : {m : ℕ} {n : Drawn} {t : Tapes} (p : Party) (l : List ℕ) → Words m (count p n) l → Contents m n t → Contents m n (change p l t)
contents_change Provider l w h = elim [ Provider ↦ w | One ↦ h One | Two ↦ h Two | Three ↦ h Three ]
contents_change One l w h = elim [ Provider ↦ h Provider | One ↦ w | Two ↦ h Two | Three ↦ h Three ]
contents_change Two l w h = elim [ Provider ↦ h Provider | One ↦ h One | Two ↦ w | Three ↦ h Three ]
contents_change Three l w h = elim [ Provider ↦ h Provider | One ↦ h One | Two ↦ h Two | Three ↦ w ]

-- g gives words for the tape of party p, and h gives the old ones back
pub record Undone (m : ℕ) (n : Drawn) (p : Party) (g h : Tapes → List ℕ) : Type 0 where
  pub makes : (b : Tapes) → Contents m n b → Words m (count p n) (g b)
  pub undo : (b : Tapes) → Contents m n b → h (change p (g b) b) ≡ tape p b

-- a mask g, with inverse h, of the tape of a party p other than miner i
pub changed_for : {m : ℕ} {i : Miner} {S T : Type 0} {f : Protocol S T} {Good : S → Type 0} {Same : S → S → Type 0} {After : T → T → Type 0}
    (p : Party) → ((l : List ℕ) (t : Tapes) → tape (owner i) (change p l t) ≡ tape (owner i) t)
    → (g h : S → Tapes → List ℕ) → ((s : S) → Good s → Undone m f.draws p (g s) (h s)) → ((s : S) → Good s → Undone m f.draws p (h s) (g s))
    → ((s s' : S) → Same s s' → (b b' : Tapes) → change p (g s b) b ≡ change p (g s' b') b' → AlikeFor i f After s s' b b')
    → BlindFor m i f Good Same After
changed_for p kept g h there back alike = record {
  mask = λ s b. change p (g s b) b;
  unmask = λ s b. change p (h s b) b;
  mask_words = λ s a b c. contents_change p (g s b) ((there s a).makes b c) c;
  unmask_words = λ s a b c. contents_change p (h s b) ((back s a).makes b c) c;
  unmask_mask = λ s a b c. ap (λ (l : List ℕ). change p l (change p (g s b) b)) ((there s a).undo b c) ∙ change_back p (g s b) b;
  mask_unmask = λ s a b c. ap (λ (l : List ℕ). change p l (change p (h s b) b)) ((back s a).undo b c) ∙ change_back p (h s b) b;
  mask_own = λ s b. kept (g s b) b;
  same = alike;
}

-- ---- a list of n words, by its words

abbrev list_of : ℕ → (ℕ → ℕ) → List ℕ
list_of zero g = []
list_of (suc n) g = g 0 ∷ list_of n (λ k. g (suc k))

listed_words : {m : ℕ} (n : ℕ) (g : ℕ → ℕ) → ((k : ℕ) → k < n → g k < m) → Words m n (list_of n g)
listed_words zero g h = record { long = refl; below = tt }
listed_words (suc n) g h =
    let w = listed_words n (λ k. g (suc k)) (λ k l. h (suc k) (suc-le-suc l)) in
    record { long = ap suc w.long; below = (h 0 (zero-lt-suc n), w.below) }

pub listed_get_or : {m : ℕ} (n : ℕ) (l : List ℕ) → Words m n l → list_of n (λ k. get_or l k 0) ≡ l
listed_get_or zero [] h = refl
listed_get_or zero (a ∷ l) h = absurd (omega (arith, h.long))
listed_get_or (suc n) [] h = absurd (omega (arith, h.long))
listed_get_or (suc n) (a ∷ l) h = ap (λ (x : List ℕ). a ∷ x) (listed_get_or n l (record { long = omega (arith, h.long); below = h.below.1 }))

get_or_listed : (n : ℕ) (g : ℕ → ℕ) (k : ℕ) → k < n → get_or (list_of n g) k 0 ≡ g k
get_or_listed zero g k h = absurd (omega arith)
get_or_listed (suc n) g zero h = refl
get_or_listed (suc n) g (suc k) h = get_or_listed n (λ j. g (suc j)) k (le_of_suc-le-suc h)

listed_same : (n : ℕ) (g h : ℕ → ℕ) → ((k : ℕ) → k < n → g k ≡ h k) → list_of n g ≡ list_of n h
listed_same zero g h e = refl
listed_same (suc n) g h e =
    ap₂ (λ (a : ℕ) (l : List ℕ). a ∷ l) (e 0 (zero-lt-suc n)) (listed_same n (λ k. g (suc k)) (λ k. h (suc k)) (λ k l. e (suc k) (suc-le-suc l)))

-- ---- the cover: each miner draws n words; word k of its own and of the previous miner mask its share x k

-- the next miner
abbrev next : Miner → Miner
next i = prev (prev i)

-- a change of the next miner's tape leaves those of miner i and of the previous miner
kept_own : (i : Miner) (l : List ℕ) (t : Tapes) → tape (owner i) (change (owner (next i)) l t) ≡ tape (owner i) t
kept_own one l t = refl
kept_own two l t = refl
kept_own three l t = refl

kept_prev : (i : Miner) (l : List ℕ) (t : Tapes) → tape (owner (prev i)) (change (owner (next i)) l t) ≡ tape (owner (prev i)) t
kept_prev one l t = refl
kept_prev two l t = refl
kept_prev three l t = refl

at_words : (i : Miner) (t : Tapes) (k : ℕ) → at i (words t k) ≡ word t i k
at_words one t k = refl
at_words two t k = refl
at_words three t k = refl

-- mix x a b: a share x masked with its miner's word a and the previous miner's word b
pub record Mixes (m : ℕ) (mix : ℕ → ℕ → ℕ → ℕ) : Type 0 where
  pub mix_lt : (x a b : ℕ) → x < m → a < m → b < m → mix x a b < m
  pub mix_mix : (x a b : ℕ) → b < m → mix x a (mix x a b) ≡ b

abbrev pub mix_shares : (ℕ → ℕ → ℕ → ℕ) → Shares → Shares → Shares
mix_shares mix s r = each (λ i. mix (at i s) (at i r) (at (prev i) r))

at_mixed : (mix : ℕ → ℕ → ℕ → ℕ) (i : Miner) (s : Shares) (t : Tapes) (k : ℕ)
    → at i (mix_shares mix s (words t k)) ≡ mix (at i s) (word t i k) (word t (prev i) k)
at_mixed mix one s t k = refl
at_mixed mix two s t k = refl
at_mixed mix three s t k = refl

module _ (i : Miner) (n : ℕ) (mix : ℕ → ℕ → ℕ → ℕ) where
  -- the previous miner's masked shares, in place of the next miner's words
  abbrev cover : (ℕ → Shares) → Tapes → List ℕ
  cover x b = list_of n (λ k. mix (at (prev i) (x k)) (word b (prev i) k) (word b (next i) k))

  abbrev with_cover : (ℕ → Shares) → Tapes → Tapes
  with_cover x b = change (owner (next i)) (cover x b) b

  -- what two runs with the same covered words have in common for miner i
  pub record Known (x x' : ℕ → Shares) (b b' : Tapes) : Type 0 where
    pub before : (k : ℕ) → SameAt (prev i) (words b k) (words b' k)
    pub mixed_own : (k : ℕ) → SameAt i (x k) (x' k) → SameAt i (mix_shares mix (x k) (words b k)) (mix_shares mix (x' k) (words b' k))
    pub mixed_prev : (k : ℕ) → k < n → SameAt (prev i) (mix_shares mix (x k) (words b k)) (mix_shares mix (x' k) (words b' k))

  with_cover-known : (x x' : ℕ → Shares) (b b' : Tapes) → with_cover x b ≡ with_cover x' b' → Known x x' b b'
  with_cover-known x x' b b' e = record {
    before = λ k. at_words (prev i) b k ∙ ap (λ (r : List ℕ). get_or r k 0) prevs ∙ sym (at_words (prev i) b' k);
    mixed_own = λ k h. at_mixed mix i (x k) b k ∙ cc (h, owns, prevs) ∙ sym (at_mixed mix i (x' k) b' k);
    mixed_prev = λ k h.
        at_mixed mix (prev i) (x k) b k
        ∙ sym (get_or_listed n _ k h) ∙ ap (λ (r : List ℕ). get_or r k 0) covers ∙ get_or_listed n _ k h
        ∙ sym (at_mixed mix (prev i) (x' k) b' k);
  }
    where
      owns : tape (owner i) b ≡ tape (owner i) b'
      owns = sym (kept_own i (cover x b) b) ∙ ap (tape (owner i)) e ∙ kept_own i (cover x' b') b'

      prevs : tape (owner (prev i)) b ≡ tape (owner (prev i)) b'
      prevs = sym (kept_prev i (cover x b) b) ∙ ap (tape (owner (prev i))) e ∙ kept_prev i (cover x' b') b'

      covers : cover x b ≡ cover x' b'
      covers = sym (tape_change (owner (next i)) (cover x b) b) ∙ ap (tape (owner (next i))) e ∙ tape_change (owner (next i)) (cover x' b') b'

  module _ (m : ℕ) (laws : Mixes m mix) (x : ℕ → Shares) (b : Tapes) (drawn : (j : Miner) → Words m n (tape (owner j) b)) where
    cover_words : ((k : ℕ) → SharesAreWords m (x k)) → Words m n (cover x b)
    cover_words h = listed_words n _ (λ k l. laws.mix_lt _ _ _ (h k (prev i)) (word_lt _ k (drawn (prev i)) l) (word_lt _ k (drawn (next i)) l))

    mix_covered : (k : ℕ) → k < n → mix (at (prev i) (x k)) (word (with_cover x b) (prev i) k) (word (with_cover x b) (next i) k) ≡ word b (next i) k
    mix_covered k h =
        let e = ap (λ (r : List ℕ). get_or r k 0) (kept_prev i (cover x b) b) in
        let f = ap (λ (r : List ℕ). get_or r k 0) (tape_change (owner (next i)) (cover x b) b) ∙ get_or_listed n _ k h in
        ap₂ (mix (at (prev i) (x k))) e f ∙ laws.mix_mix _ _ (word b (next i) k) (word_lt _ k (drawn (next i)) h)

    cover_covered : cover x (with_cover x b) ≡ tape (owner (next i)) b
    cover_covered = listed_same n _ (word b (next i)) mix_covered ∙ listed_get_or n (tape (owner (next i)) b) (drawn (next i))

pub cover_for : {m : ℕ} {S T : Type 0} {f : Protocol S T} {Good : S → Type 0} {Same : S → S → Type 0} {After : T → T → Type 0} {mix : ℕ → ℕ → ℕ → ℕ}
    (i : Miner) (n : ℕ) → f.draws ≡ counts 0 n n n → Mixes m mix
    → (x : S → ℕ → Shares) → ((s : S) → Good s → (k : ℕ) → SharesAreWords m (x s k))
    → ((s s' : S) → Same s s' → (b b' : Tapes) → Known i n mix (x s) (x s') b b' → AlikeFor i f After s s' b b')
    → BlindFor m i f Good Same After
cover_for {m} {S} {f = f} {Good} {mix = mix} i n draws laws x x-words alike =
    changed_for (owner (next i)) (kept_own i) (λ s. cover i n mix (x s)) (λ s. cover i n mix (x s)) cover_undone cover_undone λ s s' r b b' e.
    alike s s' r b b' (with_cover-known i n mix (x s) (x s') b b' e)
  where
    draws-each : (j : Miner) → count (owner j) f.draws ≡ n
    draws-each one = ap (count One) draws
    draws-each two = ap (count Two) draws
    draws-each three = ap (count Three) draws

    drawn : (b : Tapes) → Contents m f.draws b → (j : Miner) → Words m n (tape (owner j) b)
    drawn b c j = rw (draws-each j) at (c (owner j))

    cover_undone : (s : S) → Good s → Undone m f.draws (owner (next i)) (cover i n mix (x s)) (cover i n mix (x s))
    cover_undone s a = record {
      makes = λ b c. rw (draws-each (next i)) (cover_words i n mix m laws (x s) b (drawn b c) (x-words s a));
      undo = λ b c. cover_covered i n mix m laws (x s) b (drawn b c);
    }
