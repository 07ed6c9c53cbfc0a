-- Blocks of words: their lengths and bounds, how they are cut and joined.
use Rattle.std.proofs.Common.{◌≡◌, ℕ, zero, suc, ◌+◌, ◌<◌, ◌≤◌, List, [], ◌∷◌, ◌++◌, length, get_or, take, drop, refl, ap, arith, length-append, length-drop, take-append-drop, length-take, length-take-le, drop-drop, take_at, drop_at}
use Rattle.protocols.specs.declared.place.Party.{Party}
use Rattle.protocols.specs.declared.place.Party.TheVariants.{Provider, One, Two, Three}
use Rattle.protocols.specs.declared.place.Drawn.{Drawn}
use Rattle.protocols.specs.declared.place.Place.{Place}
use Rattle.protocols.specs.Place.{Tapes, tapes, tape, count, plus, cut, rest, block}
use Rattle.protocols.specs.Contents.{AllBelow, Words, Contents}

-- ---- one list

pub below-append : (m : ℕ) (s t : List ℕ) → AllBelow m s → AllBelow m t → AllBelow m (s ++ t)
below-append m [] t a b = b
below-append m (x ∷ s) t a b = (a.0, below-append m s t a.1 b)

pub below-take : (m n : ℕ) (s : List ℕ) → AllBelow m s → AllBelow m (take n s)
below-take m zero s a = tt
below-take m (suc n) [] a = tt
below-take m (suc n) (x ∷ s) a = (a.0, below-take m n s a.1)

pub below-drop : (m n : ℕ) (s : List ℕ) → AllBelow m s → AllBelow m (drop n s)
below-drop m zero s a = a
below-drop m (suc n) [] a = tt
below-drop m (suc n) (x ∷ s) a = below-drop m n s a.1

pub words_take : (m n k : ℕ) (l : List ℕ) → Words m (n + k) l → Words m n (take n l)
words_take m n k l h = record { long = rw length-take (omega (arith, h.long)); below = below-take m n l h.below }

pub words-drop : (m n k : ℕ) (l : List ℕ) → Words m (n + k) l → Words m k (drop n l)
words-drop m n k l h = record { long = rw length-drop (omega (arith, h.long)); below = below-drop m n l h.below }

pub words_append : (m n k : ℕ) (l r : List ℕ) → Words m n l → Words m k r → Words m (n + k) (l ++ r)
words_append m n k l r hl hr = record { long = rw length-append (omega (arith, hl.long, hr.long)); below = below-append m l r hl.below hr.below }

-- a word of a list of words is below m
pub word_lt : {m n : ℕ} (l : List ℕ) (k : ℕ) → Words m n l → k < n → get_or l k 0 < m
word_lt [] k h i = absurd (omega (arith, h.long, i))
word_lt (a ∷ l) zero h i = h.below.0
word_lt {m} {n} (a ∷ l) (suc k) h i = word_lt l k (record { long = refl; below = h.below.1 }) (omega (arith, h.long, i))

-- ---- all four tapes

pub tapes_ext : (a b : Tapes) → ((p : Party) → tape p a ≡ tape p b) → a ≡ b
tapes_ext a b e = λ i. tapes (e Provider i) (e One i) (e Two i) (e Three i)

-- the words of a, then those of b
abbrev pub join : Tapes → Tapes → Tapes
join a b = tapes (a.provider ++ b.provider) (a.one ++ b.one) (a.two ++ b.two) (a.three ++ b.three)

module _ (m : ℕ) (n k : Drawn) where
  pub contents_cut : (t : Tapes) → Contents m (plus n k) t → Contents m n (cut n t)
  contents_cut t h Provider = words_take m n.provider k.provider t.provider (h Provider)
  contents_cut t h One = words_take m n.one k.one t.one (h One)
  contents_cut t h Two = words_take m n.two k.two t.two (h Two)
  contents_cut t h Three = words_take m n.three k.three t.three (h Three)

  pub contents_rest : (t : Tapes) → Contents m (plus n k) t → Contents m k (rest n t)
  contents_rest t h Provider = words-drop m n.provider k.provider t.provider (h Provider)
  contents_rest t h One = words-drop m n.one k.one t.one (h One)
  contents_rest t h Two = words-drop m n.two k.two t.two (h Two)
  contents_rest t h Three = words-drop m n.three k.three t.three (h Three)

  pub contents_join : (a b : Tapes) → Contents m n a → Contents m k b → Contents m (plus n k) (join a b)
  contents_join a b ha hb Provider = words_append m n.provider k.provider a.provider b.provider (ha Provider) (hb Provider)
  contents_join a b ha hb One = words_append m n.one k.one a.one b.one (ha One) (hb One)
  contents_join a b ha hb Two = words_append m n.two k.two a.two b.two (ha Two) (hb Two)
  contents_join a b ha hb Three = words_append m n.three k.three a.three b.three (ha Three) (hb Three)

pub join-cut-rest : (n : Drawn) (t : Tapes) → join (cut n t) (rest n t) ≡ t
join-cut-rest n t = tapes_ext (join (cut n t) (rest n t)) t parts
  where
    parts : (p : Party) → tape p (join (cut n t) (rest n t)) ≡ tape p t
    parts Provider = take-append-drop n.provider t.provider
    parts One = take-append-drop n.one t.one
    parts Two = take-append-drop n.two t.two
    parts Three = take-append-drop n.three t.three

module _ (m : ℕ) (n : Drawn) (a b : Tapes) (h : Contents m n a) where
  pub cut-join : cut n (join a b) ≡ a
  cut-join = tapes_ext (cut n (join a b)) a parts
    where
      parts : (p : Party) → tape p (cut n (join a b)) ≡ tape p a
      parts Provider = take_at a.provider b.provider n.provider (h Provider).long
      parts One = take_at a.one b.one n.one (h One).long
      parts Two = take_at a.two b.two n.two (h Two).long
      parts Three = take_at a.three b.three n.three (h Three).long

  pub rest-join : rest n (join a b) ≡ b
  rest-join = tapes_ext (rest n (join a b)) b parts
    where
      parts : (p : Party) → tape p (rest n (join a b)) ≡ tape p b
      parts Provider = drop_at a.provider b.provider n.provider (h Provider).long
      parts One = drop_at a.one b.one n.one (h One).long
      parts Two = drop_at a.two b.two n.two (h Two).long
      parts Three = drop_at a.three b.three n.three (h Three).long

-- ---- the next words of the tapes

module _ (m : ℕ) where
  next_words : (l : List ℕ) (k j : ℕ) → AllBelow m l → k + j ≤ length l → Words m j (take j (drop k l))
  next_words l k j b h = record {
    long = length-take-le j (drop k l) (omega (arith, length-drop k l));
    below = below-take m j (drop k l) (below-drop m k l b);
  }

  pub block_contents : (d : Drawn) (p : Place) (t : Tapes) → ((i : Party) → AllBelow m (tape i t))
      → ((i : Party) → count i p.drawn + count i d ≤ length (tape i t)) → Contents m d (block d p t)
  unfolding block
  block_contents d p t b h Provider = next_words t.provider p.drawn.provider d.provider (b Provider) (h Provider)
  block_contents d p t b h One = next_words t.one p.drawn.one d.one (b One) (h One)
  block_contents d p t b h Two = next_words t.two p.drawn.two d.two (b Two) (h Two)
  block_contents d p t b h Three = next_words t.three p.drawn.three d.three (b Three) (h Three)

-- a block is cut from the words that are left, and the rest is left after it
pub block-cut : (d : Drawn) (p : Place) (t : Tapes) → block d p t ≡ cut d (rest p.drawn t)
unfolding block
block-cut d p t = refl

pub rest-rest : (d n : Drawn) (t : Tapes) → rest d (rest n t) ≡ rest (plus n d) t
rest-rest d n t = tapes_ext (rest d (rest n t)) (rest (plus n d) t) parts
  where
    parts : (p : Party) → tape p (rest d (rest n t)) ≡ tape p (rest (plus n d) t)
    parts Provider = drop-drop d.provider n.provider t.provider
    parts One = drop-drop d.one n.one t.one
    parts Two = drop-drop d.two n.two t.two
    parts Three = drop-drop d.three n.three t.three

-- a block depends on the place only by the words drawn before it
pub block_same : (d : Drawn) (p q : Place) (t : Tapes) → p.drawn ≡ q.drawn → block d p t ≡ block d q t
unfolding block
block_same d p q t e = ap (λ (n : Drawn). cut d (rest n t)) e
