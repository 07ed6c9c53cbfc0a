-- Draws: one tape after the other is one block, and a block after a block is one block.
use Rattle.std.specs.Prelude.{Some, None}
use Rattle.std.proofs.Common.{◌≡◌, ℕ, zero, suc, ◌+◌, ◌-◌, ◌<◌, ◌≤◌, Bool, true, false, cond, ◌&&◌, leb, List, [], ◌++◌, length, get_or, take, drop, refl, sym, ap, ◌∙◌, append-nil, add-zero, add_assoc, arith, length-drop, drop_of_length-le, length-take-le, get_or-drop, take_all, get_or-take, take-take, drop-drop, take-add, drop_at, le-leb, leb-false, leb-true}
use borrow.Author.Tests.{lt-leb}
use native.Mathlib.Decide.{dec_le}
use lib.Seq.{take-nil}
use lib.Dec.{leb-zero}
use Rattle.protocols.specs.declared.place.Party.{Party}
use Rattle.protocols.specs.declared.place.Party.TheVariants.{Provider, One, Two, Three}
use Rattle.protocols.specs.declared.place.Drawn.{Drawn}
use Rattle.protocols.specs.declared.place.Place.{Place}
use Rattle.protocols.specs.declared.shares.Shares.{Shares}
use Rattle.protocols.proofs.Laws.Blocks.{tapes_ext}
use Rattle.protocols.specs.Claims.{DrawIs}
use Rattle.protocols.specs.Draws.{draw_part, draw_each, draw_pairs, draw_block}
use Rattle.protocols.specs.Place.{Tapes, tapes, tape, words, counts, count, with_count, plus, cut, rest, advance, after_draw, Draw, draw_of, spent_draw, draw, every_party, tape_has, enough, block}

-- ---- tests of every party

and-false : (a : Bool) → a && false ≡ false
and-false false = refl
and-false true = refl

and_swap : (a b c d : Bool) → (a && b) && (c && d) ≡ (a && c) && (b && d)
and_swap false b c d = refl
and_swap true false false d = refl
and_swap true false true d = refl
and_swap true true c d = refl

and_pairs : (a b c d a' b' c' d' : Bool) → (a && a') && ((b && b') && ((c && c') && (d && d'))) ≡ (a && (b && (c && d))) && (a' && (b' && (c' && d')))
and_pairs a b c d a' b' c' d' =
    ap (◌&&◌ (a && a')) (ap (◌&&◌ (b && b')) (and_swap c c' d d') ∙ and_swap b b' (c && d) (c' && d')) ∙ and_swap a a' (b && (c && d)) (b' && (c' && d'))

-- ---- whether every tape has enough

every_true : (f : Party → Bool) → ((i : Party) → f i ≡ true) → every_party f ≡ true
every_true f h = rw (h Provider, h One, h Two, h Three)

every_false : (f : Party → Bool) (i : Party) → f i ≡ false → every_party f ≡ false
every_false f Provider e = rw e
every_false f One e = rw e (and-false (f Provider))
every_false f Two e = rw e (ap (◌&&◌ (f Provider)) (and-false (f One)) ∙ and-false (f Provider))
every_false f Three e = rw e (ap (◌&&◌ (f Provider)) (ap (◌&&◌ (f One)) (and-false (f Two)) ∙ and-false (f One)) ∙ and-false (f Provider))

every-same : (f g : Party → Bool) → ((i : Party) → f i ≡ g i) → every_party f ≡ every_party g
every-same f g h = rw (h Provider, h One, h Two, h Three)

every-and : (f g : Party → Bool) → every_party (λ i. f i && g i) ≡ every_party f && every_party g
every-and f g = and_pairs (f Provider) (f One) (f Two) (f Three) (g Provider) (g One) (g Two) (g Three)

pub enough_true : (n : Drawn) (p : Place) (t : Tapes) → ((i : Party) → count i n ≤ length (tape i t) - count i p.drawn) → enough n p t ≡ true
unfolding enough
enough_true n p t h = every_true (tape_has n p t) (λ i. le-leb (count i n) (length (tape i t) - count i p.drawn) (h i))

pub enough_false : (n : Drawn) (p : Place) (t : Tapes) (i : Party) → length (tape i t) - count i p.drawn < count i n → enough n p t ≡ false
unfolding enough
enough_false n p t i h = every_false (tape_has n p t) i (lt-leb (count i n) (length (tape i t) - count i p.drawn) h)

-- only the miners' tapes
pub enough_miners : (a b c : ℕ) (p : Place) (t : Tapes)
    → enough (counts 0 a b c) p t ≡ leb a (length t.one - p.drawn.one) && (leb b (length t.two - p.drawn.two) && leb c (length t.three - p.drawn.three))
unfolding enough
enough_miners a b c p t = rw leb-zero

-- ---- tapes that are not drawn from

-- tapes that agree wherever words are drawn
abbrev pub Agree : Drawn → Tapes → Tapes → Type 0
Agree n t t' = (i : Party) → 0 < count i n → tape i t ≡ tape i t'

pub enough_agree : (n : Drawn) (p : Place) (t t' : Tapes) → Agree n t t' → enough n p t ≡ enough n p t'
unfolding enough
enough_agree n p t t' h = every-same (tape_has n p t) (tape_has n p t') (λ i. go i (count i n) refl)
  where
    go : (i : Party) (k : ℕ) → count i n ≡ k → tape_has n p t i ≡ tape_has n p t' i
    go i zero e = rw (e, leb-zero, leb-zero)
    go i (suc k) e = ap (λ (l : List ℕ). leb (count i n) (length l - count i p.drawn)) (h i (omega (arith, e)))

pub block_agree : (n : Drawn) (p : Place) (t t' : Tapes) → Agree n t t' → block n p t ≡ block n p t'
unfolding block
block_agree n p t t' h = tapes_ext (block n p t) (block n p t') parts
  where
    part : (k d : ℕ) (l l' : List ℕ) → (0 < k → l ≡ l') → take k (drop d l) ≡ take k (drop d l')
    part zero d l l' e = refl
    part (suc k) d l l' e = ap (λ (x : List ℕ). take (suc k) (drop d x)) (e (omega arith))

    parts : (i : Party) → tape i (block n p t) ≡ tape i (block n p t')
    parts Provider = part n.provider p.drawn.provider t.provider t'.provider (h Provider)
    parts One = part n.one p.drawn.one t.one t'.one (h One)
    parts Two = part n.two p.drawn.two t.two t'.two (h Two)
    parts Three = part n.three p.drawn.three t.three t'.three (h Three)

-- ---- a block after a block

nat_le-plus : (a b l d : ℕ) → leb (a + b) (l - d) ≡ leb a (l - d) && leb b (l - (d + a))
nat_le-plus a b l d = go (leb a (l - d)) refl (leb b (l - (d + a))) refl
  where
    go : (x : Bool) → leb a (l - d) ≡ x → (y : Bool) → leb b (l - (d + a)) ≡ y → leb (a + b) (l - d) ≡ x && y
    go false e y f = lt-leb (a + b) (l - d) (omega (arith, leb-false a (l - d) e))
    go true e false f = lt-leb (a + b) (l - d) (omega (arith, leb-true a (l - d) e, leb-false b (l - (d + a)) f))
    go true e true f = le-leb (a + b) (l - d) (omega (arith, leb-true a (l - d) e, leb-true b (l - (d + a)) f))

pub enough-plus : (n k : Drawn) (p : Place) (t : Tapes) → enough (plus n k) p t ≡ enough n p t && enough k (advance p n) t
unfolding enough
enough-plus n k p t =
    every-same (tape_has (plus n k) p t) (λ i. tape_has n p t i && tape_has k (advance p n) t i) each ∙ every-and (tape_has n p t) (tape_has k (advance p n) t)
  where
    each : (i : Party) → tape_has (plus n k) p t i ≡ tape_has n p t i && tape_has k (advance p n) t i
    each Provider = nat_le-plus n.provider k.provider (length t.provider) p.drawn.provider
    each One = nat_le-plus n.one k.one (length t.one) p.drawn.one
    each Two = nat_le-plus n.two k.two (length t.two) p.drawn.two
    each Three = nat_le-plus n.three k.three (length t.three) p.drawn.three

take_part : (n k : ℕ) (l : List ℕ) → take n (take (n + k) l) ≡ take n l
take_part n k l = take-take n (n + k) l (omega arith)

drop_part : (n k : ℕ) (l : List ℕ) → drop n (take (n + k) l) ≡ take k (drop n l)
drop_part n k l =
    ap (drop n) (take-add n k l) ∙ go (dec_le n (length l))
  where
    go : Dec (n ≤ length l) → drop n (take n l ++ take k (drop n l)) ≡ take k (drop n l)
    go (yes h) = drop_at (take n l) (take k (drop n l)) n (length-take-le n l h)
    go (no h) =
        let e : drop n l ≡ [] = drop_of_length-le l {i = n} (omega arith) in
        rw (e, take-nil k, append-nil, take_all n l (omega arith)) e

pub cut-block : (n k : Drawn) (p : Place) (t : Tapes) → cut n (block (plus n k) p t) ≡ block n p t
unfolding block
cut-block n k p t =
    cc (
      take_part n.provider k.provider (drop p.drawn.provider t.provider),
      take_part n.one k.one (drop p.drawn.one t.one),
      take_part n.two k.two (drop p.drawn.two t.two),
      take_part n.three k.three (drop p.drawn.three t.three),
    )

drop_block : (n k d : ℕ) (l : List ℕ) → drop n (take (n + k) (drop d l)) ≡ take k (drop (d + n) l)
drop_block n k d l = drop_part n k (drop d l) ∙ ap (take k) (drop-drop n d l)

pub rest-block : (n k : Drawn) (p : Place) (t : Tapes) → rest n (block (plus n k) p t) ≡ block k (advance p n) t
unfolding block
rest-block n k p t =
    cc (
      drop_block n.provider k.provider p.drawn.provider t.provider,
      drop_block n.one k.one p.drawn.one t.one,
      drop_block n.two k.two p.drawn.two t.two,
      drop_block n.three k.three p.drawn.three t.three,
    )

pub advance-plus : (n k : Drawn) (p : Place) → advance (advance p n) k ≡ advance p (plus n k)
advance-plus n k p =
    cc (
      add_assoc p.drawn.provider n.provider k.provider,
      add_assoc p.drawn.one n.one k.one,
      add_assoc p.drawn.two n.two k.two,
      add_assoc p.drawn.three n.three k.three,
    )

-- ---- words of a block

-- word k of n words at d is the list's word d + k
pub block-word : (n d k : ℕ) (l : List ℕ) → k < n → get_or (take n (drop d l)) k 0 ≡ get_or l (d + k) 0
block-word n d k l h = get_or-take n (drop d l) k 0 h ∙ get_or-drop d l k 0

pub block-first : (n d : ℕ) (l : List ℕ) → 0 < n → get_or (take n (drop d l)) 0 0 ≡ get_or l d 0
block-first n d l h = block-word n d 0 l h ∙ ap (λ (k : ℕ). get_or l k 0) (add-zero d)

-- word k of a party's part of a block is word k of its tape after the place
pub block_words : (n : Drawn) (p : Place) (t : Tapes) (i : Party) (k : ℕ) → k < count i n
    → get_or (tape i (block n p t)) k 0 ≡ get_or (tape i t) (count i p.drawn + k) 0
unfolding block
block_words n p t Provider k h = block-word n.provider p.drawn.provider k t.provider h
block_words n p t One k h = block-word n.one p.drawn.one k t.one h
block_words n p t Two k h = block-word n.two p.drawn.two k t.two h
block_words n p t Three k h = block-word n.three p.drawn.three k t.three h

-- ---- draws from one tape after the other make up a block

-- what is done with a draw
abbrev pub after : {T A : Type 0} → Draw T → (T → Place → A) → A → A
after d k z = elim d.words [ Some x ↦ k x d.place | None ↦ z ]

-- a draw from what is left of the tape
module _ (k : ℕ) (i : Party) (l : List ℕ) (p : Place) where
  pub draw_none : length (drop (count i p.drawn) l) < k → draw k i l p ≡ spent_draw p
  unfolding draw
  draw_none h = rw (lt-leb k (length l - count i p.drawn) (omega (arith, h, length-drop (count i p.drawn) l)))

  pub draw_some : k ≤ length (drop (count i p.drawn) l) → draw k i l p ≡ draw_of (take k (drop (count i p.drawn) l)) (after_draw k i p)
  unfolding draw
  draw_some h = rw (le-leb k (length l - count i p.drawn) (omega (arith, h, length-drop (count i p.drawn) l)))

-- a draw by its number and values
pub draw_is : (k : ℕ) (i : Party) (l : List ℕ) (p : Place) → DrawIs k i l p
unfolding draw
draw_is k i l p = record {
  drawn_if = λ h. rw (le-leb k (length l - count i p.drawn) h);
  spent_if = λ h. rw (lt-leb k (length l - count i p.drawn) h);
  words_answered = λ w q. refl;
  spent_answered = refl;
}

-- words of one tape only
abbrev pub only : Party → ℕ → Drawn
only i k = with_count i k (counts 0 0 0 0)

module _ (p : Place) (t : Tapes) where
  others_none : (i : Party) (k : ℕ) → k ≤ length (tape i t) - count i p.drawn → (j : Party) → count j (only i k) ≤ length (tape j t) - count j p.drawn
  others_none Provider k h Provider = h
  others_none Provider k h One = omega arith
  others_none Provider k h Two = omega arith
  others_none Provider k h Three = omega arith
  others_none One k h Provider = omega arith
  others_none One k h One = h
  others_none One k h Two = omega arith
  others_none One k h Three = omega arith
  others_none Two k h Provider = omega arith
  others_none Two k h One = omega arith
  others_none Two k h Two = h
  others_none Two k h Three = omega arith
  others_none Three k h Provider = omega arith
  others_none Three k h One = omega arith
  others_none Three k h Two = omega arith
  others_none Three k h Three = h

  count_only : (i : Party) (k : ℕ) → count i (only i k) ≡ k
  count_only Provider k = refl
  count_only One k = refl
  count_only Two k = refl
  count_only Three k = refl

  -- enough of one tape is enough of all, where nothing else is drawn
  pub enough_only : (i : Party) (k : ℕ) → enough (only i k) p t ≡ leb k (length (tape i t) - count i p.drawn)
  enough_only i k = go (leb k (length (tape i t) - count i p.drawn)) refl
    where
      go : (e : Bool) → leb k (length (tape i t) - count i p.drawn) ≡ e → enough (only i k) p t ≡ leb k (length (tape i t) - count i p.drawn)
      go true e = enough_true (only i k) p t (others_none i k (leb-true k _ e)) ∙ sym e
      go false e = enough_false (only i k) p t i (rw (count_only i k) (leb-false k _ e)) ∙ sym e

  pub block_only : (i : Party) (k : ℕ) → tape i (block (only i k) p t) ≡ take k (drop (count i p.drawn) (tape i t))
  unfolding block
  block_only Provider k = refl
  block_only One k = refl
  block_only Two k = refl
  block_only Three k = refl

  pub advance_only : (i : Party) (k : ℕ) → advance p (only i k) ≡ after_draw k i p
  advance_only Provider k = cc (add-zero p.drawn.one, add-zero p.drawn.two, add-zero p.drawn.three)
  advance_only One k = cc (add-zero p.drawn.provider, add-zero p.drawn.two, add-zero p.drawn.three)
  advance_only Two k = cc (add-zero p.drawn.provider, add-zero p.drawn.one, add-zero p.drawn.three)
  advance_only Three k = cc (add-zero p.drawn.provider, add-zero p.drawn.one, add-zero p.drawn.two)

  -- a block of words of each miner's tape, one tape after the other
  module _ (a b c : ℕ) where
    abbrev pub tapes_in_turn : Draw Tapes
    tapes_in_turn =
        after (draw a One t.one p)
        (λ x p₁. after (draw b Two t.two p₁) (λ y p₂. after (draw c Three t.three p₂) (λ z p₃. draw_of (tapes [] x y z) p₃) (spent_draw p)) (spent_draw p))
        (spent_draw p)

    pub block_in_turn : draw_block (counts 0 a b c) p t ≡ tapes_in_turn
    unfolding draw_block draw block
    block_in_turn = sym (go (leb a (length t.one - p.drawn.one)) refl (leb b (length t.two - p.drawn.two)) refl (leb c (length t.three - p.drawn.three)) refl)
      where
        go : (x : Bool) → leb a (length t.one - p.drawn.one) ≡ x → (y : Bool) → leb b (length t.two - p.drawn.two) ≡ y → (z : Bool) → leb c (length t.three - p.drawn.three) ≡ z
            → tapes_in_turn ≡ draw_block (counts 0 a b c) p t
        go false e y f z g = rw (enough_miners a b c p t, e)
        go true e false f z g = rw (enough_miners a b c p t, e, f)
        go true e true f false g = rw (enough_miners a b c p t, e, f, g)
        go true e true f true g = rw (enough_miners a b c p t, e, f, g) (cc (add-zero p.drawn.provider))

  -- a part of a drawn block
  of_block : {T : Type 0} (n : Drawn) (part : Tapes → T) → draw_part n part p t ≡ after (draw_block n p t) (λ w q. draw_of (part w) q) (spent_draw p)
  unfolding draw_block
  of_block {T} n part = go (enough n p t)
    where
      go : (e : Bool) → cond {A = Draw T} e (draw_of (part (block n p t)) (advance p n)) (spent_draw p)
          ≡ after {T = Tapes} (cond e (draw_of (block n p t) (advance p n)) (spent_draw p)) (λ w q. draw_of (part w) q) (spent_draw p)
      go true = refl
      go false = refl

  -- one word and two words of each miner are parts of a block
  pub each_of_block : draw_each p t ≡ after (draw_block (counts 0 1 1 1) p t) (λ w q. draw_of (words w 0) q) (spent_draw p)
  unfolding draw_each
  each_of_block = of_block (counts 0 1 1 1) (λ w. words w 0)

  pub pairs_of_block : draw_pairs p t ≡ after (draw_block (counts 0 2 2 2) p t) (λ w q. draw_of {T = Shares × Shares} (words w 0, words w 1) q) (spent_draw p)
  unfolding draw_pairs
  pairs_of_block = of_block {T = Shares × Shares} (counts 0 2 2 2) (λ w. (words w 0, words w 1))
