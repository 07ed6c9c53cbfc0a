-- Lent lists: entries of handles, an entry that is written, and words that are appended or drawn.
use Prim.Native.Nat.{ℕ, zero, suc, ◌+◌, ◌-◌, ◌≤◌, ◌<◌}
use mathlib.Core.Path.{◌≡◌, refl, sym, ap, ap₂, ◌∙◌, subst}
use mathlib.Core.List.{List, [], ◌∷◌, ◌++◌, map, map-append, append_assoc}
use native.Mathlib.Decide.{dec_lt}
use native.Mathlib.Nat.{add-zero}
use native.Mathlib.Numerals.{add-one}
use native.Mathlib.Omega.{arith}
use lib.ListN.{length, get_or, take, drop, set, length-append, length-set, get_or-append}
use lib.Seq.{take-suc, take_at, take-suc-set, length-take-le, get_or_at, get_or-set_same, get_or-set_other, sets, sets-eq}
use Rattle.protocols.specs.declared.place.Party.{Party}
use Rattle.protocols.specs.declared.place.Party.TheVariants.{Provider, One, Two, Three}
use Rattle.protocols.specs.declared.place.Drawn.{Drawn}
use Rattle.protocols.specs.declared.place.Place.{Place}
use Rattle.protocols.specs.declared.shares.Shares.{Shares}
use Rattle.protocols.specs.Shares.{Miner, one, two, three, at, SharesAreWords}
use Rattle.protocols.specs.Place.{count, plus, Lists, Receiver, miner, controller, list}
use Rattle.protocols.specs.Contents.{AllBelow}
use Rattle.protocols.specs.Counts.{count_for}
use Rattle.machine.specs.declared.row.Row.{Row}
use Rattle.machine.specs.Table.{with_row}
use Rattle.machine.specs.Lent.{Tables, Lent, table, entry, shares_at, IsFilled, filled_shares}
use Rattle.protocols.proofs.Laws.Blocks.{below-append}
use Rattle.machine.specs.Command.{with_entry, with_shares, with_received}
use Rattle.machine.specs.Start.{up_to}

-- ---- f 1 to f k

module _ {A : Type 0} where
  length-up_to : (k : ℕ) (f : ℕ → A) → length (up_to k f) ≡ k
  unfolding up_to
  length-up_to zero f = refl
  length-up_to (suc k) f = length-append (up_to k f) (f (suc k) ∷ []) ∙ omega (arith, length-up_to k f)

  element_up_to : (k : ℕ) (f : ℕ → A) (d : A) (i : ℕ) → i < k → get_or (up_to k f) i d ≡ f (suc i)
  unfolding up_to
  element_up_to zero f d i h = absurd (omega arith)
  element_up_to (suc k) f d i h = by_place (dec_lt i k) (element_up_to k f d i)
    where
      by_place : Dec (i < k) → (i < k → get_or (up_to k f) i d ≡ f (suc i)) → get_or (up_to (suc k) f) i d ≡ f (suc i)
      by_place (yes j) e = get_or-append (up_to k f) (f (suc k) ∷ []) d i (omega (arith, length-up_to k f)) ∙ e j
      by_place (no j) e =
          let same : k ≡ i = omega arith in
          get_or_at (up_to k f) (f (suc k)) [] d i (length-up_to k f ∙ same) ∙ ap (λ (h : ℕ). f (suc h)) same

  pub get_or-up_to : (k : ℕ) (f : ℕ → A) (d : A) (h : ℕ) → 1 ≤ h → h ≤ k → get_or (up_to k f) (h - 1) d ≡ f h
  get_or-up_to k f d h i j = element_up_to k f d (h - 1) (omega arith) ∙ ap f (omega arith)

  pub up_to-same : (k : ℕ) (f g : ℕ → A) → ((h : ℕ) → 1 ≤ h → h ≤ k → f h ≡ g h) → up_to k f ≡ up_to k g
  unfolding up_to
  up_to-same zero f g e = refl
  up_to-same (suc k) f g e =
      ap₂ (λ (l : List A) (a : A). l ++ (a ∷ [])) (up_to-same k f g (λ h i j. e h i (omega arith))) (e (suc k) (omega arith) (omega arith))

pub map-up_to : {A B : Type 0} (g : A → B) (k : ℕ) (f : ℕ → A) → map g (up_to k f) ≡ up_to k (λ h. g (f h))
unfolding up_to
map-up_to g zero f = refl
map-up_to {B} g (suc k) f = map-append g (up_to k f) (f (suc k) ∷ []) ∙ ap (λ (l : List B). l ++ (g (f (suc k)) ∷ [])) (map-up_to g k f)

pub up_to-take : (k : ℕ) (l : List ℕ) → k ≤ length l → up_to k (entry l) ≡ take k l
unfolding up_to
up_to-take zero l h = refl
up_to-take (suc k) l h =
    ap₂ (λ (s : List ℕ) (i : ℕ). s ++ (get_or l i 0 ∷ [])) (up_to-take k l (omega arith)) (omega arith) ∙ sym (take-suc l k 0 h)

-- ---- an entry that is written

pub entry-set_old : (l : List ℕ) (k w h : ℕ) → 1 ≤ h → h ≤ k → entry (set l k w) h ≡ entry l h
entry-set_old l k w h i j = get_or-set_other l k (h - 1) w 0 (omega arith)

pub entry-set_new : (l : List ℕ) (k w : ℕ) → k < length l → entry (set l k w) (suc k) ≡ w
entry-set_new l k w h = ap (λ (i : ℕ). get_or (set l k w) i 0) (omega arith) ∙ get_or-set_same l k w 0 h

pub get_or-put : (v : ℕ) (l : List ℕ) (k w i : ℕ) → ¬ ((k ≤ i) × (i < k + v)) → get_or (with_entry v l k w) i 0 ≡ get_or l i 0
get_or-put zero l k w i h = refl
get_or-put (suc v) l k w i h = get_or-set_other l k i w 0 (λ e. h (omega (arith, e)))

pub length-put : (v : ℕ) (l : List ℕ) (k w : ℕ) → length (with_entry v l k w) ≡ length l
length-put zero l k w = refl
length-put (suc v) l k w = length-set l k w

pub table-with_shares : (i : Miner) (v : ℕ) (t : Tables) (k : ℕ) (s : Shares) → table i (with_shares v t k s) ≡ with_entry v (table i t) k (at i s)
table-with_shares one v t k s = refl
table-with_shares two v t k s = refl
table-with_shares three v t k s = refl

-- ---- words that are appended

pub sets_appended : (l : List ℕ) (k : ℕ) (s : List ℕ) → k + length s ≤ length l → sets l k s ≡ take k l ++ (s ++ drop (k + length s) l)
sets_appended l k s h = sets-eq s l k h ∙ append_assoc (take k l) s (drop (k + length s) l)

pub list-with_words : (r : Receiver) (l : Lists) (p : Place) (s : Lists) → list r (with_received l p s) ≡ sets (list r l) (count_for r p.received) (list r s)
list-with_words (miner one) l p s = refl
list-with_words (miner two) l p s = refl
list-with_words (miner three) l p s = refl
list-with_words controller l p s = refl

pub count-plus : (i : Party) (a b : Drawn) → count i (plus a b) ≡ count i a + count i b
count-plus Provider a b = refl
count-plus One a b = refl
count-plus Two a b = refl
count-plus Three a b = refl

pub due-moved : (r : Receiver) (p : Place) (x : Row) → count_for r (with_row p x).received ≡ count_for r p.received + count_for r x.received
due-moved (miner one) p x = refl
due-moved (miner two) p x = refl
due-moved (miner three) p x = refl
due-moved controller p x = refl

-- ---- every word is below m

module _ (m : ℕ) where
  pub below-get_or : (l : List ℕ) (i : ℕ) → 0 < m → AllBelow m l → get_or l i 0 < m
  below-get_or [] i h b = h
  below-get_or (x ∷ l) zero h b = b.0
  below-get_or (x ∷ l) (suc i) h b = below-get_or l i h b.1

  below-filled : (l : List ℕ) (k i : ℕ) → 0 < m → i < k → AllBelow m (take k l) → get_or l i 0 < m
  below-filled [] k i h j b = h
  below-filled (x ∷ l) zero i h j b = absurd (omega arith)
  below-filled (x ∷ l) (suc k) zero h j b = b.0
  below-filled (x ∷ l) (suc k) (suc i) h j b = below-filled l k i h (omega arith) b.1

  pub shares_are_words : (p : Place) (l : Lent) (h : ℕ) → 0 < m → IsFilled p h → ((i : Miner) → AllBelow m (filled_shares p l i)) → SharesAreWords m (shares_at l.tables h)
  shares_are_words p l h k f b one = below-filled l.tables.one p.handles (h - 1) k (omega (arith, f)) (b one)
  shares_are_words p l h k f b two = below-filled l.tables.two p.handles (h - 1) k (omega (arith, f)) (b two)
  shares_are_words p l h k f b three = below-filled l.tables.three p.handles (h - 1) k (omega (arith, f)) (b three)

  -- after an entry is filled, or none
  pub below_put : (v : ℕ) (l : List ℕ) (k w : ℕ) → v ≤ 1 → k + v ≤ length l → AllBelow m (take k l) → w < m → AllBelow m (take (k + v) (with_entry v l k w))
  below_put zero l k w i h b c = subst (λ (j : ℕ). AllBelow m (take j l)) (sym (add-zero k)) b
  below_put (suc zero) l k w i h b c =
      subst (AllBelow m) (sym (ap (λ (j : ℕ). take j (set l k w)) (add-one k) ∙ take-suc-set l k w (omega arith))) (below-append m (take k l) (w ∷ []) b (c, tt))
  below_put (suc (suc v)) l k w i h b c = absurd (omega arith)

  -- after words are appended
  pub below-sets : (l : List ℕ) (k : ℕ) (s : List ℕ) (j : ℕ) → length s ≡ j → k + j ≤ length l → AllBelow m (take k l) → AllBelow m s → AllBelow m (take (k + j) (sets l k s))
  below-sets l k s j e h b c = subst (AllBelow m) (sym filled) (below-append m (take k l) s b c)
    where
      long : length (take k l ++ s) ≡ k + j
      long = length-append (take k l) s ∙ omega (arith, length-take-le k l (omega (arith, h)), e)

      filled : take (k + j) (sets l k s) ≡ take k l ++ s
      filled = ap (take (k + j)) (sets-eq s l k (omega (arith, h, e))) ∙ take_at (take k l ++ s) (drop (k + length s) l) (k + j) long
