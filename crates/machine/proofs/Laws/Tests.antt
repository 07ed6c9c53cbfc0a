-- Tests that decide: a test holds if its refusal does not apply, and fails if it does.
use Prim.Native.Nat.{ℕ, zero, suc, ◌≤◌, ◌<◌, suc-le-suc}
use mathlib.Core.Path.{◌≡◌, refl, ap}
use mathlib.Core.Logic.{◌⊎◌, inl, inr}
use mathlib.Core.Bool.{Bool, true, false, ◌&&◌, ◌||◌, false≢true}
use mathlib.Core.List.{List, [], ◌∷◌}
use native.Mathlib.Omega.{arith}
use native.Mathlib.Nat.{le_of_suc-le-suc, not-suc-le-zero}
use native.Mathlib.Decide.{ℕ_discrete}
use borrow.Author.Tests.{leb-true, leb-false, ltb-true, ltb-false, eqb-true, eqb-false}
use lib.Dec.{leb, ltb, eqb}
use lib.ListN.{length, get_or, take}
use Rattle.protocols.specs.declared.place.Party.{Party}
use Rattle.protocols.specs.declared.place.Party.TheVariants.{Provider, One, Two, Three}
use Rattle.protocols.specs.declared.place.Place.{Place}
use Rattle.protocols.specs.Shares.{Miner, one, two, three}
use Rattle.protocols.specs.Place.{every_party, Receiver, miner, controller}
use Rattle.machine.specs.declared.row.Use.{Use}
use Rattle.machine.specs.declared.row.Use.TheVariants.{Unused, Handle, Word, Position}
use Rattle.machine.specs.Lent.{IsFilled}
use Rattle.machine.specs.Verdict.{every_receiver, are_kinds, meets, is_filled}
use Rattle.machine.specs.Refusals.{Field, a, b}

-- the test in the index holds exactly if P does not
pub data Decides (P : Type 0) : Bool → Type 0 where
  holds : ¬ P → Decides P true
  fails : P → Decides P false

pub not_where : {P : Type 0} {t : Bool} → Decides P t → t ≡ true → ¬ P
not_where (holds h) e = h
not_where (fails p) e = absurd (false≢true e)

pub holds_where : {P : Type 0} {t : Bool} → Decides P t → ¬ P → t ≡ true
holds_where (holds h) n = refl
holds_where (fails p) n = absurd (n p)

-- ---- connectives

-- the same test decides an equivalent proposition
pub same_as : {P Q : Type 0} {t : Bool} → (P → Q) → (Q → P) → Decides P t → Decides Q t
same_as f g (holds h) = holds (λ q. h (g q))
same_as f g (fails h) = fails (f h)

right : {P Q : Type 0} {t : Bool} → ¬ P → Decides Q t → Decides (P ⊎ Q) t
right {P} {Q} n (holds h) = holds none
  where
    none : ¬ (P ⊎ Q)
    none (inl p) = n p
    none (inr q) = h q
right n (fails h) = fails (inr h)

-- the second test counts only if the first holds
pub and : {P Q : Type 0} {s t : Bool} → Decides P s → (¬ P → Decides Q t) → Decides (P ⊎ Q) (s && t)
and (holds h) d = right h (d h)
and (fails h) d = fails (inl h)

pub four : {P Q R S : Type 0} {s t u v : Bool} → Decides P s → Decides Q t → Decides R u → Decides S v → Decides (P ⊎ (Q ⊎ (R ⊎ S))) (s && (t && (u && v)))
four d e f g = and d (λ n. and e (λ m. and f (λ k. g)))

or : {P Q : Type 0} {s t : Bool} → Decides P s → Decides Q t → Decides (P × Q) (s || t)
or (holds h) d = holds (λ q. h q.0)
or (fails p) (holds h) = holds (λ q. h q.1)
or (fails p) (fails q) = fails (p, q)

-- ---- numbers

-- an equation that cannot be false
pub stable : (x y : ℕ) → ¬ ¬ (x ≡ y) → x ≡ y
stable x y h = elim (ℕ_discrete x y) [ yes e ↦ e | no n ↦ absurd (h n) ]

pub by_le : (x y : ℕ) → Decides (y < x) (leb x y)
by_le x y = go (leb x y) refl
  where
    go : (t : Bool) → leb x y ≡ t → Decides (y < x) t
    go true e = holds (λ h. omega (arith, leb-true x y e))
    go false e = fails (leb-false x y e)

pub by_lt : (x y : ℕ) → Decides (y ≤ x) (ltb x y)
by_lt x y = go (ltb x y) refl
  where
    go : (t : Bool) → ltb x y ≡ t → Decides (y ≤ x) t
    go true e = holds (λ h. omega (arith, ltb-true x y e))
    go false e = fails (ltb-false x y e)

pub by_eq : (x y : ℕ) → Decides (¬ (x ≡ y)) (eqb x y)
by_eq x y = go (eqb x y) refl
  where
    go : (t : Bool) → eqb x y ≡ t → Decides (¬ (x ≡ y)) t
    go true e = holds (λ h. h (eqb-true x y e))
    go false e = fails (eqb-false x y e)

-- ---- tests of all fields and miners, and of the counts of all tapes and lists

pub some_field : {P : Field → Type 0} {t : Field → Bool} → ((f : Field) → Decides (P f) (t f)) → Decides ((f : Field) × P f) (t a && t b)
some_field {P} d = same_as to (λ s. from s.0 s.1) (and (d a) (λ n. d b))
  where
    to : P a ⊎ P b → (f : Field) × P f
    to (inl h) = (a, h)
    to (inr h) = (b, h)

    from : (f : Field) → P f → P a ⊎ P b
    from a h = inl h
    from b h = inr h

pub some_miner : {P : Miner → Type 0} {t : Miner → Bool} → ((i : Miner) → Decides (P i) (t i)) → Decides ((i : Miner) × P i) (t one && (t two && t three))
some_miner {P} d = same_as to (λ s. from s.0 s.1) (and (d one) (λ n. and (d two) (λ m. d three)))
  where
    to : P one ⊎ (P two ⊎ P three) → (i : Miner) × P i
    to (inl h) = (one, h)
    to (inr (inl h)) = (two, h)
    to (inr (inr h)) = (three, h)

    from : (i : Miner) → P i → P one ⊎ (P two ⊎ P three)
    from one h = inl h
    from two h = inr (inl h)
    from three h = inr (inr h)

pub some_tape : (f g : Party → ℕ) → Decides ((i : Party) × (g i < f i)) (every_party (λ i. leb (f i) (g i)))
some_tape f g = same_as to (λ s. from s.0 s.1) (four (at Provider) (at One) (at Two) (at Three))
  where
    Short : Party → Type 0
    Short i = g i < f i

    at : (i : Party) → Decides (Short i) (leb (f i) (g i))
    at i = by_le (f i) (g i)

    to : Short Provider ⊎ (Short One ⊎ (Short Two ⊎ Short Three)) → (i : Party) × Short i
    to (inl h) = (Provider, h)
    to (inr (inl h)) = (One, h)
    to (inr (inr (inl h))) = (Two, h)
    to (inr (inr (inr h))) = (Three, h)

    from : (i : Party) → Short i → Short Provider ⊎ (Short One ⊎ (Short Two ⊎ Short Three))
    from Provider h = inl h
    from One h = inr (inl h)
    from Two h = inr (inr (inl h))
    from Three h = inr (inr (inr h))

pub some_list : (f g : Receiver → ℕ) → Decides ((r : Receiver) × (g r < f r)) (every_receiver (λ r. leb (f r) (g r)))
some_list f g = same_as to (λ s. from s.0 s.1) (four (at (miner one)) (at (miner two)) (at (miner three)) (at controller))
  where
    Short : Receiver → Type 0
    Short r = g r < f r

    at : (r : Receiver) → Decides (Short r) (leb (f r) (g r))
    at r = by_le (f r) (g r)

    to : Short (miner one) ⊎ (Short (miner two) ⊎ (Short (miner three) ⊎ Short controller)) → (r : Receiver) × Short r
    to (inl h) = (miner one, h)
    to (inr (inl h)) = (miner two, h)
    to (inr (inr (inl h))) = (miner three, h)
    to (inr (inr (inr h))) = (controller, h)

    from : (r : Receiver) → Short r → Short (miner one) ⊎ (Short (miner two) ⊎ (Short (miner three) ⊎ Short controller))
    from (miner one) h = inl h
    from (miner two) h = inr (inl h)
    from (miner three) h = inr (inr (inl h))
    from controller h = inr (inr (inr h))

-- ---- the test of a field, by its use

-- different uses have different numbers
rank : Use → ℕ
rank Unused = 0
rank Handle = 1
rank Word = 2
rank Position = 3

-- the test for one use does not apply to another
other : {u v : Use} {P : Type 0} → ¬ (rank u ≡ rank v) → Decides ((u ≡ v) × P) true
other h = holds (λ q. h (ap rank q.0))

used : {u : Use} {P : Type 0} {t : Bool} → Decides P t → Decides ((u ≡ u) × P) t
used d = same_as (λ h. (refl, h)) (λ q. q.1) d

pub if_unused : (u : Use) {P : Type 0} {t : Bool} → Decides P t → Decides ((u ≡ Unused) × P) (meets u t true true)
unfolding rank
if_unused Unused d = used d
if_unused Handle d = other (omega arith)
if_unused Word d = other (omega arith)
if_unused Position d = other (omega arith)

pub if_handle : (u : Use) {P : Type 0} {t : Bool} → Decides P t → Decides ((u ≡ Handle) × P) (meets u true t true)
unfolding rank
if_handle Unused d = other (omega arith)
if_handle Handle d = used d
if_handle Word d = other (omega arith)
if_handle Position d = other (omega arith)

pub if_position : (u : Use) {P : Type 0} {t : Bool} → Decides P t → Decides ((u ≡ Position) × P) (meets u true true t)
unfolding rank
if_position Unused d = other (omega arith)
if_position Handle d = other (omega arith)
if_position Word d = other (omega arith)
if_position Position d = used d

-- ---- handles and kinds

pub by_filled : (p : Place) (h : ℕ) → Decides (¬ IsFilled p h) (is_filled p h)
by_filled p h = go (by_lt 0 h) (by_le h p.handles)
  where
    go : {s t : Bool} → Decides (h ≤ 0) s → Decides (p.handles < h) t → Decides (¬ IsFilled p h) (s && t)
    go (holds f) (holds g) = holds (λ n. n (omega arith))
    go (holds f) (fails g) = fails (λ k. omega arith)
    go (fails f) d = fails (λ k. omega arith)

pub stable_filled : (p : Place) (h : ℕ) → ¬ ¬ IsFilled p h → IsFilled p h
stable_filled p h n =
    let not-zero : ¬ (h < 1) = λ g. n (λ f. omega arith) in
    let not-above : ¬ (p.handles < h) = λ g. n (λ f. omega arith) in
    omega arith

-- a kind that is neither 1 nor 2
abbrev pub NoKind : ℕ → Type 0
NoKind k = (¬ (k ≡ 1)) × (¬ (k ≡ 2))

-- the test of the first k kinds of a list that has k or more
pub by_kinds : (k : ℕ) (l : List ℕ) → k ≤ length l → Decides ((i : ℕ) × (i < k) × NoKind (get_or l i 0)) (are_kinds (take k l))
by_kinds zero l h = holds (λ s. not-suc-le-zero s.1)
by_kinds (suc k) [] h = absurd (not-suc-le-zero h)
by_kinds (suc k) (m ∷ l) h = same_as to (λ s. from s.0 s.1 s.2) (and (or (by_eq m 1) (by_eq m 2)) (λ n. by_kinds k l (le_of_suc-le-suc h)))
  where
    to : NoKind m ⊎ ((i : ℕ) × (i < k) × NoKind (get_or l i 0)) → (i : ℕ) × (i < suc k) × NoKind (get_or (m ∷ l) i 0)
    to (inl e) = (zero, omega arith, e)
    to (inr s) = (suc s.0, suc-le-suc s.1, s.2)

    from : (i : ℕ) → i < suc k → NoKind (get_or (m ∷ l) i 0) → NoKind m ⊎ ((i : ℕ) × (i < k) × NoKind (get_or l i 0))
    from zero g e = inl e
    from (suc i) g e = inr (i, le_of_suc-le-suc g, e)
