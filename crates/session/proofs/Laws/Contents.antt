-- The contents of a sheet, pair by pair, and what holds of the bodies if the contents pass the tests.
use Prim.Native.Nat.{ℕ, zero, suc, ◌+◌, ◌*◌, ◌/◌, ◌≤◌, ◌<◌}
use mathlib.Core.Path.{◌≡◌, refl, ap, ◌∙◌}
use mathlib.Core.List.{List, [], ◌∷◌, ◌++◌, append-nil}
use mathlib.Core.Bool.{Bool, true, false, cond, ◌&&◌, false≢true}
use mathlib.Core.Logic.{◌↔◌}
use native.Mathlib.Omega.{arith}
use lib.ListN.{length, get_or, take, drop}
use lib.Seq.{get_or-take, length-take-le}
use lib.Dec.{eqb, leb}
use borrow.Author.Tests.{eqb-true, leb-true, eq-eqb, ne_eqb, le-leb, lt-leb}
use native.Mathlib.Decide.{dec_le}
use Rattle.std.proofs.lemmas.Bool.Decides.{nat_tests}
use Rattle.std.proofs.Common.{slice_index_or}
use Rattle.std.specs.Bool.{IsTrue}
use Rattle.std.specs.Simd.{first_chunks}
use Rattle.std.proofs.lemmas.Bool.{false_from_ne_true}
use Rattle.std.proofs.lemmas.List.{drop_all}
use Rattle.protocols.proofs.Laws.Deliveries.{both}
use Rattle.session.specs.Words.{words_of}
use Rattle.session.specs.Contents.{is_chained, limits, is_within_limits, start_of, count_of}
use Rattle.session.specs.Private.Bodies.{Bodies}
use Rattle.session.specs.Session.{first_refusal, is_whole, has_chained_contents, has_legal_counts}
use Rattle.session.proofs.Laws.Words.{length-words_of, words_of-cut}

pub twelve : (f : List ℕ) → 48 ≤ length f → length (take 12 (words_of f)) ≡ 12
twelve f long = length-take-le 12 (words_of f) (omega (arith, length-words_of f))

-- the first 48 bytes, decoded over twelve words, are the contents
pub contents_read : (f b d : List ℕ) → b ≡ take 48 f → 48 ≤ length f → length d ≡ 12 → words_of b ++ drop (length b / 4) d ≡ take 12 (words_of f)
contents_read f b d e h g =
    let k : length b ≡ 48 = ap length e ∙ length-take-le 48 f h in
    rw (drop_all (length b / 4) d (omega arith), append-nil, e) (words_of-cut f 12).0

-- ---- pair by pair

pub two-suc : (k : ℕ) → 2 * suc k ≡ suc (suc (2 * k))
two-suc k = omega arith

-- word j of pair i of the first n pairs of the words l
abbrev pub pair_word : List ℕ → ℕ → ℕ → ℕ → ℕ
pair_word l n i j = slice_index_or (get_or (first_chunks 2 n l) i []) j 0

pub next_pair : (l : List ℕ) (n i : ℕ) → i < n → 2 * n ≤ length l → drop (2 * i) l ≡ pair_word l n i 0 ∷ pair_word l n i 1 ∷ drop (2 * (i + 1)) l
next_pair l zero i h g = absurd (omega arith)
next_pair [] (suc n) i h g = absurd (omega arith)
next_pair (s ∷ []) (suc n) i h g = absurd (omega arith)
next_pair (s ∷ c ∷ r) (suc n) zero h g = refl
next_pair (s ∷ c ∷ r) (suc n) (suc i) h g =
    let k : 2 * (suc i + 1) ≡ suc (suc (2 * (i + 1))) = omega arith in rw (two-suc i, k) (next_pair r n i (omega arith) (omega arith))

module _ (l : List ℕ) (n i at end : ℕ) (h : i < n) (g : 2 * n ≤ length l) where
  pub chain_turn : pair_word l n i 0 ≡ at → is_chained (at + pair_word l n i 1) (drop (2 * (i + 1)) l) end ≡ is_chained at (drop (2 * i) l) end
  unfolding is_chained
  chain_turn e = rw (next_pair l n i h g, e, eq-eqb at at refl)

  pub chain_broken : ¬ (pair_word l n i 0 ≡ at) → false ≡ is_chained at (drop (2 * i) l) end
  unfolding is_chained
  chain_broken e = rw (next_pair l n i h g, ne_eqb (pair_word l n i 0) at e)

-- the count of each of the first pairs is at most its limit
abbrev Each : List ℕ → List ℕ → ℕ → Type 0
Each ms l n = (k : ℕ) → k < length ms → pair_word l n k 1 ≤ get_or ms k 0

pub each_within : (ms l : List ℕ) (n : ℕ) (b : Bool) → length ms ≤ n → 2 * n ≤ length l → IsTrue b ↔ Each ms l n → b ≡ is_within_limits ms l
unfolding is_within_limits
each_within [] l n b h g e = e.1 (λ k z. absurd (omega arith))
each_within (m ∷ ms) l zero b h g e = absurd (omega arith)
each_within (m ∷ ms) [] (suc n) b h g e = absurd (omega arith)
each_within (m ∷ ms) (s ∷ []) (suc n) b h g e = absurd (omega arith)
each_within (m ∷ ms) (s ∷ c ∷ r) (suc n) b h g e = by_count (dec_le c m) (λ le. each_within ms r n b (omega arith) (omega arith) (rest le))
  where
    rest : c ≤ m → IsTrue b ↔ Each ms r n
    rest le = (λ t k z. e.0 t (suc k) (omega arith), λ all. e.1 (both le all))
      where
        both : c ≤ m → Each ms r n → Each (m ∷ ms) (s ∷ c ∷ r) (suc n)
        both le all zero z = le
        both le all (suc k) z = all k (omega arith)

    by_count : Dec (c ≤ m) → (c ≤ m → b ≡ is_within_limits ms r) → b ≡ (leb c m && is_within_limits ms r)
    by_count (yes le) i = rw (le-leb c m le) (i le)
    by_count (no gt) i = rw (lt-leb c m (omega arith)) (false_from_ne_true b (λ t. gt (e.0 t 0 (omega arith))))

-- ---- contents that pass the tests

-- all four tests hold if the number is 0
all_hold : (a b c d : Bool) → ◌≡◌ {A = ℕ} (cond a (cond b (cond c (cond d 0 4) 3) 2) 1) 0 → (a ≡ true) × (b ≡ true) × (c ≡ true) × (d ≡ true)
all_hold a b c d h = (grind (arith, nat_tests), grind (arith, nat_tests), grind (arith, nat_tests), grind (arith, nat_tests))

pub record PassesTests (f : List ℕ) (lent : Bool) : Type 0 where
  pub whole : is_whole f ≡ true
  pub chain : has_chained_contents f ≡ true
  pub limits : has_legal_counts f ≡ true
  pub enough : lent ≡ true

pub passes_tests : (f : List ℕ) (lent : Bool) → first_refusal f lent ≡ 0 → PassesTests f lent
unfolding first_refusal
passes_tests f lent h =
    let t = all_hold (is_whole f) (has_chained_contents f) (has_legal_counts f) lent h in record { whole = t.0; chain = t.1; limits = t.2; enough = t.3 }

pub long : (f : List ℕ) {lent : Bool} → PassesTests f lent → 48 ≤ length f
long f a = leb-true 48 (length f) (both _ _ a.whole).0

chained-le : (at end : ℕ) (l : List ℕ) → is_chained at l end ≡ true → at ≤ end
unfolding is_chained
chained-le at end [] h = let e = eqb-true at end h in omega arith
chained-le at end (s ∷ []) h = absurd (false≢true h)
chained-le at end (s ∷ n ∷ r) h =
    let t = both (eqb s at) (is_chained (s + n) r end) h in
    let e = eqb-true s at t.0 in
    let m = chained-le (s + n) end r t.1 in
    omega arith

pub two-suc-add : (k : ℕ) → 2 * suc k + 1 ≡ suc (suc (2 * k + 1))
two-suc-add k = omega arith

-- each body ends within the file
body_ends : (k at end : ℕ) (l : List ℕ) → 2 * k + 1 < length l → is_chained at l end ≡ true → start_of l k + count_of l k ≤ end
unfolding is_chained
body_ends k at end [] h e = absurd (omega arith)
body_ends k at end (s ∷ []) h e = absurd (false≢true e)
body_ends zero at end (s ∷ n ∷ r) h e = chained-le (s + n) end r (both (eqb s at) (is_chained (s + n) r end) e).1
body_ends (suc k) at end (s ∷ n ∷ r) h e =
    rw (two-suc-add k, two-suc k) (body_ends k (s + n) end r (omega arith) (both (eqb s at) (is_chained (s + n) r end) e).1)

total : List ℕ → ℕ
total [] = 0
total (m ∷ ms) = m + total ms

-- a file whose bodies are within their limits is no longer than these allow
room : (ms : List ℕ) (at end : ℕ) (l : List ℕ) → length l ≡ 2 * length ms → is_chained at l end ≡ true → is_within_limits ms l ≡ true → end ≤ at + total ms
unfolding is_chained is_within_limits total
room [] at end [] h e w = let q = eqb-true at end e in omega arith
room [] at end (s ∷ []) h e w = absurd (false≢true e)
room [] at end (s ∷ n ∷ r) h e w = absurd (omega arith)
room (m ∷ ms) at end [] h e w = absurd (false≢true w)
room (m ∷ ms) at end (s ∷ []) h e w = absurd (false≢true w)
room (m ∷ ms) at end (s ∷ n ∷ r) h e w =
    let t = both (eqb s at) (is_chained (s + n) r end) e in
    let u = both (leb n m) (is_within_limits ms r) w in
    let q = eqb-true s at t.0 in
    let b = leb-true n m u.0 in
    let v = room ms (s + n) end r (omega arith) t.1 u.1 in
    omega arith

pub fits_lent : (f : List ℕ) {lent : Bool} → PassesTests f lent → length f / 4 ≤ 7692
unfolding total
fits_lent f a = room limits 12 (length f / 4) (take 12 (words_of f)) (twelve f (long f a)) a.chain (both _ _ a.limits).0

pub bodies : (f : List ℕ) {lent : Bool} → PassesTests f lent → Bodies (words_of f)
bodies f a =
    record {
      long = omega (arith, length-words_of f, long f a);
      within = λ k h. ends k h (get_or-take 12 (words_of f) (2 * k) 0 (omega arith)) (get_or-take 12 (words_of f) (2 * k + 1) 0 (omega arith));
    }
  where
    ends : (k : ℕ) → k ≤ 5 → start_of (take 12 (words_of f)) k ≡ start_of (words_of f) k → count_of (take 12 (words_of f)) k ≡ count_of (words_of f) k
        → start_of (words_of f) k + count_of (words_of f) k ≤ length (words_of f)
    ends k h s n =
        let e = body_ends k 12 (length f / 4) (take 12 (words_of f)) (omega (arith, twelve f (long f a))) a.chain in
        omega (arith, e, s, n, length-words_of f)

pub commands_count : (f : List ℕ) → count_of (take 12 (words_of f)) 0 ≡ count_of (words_of f) 0
commands_count f = get_or-take 12 (words_of f) 1 0 (omega arith)
