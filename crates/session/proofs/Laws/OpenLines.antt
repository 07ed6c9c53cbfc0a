-- The lines of opens, one command at a time.
use Prim.Native.Nat.{ℕ, ◌+◌, ◌/◌, ◌≤◌, ◌<◌}
use mathlib.Core.Path.{◌≡◌, refl}
use mathlib.Core.List.{List, [], ◌∷◌, ◌++◌, map}
use native.Mathlib.Numerals.{add-one}
use borrow.Author.Tests.{eq-eqb, ne_eqb}
use lib.ListN.{length, get_or, drop, drop_of_length-le}
use lib.Seq.{drop-cons}
use lib.Chars.{codes}
use denote.Ref.{Bor}
use Rattle.std.specs.Simd.{first_chunks}
use Rattle.std.specs.declared.slice.Iter.{Iter}
use Rattle.std.specs.declared.option.Option.{Option}
use Rattle.std.specs.declared.option.Option.TheVariants.{None, Some}
use Rattle.std.specs.Option.{MatchOption}
use Rattle.std.proofs.lemmas.List.{nil_from_length}
use Rattle.std.specs.Slice.Iter.{iter_rest, iter_steps}
use Rattle.machine.specs.Run.{commands_of, sums_in_threes}
use Rattle.machine.proofs.Laws.Threes.{of_words, sum_in, commands_cut, sums_cut}
use Rattle.session.specs.declared.text.Text.{Text}
use Rattle.session.specs.Text.{line, open_line, open_lines_by_words}
use Rattle.session.specs.Private.Writing.{Adds}

-- ---- the lines of the commands cs, with the shares of ss, both in threes

abbrev pub lines_of_threes : ℕ → List (List ℕ) → List (List ℕ) → List ℕ
lines_of_threes m cs ss = open_lines_by_words (map of_words cs) (map (sum_in m) ss)

pub lines_of_threes-chunks : (m : ℕ) (cs ss : List ℕ) {cts sts : List (List ℕ)} → cts ≡ first_chunks 3 (length cs / 3) cs → sts ≡ first_chunks 3 (length ss / 3) ss
    → lines_of_threes m cts sts ≡ open_lines_by_words (commands_of cs) (sums_in_threes m ss)
lines_of_threes-chunks m cs ss ec es = rw (ec, es, commands_cut cs, sums_cut m ss)

pub lines_end : (m : ℕ) (cs ss : List (List ℕ)) (i : ℕ) → length cs ≤ i → lines_of_threes m (drop i cs) ss ≡ []
unfolding open_lines_by_words
lines_end m cs ss i h = rw (drop_of_length-le cs {i = i} h)

-- from command i on
module _ (m : ℕ) (cs ss : List (List ℕ)) (i : ℕ) where
  abbrev p : List ℕ
  p = get_or cs i []

  pub lines_open : {word : ℕ} (rest : List (List ℕ)) → i < length cs → get_or p 0 0 ≡ 11 → word ≡ get_or (map (sum_in m) ss) 0 0
      → map (sum_in m) rest ≡ drop 1 (map (sum_in m) ss) → lines_of_threes m (drop i cs) ss ≡ open_line (get_or p 1 0) word ++ lines_of_threes m (drop (i + 1) cs) rest
  unfolding open_lines_by_words
  lines_open rest h e w r = rw (add-one, drop-cons cs i [] h, eq-eqb (get_or p 0 0) 11 e, w, r)

  pub lines_other : i < length cs → (get_or p 0 0 ≡ 11 → ⊥) → lines_of_threes m (drop i cs) ss ≡ lines_of_threes m (drop (i + 1) cs) ss
  unfolding open_lines_by_words
  lines_other h e = rw (add-one, drop-cons cs i [] h, ne_eqb (get_or p 0 0) 11 e)

-- the sum of the next three shares of s, or 0 if there are none, and the shares left
pub next_sum : (m : ℕ) (s : Iter (List ℕ)) (r : Option (Bor (List ℕ))) (t : Iter (List ℕ)) (word : ℕ) → iter_steps s r t
    → MatchOption r (word ≡ 0) (λ x. word ≡ sum_in m x.now)
    → (word ≡ get_or (map (sum_in m) (iter_rest s)) 0 0) × (map (sum_in m) (iter_rest t) ≡ drop 1 (map (sum_in m) (iter_rest s)))
next_sum m s None t word h e = let none : iter_rest s ≡ [] = nil_from_length (iter_rest s) h.0 in rw (h.1, none) (e, refl)
next_sum m s (Some x) t word h e = rw h (e, refl)

pub adds_open_line : {a b : Text} {handle word h w : ℕ} → h ≡ handle → w ≡ word → Adds a (line (codes "open") (h ∷ w ∷ [])) b → Adds a (open_line handle word) b
unfolding open_line
adds_open_line eh ew k = rw (← eh, ← ew) k
