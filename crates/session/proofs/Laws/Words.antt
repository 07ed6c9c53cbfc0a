-- The words of a file, decoded one by one and four at a time.
use Prim.Native.Nat.{ℕ, zero, suc, ◌+◌, ◌*◌, ◌/◌, ◌≤◌, ◌<◌}
use mathlib.Core.Path.{◌≡◌, refl, sym, ap, ◌∙◌}
use mathlib.Core.List.{List, [], ◌∷◌, ◌++◌}
use native.Mathlib.Omega.{arith}
use lib.ListN.{length, get_or, take, drop, set, take-append-drop}
use lib.Seq.{sets, take_at}
use Rattle.std.proofs.Math.Seq.{take-add}
use Rattle.std.proofs.Common.{length-take-le, drop-drop}
use Rattle.std.proofs.lemmas.List.{take_more}
use mir.Syntax.{w32}
use Rattle.std.specs.Int.{from_le_bytes}
use Rattle.std.specs.Simd.{first_chunks}
use Rattle.protocols.proofs.Laws.Puts.{sets-append, sets_behind}
use Rattle.protocols.proofs.Laws.Deliveries.{begins_with}
use Rattle.session.specs.Words.{word_of_bytes, words_of}

pub length-words_of : (f : List ℕ) → length (words_of f) ≡ length f / 4
unfolding words_of
length-words_of [] = refl
length-words_of (a ∷ []) = refl
length-words_of (a ∷ b ∷ []) = refl
length-words_of (a ∷ b ∷ c ∷ []) = refl
length-words_of (a ∷ b ∷ c ∷ d ∷ r) = let h : length (words_of r) ≡ length r / 4 = length-words_of r in omega arith

-- four times a successor
four_suc : (i : ℕ) → 4 * suc i ≡ suc (suc (suc (suc (4 * i))))
four_suc i = omega arith

-- the first 4n bytes of a file give its first n words, and the other bytes the other words
pub words_of-cut : (f : List ℕ) (n : ℕ) → (words_of (take (4 * n) f) ≡ take n (words_of f)) × (words_of (drop (4 * n) f) ≡ drop n (words_of f))
unfolding words_of
words_of-cut f zero = (refl, refl)
words_of-cut [] (suc n) = rw (four_suc n) (refl, refl)
words_of-cut (a ∷ []) (suc n) = rw (four_suc n) (refl, refl)
words_of-cut (a ∷ b ∷ []) (suc n) = rw (four_suc n) (refl, refl)
words_of-cut (a ∷ b ∷ c ∷ []) (suc n) = rw (four_suc n) (refl, refl)
words_of-cut (a ∷ b ∷ c ∷ d ∷ r) (suc n) =
    let e = words_of-cut r n in rw (four_suc n) (ap (λ w. word_of_bytes a b c d ∷ w) e.0, e.1)

-- ---- decoding, one word a turn

chunk_word : (f : List ℕ) (k i : ℕ) → i < k → k ≤ length f / 4 → from_le_bytes w32 (get_or (first_chunks 4 k f) i []) ≡ get_or (words_of f) i 0
unfolding words_of
chunk_word f zero i h e = absurd (omega arith)
chunk_word [] (suc k) i h e = absurd (omega arith)
chunk_word (a ∷ []) (suc k) i h e = absurd (omega arith)
chunk_word (a ∷ b ∷ []) (suc k) i h e = absurd (omega arith)
chunk_word (a ∷ b ∷ c ∷ []) (suc k) i h e = absurd (omega arith)
chunk_word (a ∷ b ∷ c ∷ d ∷ r) (suc k) zero h e = omega arith
chunk_word (a ∷ b ∷ c ∷ d ∷ r) (suc k) (suc i) h e = chunk_word r k i (omega arith) (omega arith)

-- the words d with the first i words of the bytes f written from `at` on
abbrev pub with_first_words : List ℕ → List ℕ → ℕ → ℕ → List ℕ
with_first_words d f at i = sets d at (take i (words_of f))

pub decode_turn : (d f w : List ℕ) (cs : List (List ℕ)) (at i r : ℕ) → cs ≡ first_chunks 4 (length f / 4) f → i < length f / 4
    → r ≡ from_le_bytes w32 (get_or cs i []) → w ≡ with_first_words d f at i → set w (at + i) r ≡ with_first_words d f at (i + 1)
decode_turn d f w cs at i r ec h er ew =
    let n : length (take i (words_of f)) ≡ i = length-take-le i (words_of f) (omega (arith, h, length-words_of f)) in
    let g : r ≡ get_or (words_of f) i 0 = er ∙ ap (λ (c : List (List ℕ)). from_le_bytes w32 (get_or c i [])) ec ∙ chunk_word f (length f / 4) i h (omega arith) in
    (λ j. set (ew j) (at + sym n j) (g j))
    ∙ sets-append d (take i (words_of f)) (get_or (words_of f) i 0 ∷ []) at
    ∙ ap (sets d at) (sym (take_more (words_of f) i 0 (omega (arith, h, length-words_of f))))

-- ---- four words at a time

-- block i of the first k
block_is : (f : List ℕ) (k i : ℕ) → i < k → get_or (first_chunks 16 k f) i [] ≡ take 16 (drop (16 * i) f)
block_is f zero i h = absurd (omega arith)
block_is f (suc k) zero h = refl
block_is f (suc k) (suc i) h =
    let e : 16 + 16 * i ≡ 16 * suc i = omega arith in
    block_is (drop 16 f) k i (omega arith) ∙ ap (take 16) (drop-drop (16 * i) 16 f ∙ ap (λ (n : ℕ). drop n f) e)

-- a block's words are the next four
pub block_turn : (d f w b : List ℕ) (cs : List (List ℕ)) (i : ℕ) → cs ≡ first_chunks 16 (length f / 16) f → i < length f / 16 → b ≡ get_or cs i []
    → w ≡ with_first_words d f 0 (4 * i) → sets w (4 * i) (words_of b) ≡ with_first_words d f 0 (4 * (i + 1))
block_turn d f w b cs i ec h eb ew =
    let q = words_of f in
    let n : length (take (4 * i) q) ≡ 4 * i = length-take-le (4 * i) q (omega (arith, h, length-words_of f)) in
    let e : 16 * i ≡ 4 * (4 * i) = omega arith in
    let m : 4 * i + 4 ≡ 4 * (i + 1) = omega arith in
    let g : words_of b ≡ take 4 (drop (4 * i) q) =
    ap words_of (eb ∙ ap (λ (c : List (List ℕ)). get_or c i []) ec ∙ block_is f (length f / 16) i h ∙ ap (λ (k : ℕ). take 16 (drop k f)) e)
    ∙ (words_of-cut (drop (4 * (4 * i)) f) 4).0 ∙ ap (take 4) (words_of-cut f (4 * i)).1 in
    (λ j. sets (ew j) (4 * i) (g j))
    ∙ sets_behind d (take (4 * i) q) (take 4 (drop (4 * i) q)) (4 * i) (sym n)
    ∙ ap (sets d 0) (sym (take-add (4 * i) 4 q) ∙ ap (λ (k : ℕ). take k q) m)

-- the words left after the blocks come last
pub rest_turn : (d f w r : List ℕ) → length f / 4 ≤ length d → r ≡ drop (length f / 16 * 16) f → w ≡ with_first_words d f 0 (4 * (length f / 16))
    → sets w (4 * (length f / 16)) (words_of r) ≡ words_of f ++ drop (length f / 4) d
rest_turn d f w r h er ew =
    let q = words_of f in
    let k = 4 * (length f / 16) in
    let n : length (take k q) ≡ k = length-take-le k q (omega (arith, length-words_of f)) in
    let e : length f / 16 * 16 ≡ 4 * k = omega arith in
    let g : words_of r ≡ drop k q = ap words_of (er ∙ ap (λ (i : ℕ). drop i f) e) ∙ (words_of-cut f k).1 in
    (λ j. sets (ew j) k (g j))
    ∙ sets_behind d (take k q) (drop k q) k (sym n)
    ∙ ap (sets d 0) (take-append-drop k q)
    ∙ begins_with d q (omega (arith, h, length-words_of f))
    ∙ ap (λ (i : ℕ). q ++ drop i d) (length-words_of f)

-- the front of the lent words is the file's words
pub take-words_after : (f w : List ℕ) → take (length f / 4) (words_of f ++ drop (length f / 4) w) ≡ words_of f
take-words_after f w = take_at (words_of f) (drop (length f / 4) w) (length f / 4) (length-words_of f)
