-- Words written into a list, one after the other, and into its tail.
use Rattle.std.proofs.Common.{◌≡◌, ℕ, suc, ◌+◌, ◌-◌, ◌<◌, ◌≤◌, List, [], ◌∷◌, ◌++◌, length, map, get_or, take, drop, set, sym, ap, ◌∙◌, append_assoc, append-nil, add-zero, zero-add, add-one, arith, length-drop, drop_of_length-le, length-take-le, take_all, drop-cons, drop-drop}
use lib.Seq.{sets, sets-eq}
use Rattle.std.proofs.lemmas.List.{map-append, length-map, take_more}
use Rattle.protocols.specs.declared.shares.Shares.{Shares}
use Rattle.protocols.specs.Place.{Lists, lists}
use Rattle.protocols.specs.Counts.{received_counts}
use Rattle.protocols.specs.Private.Lending.{to_next_in_order, with_words_at}

-- ---- word by word

-- the words from word i on, written behind the first i
pub sets-start : (l s : List ℕ) (at : ℕ) → sets l (at + 0) (drop 0 s) ≡ sets l at s
sets-start l s at = rw add-zero

pub sets_turn : (l s : List ℕ) (at i : ℕ) → i < length s
    → sets (set l (at + i) (get_or s i 0)) (at + (i + 1)) (drop (i + 1) s) ≡ sets l (at + i) (drop i s)
sets_turn l s at i h =
    let e : at + (i + 1) ≡ suc (at + i) = omega arith in
    rw (e, drop-cons s i 0 h, add-one)

pub sets_end : (l s : List ℕ) (at i : ℕ) → length s ≤ i → sets l (at + i) (drop i s) ≡ l
sets_end l s at i h = rw (drop_of_length-le s {i = i} h)

-- ---- words after words

pub sets-append : (l s t : List ℕ) (at : ℕ) → sets (sets l at s) (at + length s) t ≡ sets l at (s ++ t)
sets-append l [] t at = rw add-zero
sets-append l (a ∷ s) t at =
    let e : at + suc (length s) ≡ suc at + length s = omega arith in
    rw e (sets-append (set l at a) s t (suc at))

-- words written behind the n words at the front
pub sets_behind : (l s t : List ℕ) (n : ℕ) → n ≡ length s → sets (sets l 0 s) n t ≡ sets l 0 (s ++ t)
sets_behind l s t n e = ap (λ (k : ℕ). sets (sets l 0 s) k t) (e ∙ sym (zero-add (length s))) ∙ sets-append l s t 0

-- ---- each miner's word of shares

-- the first k words, then the next one
pub put_next : (l : List ℕ) (at k : ℕ) (w : List Shares) (z : Shares) (g : Shares → ℕ) → k < length w
    → set (sets l at (map g (take k w))) (at + k) (g (get_or w k z)) ≡ sets l at (map g (take (k + 1) w))
put_next l at k w z g h =
    let n : length (map g (take k w)) ≡ k = length-map (take k w) g ∙ length-take-le k w (omega arith) in
    ap (λ (i : ℕ). set (sets l at (map g (take k w))) (at + i) (g (get_or w k z))) (sym n)
    ∙ sets-append l (map g (take k w)) (g (get_or w k z) ∷ []) at
    ∙ ap (sets l at) (sym (map-append g (take k w) (get_or w k z ∷ [])) ∙ ap (map g) (sym (take_more w k z h)))

-- in all miners' lists: each miner's next word goes to the next miner
pub puts_next : (first at k : ℕ) (w : List Shares) (z : Shares) (l₀ l : Lists) → k < length w
    → l ≡ with_words_at (received_counts first at at 0) l₀ (to_next_in_order (take k w))
    → let x = get_or w k z in
    lists (set l.one (first + k) x.three) (set l.two (at + k) x.one) (set l.three (at + k) x.two) l.controller
    ≡ with_words_at (received_counts first at at 0) l₀ (to_next_in_order (take (k + 1) w))
puts_next first at k w z l₀ l h e =
    ap (λ (l : Lists). lists (set l.one (first + k) (get_or w k z).three) (set l.two (at + k) (get_or w k z).one) (set l.three (at + k) (get_or w k z).two) l.controller) e
    ∙ (λ i. lists (put_next l₀.one first k w z (λ (x : Shares). x.three) h i) (put_next l₀.two at k w z (λ (x : Shares). x.one) h i)
    (put_next l₀.three at k w z (λ (x : Shares). x.two) h i) l₀.controller)

-- ---- the tail of a list

-- n words from an index on are the whole tail, if the list has no more
pub all_lent : (l : List ℕ) (at n : ℕ) → length l ≤ at + n → take n (drop at l) ≡ drop at l
all_lent l at n h = let d : length (drop at l) ≡ length l - at = length-drop at l in take_all n (drop at l) (omega (arith, d, h))

-- written back, they are the whole tail again
pub all_back : (l : List ℕ) (at n : ℕ) (back : List ℕ) → length l ≤ at + n → take at l ++ (back ++ drop n (drop at l)) ≡ take at l ++ back
all_back l at n back h =
    let d : length (drop at l) ≡ length l - at = length-drop at l in
    let z : drop n (drop at l) ≡ [] = drop_of_length-le (drop at l) {i = n} (omega (arith, d, h)) in
    rw (z, append-nil)

-- the tail, by the list's own length
pub tail_lent : (l : List ℕ) (at : ℕ) → take (length l - at) (drop at l) ≡ drop at l
tail_lent l at = all_lent l at (length l - at) (omega arith)

pub tail_back : (l : List ℕ) (at : ℕ) (back : List ℕ) → take at l ++ (back ++ drop (length l - at) (drop at l)) ≡ take at l ++ back
tail_back l at back = all_back l at (length l - at) back (omega arith)

-- words written to the front of the tail are written into the list
pub tail_sets : (l w : List ℕ) (at : ℕ) → at + length w ≤ length l → take at l ++ sets (drop at l) 0 w ≡ sets l at w
tail_sets l w at h =
    let n : length (drop at l) ≡ length l - at = length-drop at l in
    let s : sets (drop at l) 0 w ≡ w ++ drop (length w) (drop at l) = sets-eq w (drop at l) 0 (omega arith) ∙ ap (λ (k : ℕ). w ++ drop k (drop at l)) (zero-add (length w)) in
    ap (λ (r : List ℕ). take at l ++ r) (s ∙ ap (λ (r : List ℕ). w ++ r) (drop-drop (length w) at l))
    ∙ sym (sets-eq w l at h ∙ append_assoc (take at l) w (drop (at + length w) l))
