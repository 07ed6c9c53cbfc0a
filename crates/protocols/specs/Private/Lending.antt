-- How words are lent to the code's functions: the fronts of lists as arrays, and blocks of words.
use Rattle.std.specs.Prelude.{ℕ, ◌≡◌, ◌≤◌, List, [], ◌++◌, length, drop, map}
use Rattle.std.specs.Borrow.{MutBor, Fml, Lends, Array, u32}
use Rattle.std.proofs.lemmas.List.Edits.{sets}
use Rattle.protocols.specs.declared.place.Received.{Received}
use Rattle.protocols.specs.declared.shares.Shares.{Shares}
use Rattle.protocols.specs.Shares.{one, two, three, shares}
use Rattle.protocols.specs.Place.{Tapes, tapes, Lists, lists, word}

-- word j of miner 1's tape, word k of the others'
abbrev pub words_at : Tapes → ℕ → ℕ → Shares
words_at t j k = shares (word t one j) (word t two k) (word t three k)

-- tapes of which only miner 1's has words
abbrev pub tape_of_one : List ℕ → Tapes
tape_of_one l = tapes [] l [] []

-- tapes of a, b, c words of miners 1, 2, 3, and none of the provider
abbrev pub Block : ℕ → ℕ → ℕ → Tapes → Type 0
Block a b c t = (t.provider ≡ []) × (length t.one ≡ a) × (length t.two ≡ b) × (length t.three ≡ c)

-- the lists of miners 1, 2, 3 have room for a, b, c words
abbrev pub HaveRoom : ℕ → ℕ → ℕ → Lists → Type 0
HaveRoom a b c l = (a ≤ length l.one) × (b ≤ length l.two) × (c ≤ length l.three)

-- a list's first n words are lent as an array: what it holds at the end comes before the list's other words
abbrev pub LendsFront : ℕ → MutBor (List ℕ) → MutBor (List ℕ) → Fml
LendsFront n l front = Lends (Array u32 0) (Array u32 0) l front (λ words. words ++ drop n l.now)

-- the words w written to the lists l, behind the first k words of each
abbrev pub with_words_at : Received → Lists → Lists → Lists
with_words_at k l w =
    lists (sets l.one k.one w.one) (sets l.two k.two w.two) (sets l.three k.three w.three)
    (sets l.controller k.controller w.controller)

-- each miner sends its words to the next miner, in order
abbrev pub to_next_in_order : List Shares → Lists
to_next_in_order s = lists (map (λ x. x.three) s) (map (λ x. x.one) s) (map (λ x. x.two) s) []
