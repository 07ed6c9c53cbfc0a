-- What this crate claims of the protocols; each claim is promised by the function of src/promises.rt in its comment.
-- Everywhere m is a modulus and n stands for words of 2 ^ n bits. Of shares and drawn words nothing is assumed but that
-- each is a word.
use Rattle.std.specs.Prelude.{◌≡◌, ℕ, suc, ◌+◌, ◌-◌, ◌*◌, ◌/◌, ◌^◌, ◌<◌, ◌≤◌, ◌==◌, cond, bit_xor}
use Rattle.std.specs.Prelude.{List, [], ◌∷◌, ◌++◌, length, take, drop, slice_index, Some, None}
use Rattle.protocols.specs.declared.place.Party.{Party}
use Rattle.protocols.specs.declared.place.Drawn.{Drawn}
use Rattle.protocols.specs.declared.place.Received.{Received}
use Rattle.protocols.specs.declared.place.Place.{Place}
use Rattle.protocols.specs.declared.shares.Shares.{Shares}
use Rattle.protocols.specs.Word.{width, modulus, add, sub, mul, bit_at, low_bit}
use Rattle.protocols.specs.Shares.{SharesAreWords, Operands, shares, sum_of, xor_of}
use Rattle.protocols.specs.Place.{Tapes, tape, Lists, lists, Receiver, list, in_order}
use Rattle.protocols.specs.Place.{count, counts, with_count, advance, block, draw, draw_answer}
use Rattle.protocols.specs.Protocol.{Protocol, locally, done, spent, perform}
use Rattle.protocols.specs.Outcome.{delivery, with_fronts}
use Rattle.protocols.specs.Store.{store}
use Rattle.protocols.specs.Local.{sum, difference, constant_multiple, constant_sum}
use Rattle.protocols.specs.Reshare.{reshare}
use Rattle.protocols.specs.Multiply.{multiply}
use Rattle.protocols.specs.Bit.{bit}
use Rattle.protocols.specs.Bits.{source, round_s, round_p, bits}
use Rattle.protocols.specs.Equal.{fold_share, equal}
use Rattle.protocols.specs.Open.{opening}
use Rattle.protocols.specs.Below.{below}
use Rattle.protocols.specs.Contents.{Contents}
use Rattle.protocols.specs.Counts.{HasCounts, received_counts}
use Rattle.protocols.specs.Blind.{Observer, SameShares, SameOperands, SameOpened, Blind}
use Rattle.protocols.specs.Private.WordForm.{word_s, word_p, word_fold}

-- each share of both operands is a word below m
abbrev pub OperandsAreWords : ℕ → Operands → Type 0
OperandsAreWords m x = SharesAreWords m x.u × SharesAreWords m x.v

-- ---- 1. New shares combine to the right word, whatever is drawn; Specification: Table of commands

-- promised by `ring_combines`: over any modulus m above 0 the new shares of each ring protocol add up to the right
-- word, and the shares that the controller receives of an open to the opened word
pub record RingCombines (m : ℕ) : Type 0 where
  pub store_combines : (v : ℕ) → v < m → (b : Tapes) → sum_of m ((store m).result v b) ≡ v
  pub sum_combines : (x : Operands) → sum_of m (sum m x) ≡ add m (sum_of m x.u) (sum_of m x.v)
  pub difference_combines : (x : Operands) → sum_of m (difference m x) ≡ sub m (sum_of m x.u) (sum_of m x.v)
  pub constant_sum_combines : (c : ℕ) (u : Shares) → sum_of m (constant_sum m c u) ≡ add m (sum_of m u) c
  pub constant_multiple_combines : (c : ℕ) (u : Shares) → sum_of m (constant_multiple m c u) ≡ mul m (sum_of m u) c
  pub reshare_combines : (u : Shares) (b : Tapes) → sum_of m ((reshare m).result u b) ≡ sum_of m u
  pub multiply_combines : (x : Operands) (b : Tapes)
      → sum_of m ((multiply m).result x b) ≡ mul m (sum_of m x.u) (sum_of m x.v)
  pub opening_combines : (u : Shares) (b : Tapes) → sum_of m ((opening m).result u b) ≡ sum_of m u
  -- those three shares are what the controller receives
  pub opening_shown : (u : Shares) (b : Tapes)
      → ((opening m).received u b).controller ≡ in_order ((opening m).result u b)

-- promised by `bits_combine`: the new shares of Bit, Bits, Equal and Below have as their value the bit, the word
-- itself, 1 exactly if the operands are equal, and the highest bit of the operands' difference
pub record BitsCombine (n : ℕ) : Type 0 where
  pub bit_combines : (j : ℕ) (u : Shares) (b : Tapes)
      → sum_of (modulus n) ((bit (modulus n) j).result u b) ≡ bit_at (xor_of u) j
  pub bits_combines : (u : Shares) (b : Tapes) → Contents (modulus n) (bits n).draws b
      → xor_of ((bits n).result u b) ≡ sum_of (modulus n) u
  pub equal_combines : (x : Operands) (b : Tapes)
      → sum_of (modulus n) ((equal n).result x b) ≡ cond (sum_of (modulus n) x.u == sum_of (modulus n) x.v) 1 0
  pub below_combines : (x : Operands) (b : Tapes) → Contents (modulus n) (below n).draws b
      → sum_of (modulus n) ((below n).result x b)
      ≡ bit_at (sub (modulus n) (sum_of (modulus n) x.u) (sum_of (modulus n) x.v)) (width n - 1)

-- ---- 2. Each protocol draws and delivers what its row says, and what it makes from words are words;
-- Specification: Table of commands

-- a row: the words received by miners 1, 2, 3 and controller, and the words drawn by provider and miners 1, 2, 3
abbrev pub HasRow : ℕ → {S : Type 0} → Protocol S Shares → (S → Type 0) → Received → Drawn → Type 0
HasRow n f Good k d = HasCounts (modulus n) f Good (SharesAreWords (modulus n)) d k

-- promised by `rows`: on words of 2 ^ n bits each protocol draws and delivers exactly its row's counts, and what it
-- makes from words are words
pub record Rows (n : ℕ) : Type 0 where
  pub store_row : HasRow n (store (modulus n)) (λ v. v < modulus n) (received_counts 1 1 1 0) (counts 2 0 0 0)
  pub sum_row :
      HasRow n (locally (sum (modulus n))) (OperandsAreWords (modulus n)) (received_counts 0 0 0 0) (counts 0 0 0 0)
  pub difference_row : HasRow n (locally (difference (modulus n))) (OperandsAreWords (modulus n))
      (received_counts 0 0 0 0) (counts 0 0 0 0)
  pub constant_sum_row : (c : ℕ)
      → HasRow n (locally (constant_sum (modulus n) c)) (SharesAreWords (modulus n))
      (received_counts 0 0 0 0) (counts 0 0 0 0)
  pub constant_multiple_row : (c : ℕ)
      → HasRow n (locally (constant_multiple (modulus n) c)) (SharesAreWords (modulus n))
      (received_counts 0 0 0 0) (counts 0 0 0 0)
  pub multiply_row :
      HasRow n (multiply (modulus n)) (OperandsAreWords (modulus n)) (received_counts 4 4 4 0) (counts 0 2 2 2)
  pub reshare_row :
      HasRow n (reshare (modulus n)) (SharesAreWords (modulus n)) (received_counts 1 1 1 0) (counts 0 1 1 1)
  pub bits_row : HasRow n (bits n) (SharesAreWords (modulus n)) (received_counts (2 + 4 * n) (5 + 4 * n) (5 + 4 * n) 0)
      (counts 0 (5 + 2 * n) (2 + 2 * n) (2 + 2 * n))
  pub bit_row : (j : ℕ)
      → HasRow n (bit (modulus n) j) (SharesAreWords (modulus n)) (received_counts 0 3 3 0) (counts 0 3 0 0)
  pub equal_row : HasRow n (equal n) (OperandsAreWords (modulus n))
      (received_counts (1 + 2 * n) (5 + 2 * n) (5 + 2 * n) 0) (counts 0 (5 + n) (1 + n) (1 + n))
  pub opening_row :
      HasRow n (opening (modulus n)) (SharesAreWords (modulus n)) (received_counts 1 1 1 3) (counts 0 1 1 1)
  pub below_row : HasRow n (below n) (OperandsAreWords (modulus n))
      (received_counts (2 + 4 * n) (8 + 4 * n) (8 + 4 * n) 0) (counts 0 (8 + 2 * n) (2 + 2 * n) (2 + 2 * n))

-- promised by `rows_at_32`: the rows that depend on the width, as numbers at 32 bits
pub record RowsAt32 : Type 0 where
  pub bits_row : HasRow 5 (bits 5) (SharesAreWords (modulus 5)) (received_counts 22 25 25 0) (counts 0 15 12 12)
  pub equal_row : HasRow 5 (equal 5) (OperandsAreWords (modulus 5)) (received_counts 11 15 15 0) (counts 0 10 6 6)
  pub below_row : HasRow 5 (below 5) (OperandsAreWords (modulus 5)) (received_counts 22 28 28 0) (counts 0 18 12 12)

-- ---- 3. Each protocol is blind for a miner, for the controller, and for a miner that is the controller too.

-- promised by `blind_protocols`: what the observer o receives and holds depends on the operands only by its own shares
-- of them, and of an open, for the controller, by the opened word
pub record BlindProtocols (n : ℕ) (o : Observer) : Type 0 where
  pub store_blind : Blind (modulus n) o (store (modulus n)) (λ v. v < modulus n) (λ v v'. Unit {0}) (SameShares o)
  pub sum_blind :
      Blind (modulus n) o (locally (sum (modulus n))) (OperandsAreWords (modulus n)) (SameOperands o) (SameShares o)
  pub difference_blind : Blind (modulus n) o (locally (difference (modulus n))) (OperandsAreWords (modulus n))
      (SameOperands o) (SameShares o)
  pub constant_sum_blind : (c : ℕ)
      → Blind (modulus n) o (locally (constant_sum (modulus n) c)) (SharesAreWords (modulus n))
      (SameShares o) (SameShares o)
  pub constant_multiple_blind : (c : ℕ)
      → Blind (modulus n) o (locally (constant_multiple (modulus n) c)) (SharesAreWords (modulus n))
      (SameShares o) (SameShares o)
  pub multiply_blind :
      Blind (modulus n) o (multiply (modulus n)) (OperandsAreWords (modulus n)) (SameOperands o) (SameShares o)
  pub reshare_blind :
      Blind (modulus n) o (reshare (modulus n)) (SharesAreWords (modulus n)) (SameShares o) (SameShares o)
  pub bits_blind : Blind (modulus n) o (bits n) (SharesAreWords (modulus n)) (SameShares o) (SameShares o)
  pub bit_blind : (j : ℕ)
      → Blind (modulus n) o (bit (modulus n) j) (SharesAreWords (modulus n)) (SameShares o) (SameShares o)
  pub equal_blind : Blind (modulus n) o (equal n) (OperandsAreWords (modulus n)) (SameOperands o) (SameShares o)
  pub opening_blind :
      Blind (modulus n) o (opening (modulus n)) (SharesAreWords (modulus n)) (SameOpened (modulus n) o) (SameShares o)
  pub below_blind : Blind (modulus n) o (below n) (OperandsAreWords (modulus n)) (SameOperands o) (SameShares o)

-- ---- 4. The code's rounds on whole words are the rounds position by position, for every round k of every width.

-- promised by `word_forms`: round k by masks and shifts of whole words is round k position by position
pub record WordForms (n k : ℕ) : Type 0 where
  pub form_s : (p p' s s' : ℕ) → s < modulus n → word_s n k p p' s s' ≡ round_s (width n) k p p' s s'
  pub form_p : (p p' : ℕ) → word_p n k p p' ≡ round_p (width n) k p p'
  pub form_fold : (p p' : ℕ) → word_fold n k p p' ≡ fold_share (width n) k p p'

-- promised by `source_is`: in round k the source of position j is the highest position below j that has bit k clear and
-- j's bits above k; Specification: Carry rounds
pub record SourceIs (k j : ℕ) : Type 0 where
  pub lower : source k j < j
  pub clear : bit_at (source k j) k ≡ 0
  pub agrees : source k j / 2 ^ suc k ≡ j / 2 ^ suc k
  pub highest : (i : ℕ) → i < j → bit_at i k ≡ 0 → i / 2 ^ suc k ≡ j / 2 ^ suc k → i ≤ source k j

-- ---- 5. A protocol answers `spent` exactly if a tape that it draws from has too few words left; Specification: Draws

-- promised by `draw_is`: a draw of k words answers 0, the next k words and the place moved on by them. Exactly if fewer
-- than k are left, it answers 12, no words and the place as it was. The code's Some and None are these two answers
pub record DrawIs (k : ℕ) (i : Party) (l : List ℕ) (p : Place) : Type 0 where
  pub drawn_if : k ≤ length l - count i p.drawn
      → draw k i l p
      ≡ record {
        number = 0;
        words = Some (take k (drop (count i p.drawn) l));
        place = record p { drawn = with_count i (count i p.drawn + k) p.drawn };
      }
  pub spent_if : length l - count i p.drawn < k → draw k i l p ≡ record { number = 12; words = None; place = p }
  pub words_answered : (w : List ℕ) (q : Place)
      → draw_answer p (Some (w, q)) ≡ record { number = 0; words = Some w; place = q }
  pub spent_answered : draw_answer {T = List ℕ} p None ≡ record { number = 12; words = None; place = p }

-- party i has fewer words left at the place p than n draws from its tape
abbrev pub Lacks : Drawn → Place → Tapes → Party → Type 0
Lacks n p t i = length (tape i t) - count i p.drawn < count i n

-- promised by `on_tapes`: on lent tapes a protocol answers `spent` exactly if a tape has too few words left for its
-- draws; otherwise it is done on exactly the next words. Tapes that it does not draw from make no difference
pub record OnTapes {S T : Type 0} (f : Protocol S T) (s : S) (p : Place) (t : Tapes) : Type 0 where
  pub spent_if : (i : Party) → Lacks f.draws p t i → perform f s p t ≡ spent
  pub done_if : ((i : Party) → ¬ Lacks f.draws p t i)
      → let b = block f.draws p t in perform f s p t ≡ done (f.result s b) (f.received s b) (advance p f.draws)
  -- the words drawn are the next ones of each tape; the place moves on by their counts and by nothing else
  pub next_words : (i : Party) → tape i (block f.draws p t) ≡ take (count i f.draws) (drop (count i p.drawn) (tape i t))
  pub next_place :
      let n = f.draws in
      let d = p.drawn in
      advance p n ≡ record {
        handles = p.handles;
        inputs = p.inputs;
        drawn = counts (d.provider + n.provider) (d.one + n.one) (d.two + n.two) (d.three + n.three);
        received = p.received;
      }
  pub other_tapes : (t' : Tapes) → ((i : Party) → 0 < count i f.draws → tape i t ≡ tape i t')
      → perform f s p t ≡ perform f s p t'

-- promised by `delivers`: a protocol that is done on the tapes is refused with 13 exactly if a list lacks room, and
-- then nothing changes; otherwise every list begins with its words, and the rest of it is as it was
pub record Delivers (p : Place) (l : Lists) (s : Shares) (w : Lists) (q : Place) : Type 0 where
  pub full_if : (r : Receiver) → length (list r l) < length (list r w)
      → delivery p (done s w q) l
      ≡ record { outcome = record { number = 13; shares = shares 0 0 0; place = p }; lists = l }
  pub done_if : ((r : Receiver) → length (list r w) ≤ length (list r l))
      → delivery p (done s w q) l
      ≡ record { outcome = record { number = 0; shares = s; place = q }; lists = with_fronts l w }
  pub begins : ((r : Receiver) → length (list r w) ≤ length (list r l))
      → (r : Receiver) → list r (with_fronts l w) ≡ list r w ++ drop (length (list r w)) (list r l)
  -- if a tape is spent: number 12, the place and every list as they were
  pub spent_if : delivery p spent l
      ≡ record { outcome = record { number = 12; shares = shares 0 0 0; place = p }; lists = l }

-- ---- 6. Which words each party receives, and in which order; Specification: Order of words

-- promised by `transcripts`: the words that each party receives by store, reshare, multiply, open and bit, written out
-- from the operands u, v and the drawn words
pub record Transcripts (m : ℕ) : Type 0 where
  -- the provider's two words, and what they leave of the input v
  pub store_words : (v : ℕ) (b : Tapes) →
      let s₁ = slice_index b.provider 0 in
      let s₂ = slice_index b.provider 1 in
      (store m).received v b ≡ lists (s₁ ∷ []) (s₂ ∷ []) (sub m (sub m v s₁) s₂ ∷ []) []
  -- each miner's mask, at the next miner
  pub reshare_words : (u : Shares) (b : Tapes) →
      let r₁ = slice_index b.one 0 in
      let r₂ = slice_index b.two 0 in
      let r₃ = slice_index b.three 0 in
      (reshare m).received u b ≡ lists (r₃ ∷ []) (r₁ ∷ []) (r₂ ∷ []) []
  -- each miner's masks r, s, then its masked shares x, y, at the next miner
  pub multiply_words : (o : Operands) (b : Tapes) →
      let u = o.u in
      let v = o.v in
      let r₁ = slice_index b.one 0 in
      let s₁ = slice_index b.one 1 in
      let r₂ = slice_index b.two 0 in
      let s₂ = slice_index b.two 1 in
      let r₃ = slice_index b.three 0 in
      let s₃ = slice_index b.three 1 in
      let x₁ = sub m (add m u.one r₁) r₃ in
      let y₁ = sub m (add m v.one s₁) s₃ in
      let x₂ = sub m (add m u.two r₂) r₁ in
      let y₂ = sub m (add m v.two s₂) s₁ in
      let x₃ = sub m (add m u.three r₃) r₂ in
      let y₃ = sub m (add m v.three s₃) s₂ in
      (multiply m).received o b ≡ lists (r₃ ∷ s₃ ∷ x₃ ∷ y₃ ∷ []) (r₁ ∷ s₁ ∷ x₁ ∷ y₁ ∷ []) (r₂ ∷ s₂ ∷ x₂ ∷ y₂ ∷ []) []
  -- each miner's mask, at the next miner, and the fresh shares, at the controller
  pub opening_words : (u : Shares) (b : Tapes) →
      let r₁ = slice_index b.one 0 in
      let r₂ = slice_index b.two 0 in
      let r₃ = slice_index b.three 0 in
      let x₁ = sub m (add m u.one r₁) r₃ in
      let x₂ = sub m (add m u.two r₂) r₁ in
      let x₃ = sub m (add m u.three r₃) r₂ in
      (opening m).received u b ≡ lists (r₃ ∷ []) (r₁ ∷ []) (r₂ ∷ []) (x₁ ∷ x₂ ∷ x₃ ∷ [])
  -- of bit j: what miner 1 sends to miners 2 and 3, then what these send one another
  pub bit_words : (j : ℕ) (u : Shares) (b : Tapes) →
      let u₁ = bit_at u.one j in
      let u₂ = bit_at u.two j in
      let u₃ = bit_at u.three j in
      let b₁ = low_bit (slice_index b.one 0) in
      let m₁₂ = slice_index b.one 1 in
      let b₁₂ = low_bit (slice_index b.one 2) in
      let m₁₃ = sub m (bit_xor b₁ u₁) m₁₂ in
      let b₁₃ = bit_xor b₁ b₁₂ in
      (bit m j).received u b ≡ lists [] (m₁₂ ∷ b₁₂ ∷ bit_xor b₁₃ u₃ ∷ []) (m₁₃ ∷ b₁₃ ∷ bit_xor b₁₂ u₂ ∷ []) []
