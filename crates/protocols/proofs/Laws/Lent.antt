-- Each protocol on lent tapes, by its draws and its parts.
use Rattle.std.proofs.Common.{◌≡◌, ℕ, true, leb, [], ◌∷◌, length}
use Rattle.protocols.specs.declared.place.Party.TheVariants.{Provider, One}
use Rattle.protocols.specs.declared.bits.Dealing.{Dealing}
use Rattle.protocols.specs.declared.bits.CarryState.{CarryState}
use Rattle.protocols.specs.Outcome.{have_room}
use Rattle.protocols.specs.Counts.{received_counts}
use Rattle.protocols.proofs.Laws.Deliveries.{both, has_room}
use Rattle.protocols.specs.Bit.{bit}
use Rattle.protocols.specs.Bits as bits
use Rattle.protocols.specs.Bits.{deal, first_state, sent_in_exchange, exchange, round}
use Rattle.protocols.specs.Equal as equal
use Rattle.protocols.specs.Equal.{compare, first_masks, fold}
use Rattle.protocols.specs.declared.equal.FoldState.{FoldState}
use Rattle.protocols.specs.declared.place.Place.{Place}
use Rattle.protocols.specs.declared.shares.Shares.{Shares}
use Rattle.protocols.specs.Word.{width, modulus}
use Rattle.protocols.specs.Shares.{Operands}
use Rattle.protocols.specs.Place.{Tapes, tapes, Lists, draw, to_next}
use Rattle.protocols.specs.Draws.{draw_each, draw_pairs}
use Rattle.protocols.specs.Private.Lending.{HaveRoom, tape_of_one}
use Rattle.protocols.specs.Protocol.{done, spent, perform}
use Rattle.protocols.specs.Store.{store}
use Rattle.protocols.specs.Reshare.{reshare}
use Rattle.protocols.specs.Multiply.{multiply}
use Rattle.protocols.specs.Open.{opening}
use Rattle.protocols.proofs.Laws.Draws.{after}
use Rattle.protocols.proofs.Laws.Perform.{by_each, by_pairs, by_words}

-- ---- the ring protocols

-- blocks of one word and of two words of each miner
abbrev pub one_word : Shares → Tapes
one_word x = tapes [] (x.one ∷ []) (x.two ∷ []) (x.three ∷ [])

abbrev pub two-words : Shares → Shares → Tapes
two-words x y = tapes [] (x.one ∷ y.one ∷ []) (x.two ∷ y.two ∷ []) (x.three ∷ y.three ∷ [])

module _ (m : ℕ) (p : Place) (t : Tapes) where
  pub store_performs : (v : ℕ) → perform (store m) v p t
      ≡ after (draw 2 Provider t.provider p) (λ w q. done ((store m).result v (tapes w [] [] [])) ((store m).received v (tapes w [] [] [])) q) spent
  unfolding store
  store_performs v = by_words Provider 2 (λ v w. (store m).result v (tapes w [] [] [])) (λ v w. (store m).received v (tapes w [] [] [])) v p t

  pub reshare_performs : (s : Shares) → perform (reshare m) s p t
      ≡ after (draw_each p t) (λ r q. done ((reshare m).result s (one_word r)) ((reshare m).received s (one_word r)) q) spent
  unfolding reshare
  reshare_performs s = by_each (λ s r. (reshare m).result s (one_word r)) (λ s r. (reshare m).received s (one_word r)) s p t

  pub opening_performs : (s : Shares) → perform (opening m) s p t
      ≡ after (draw_each p t) (λ r q. done ((opening m).result s (one_word r)) ((opening m).received s (one_word r)) q) spent
  unfolding opening
  opening_performs s = by_each (λ s r. (opening m).result s (one_word r)) (λ s r. (opening m).received s (one_word r)) s p t

  pub multiply_performs : (x : Operands) → perform (multiply m) x p t
      ≡ after (draw_pairs p t) (λ r q. done ((multiply m).result x (two-words r.0 r.1)) ((multiply m).received x (two-words r.0 r.1)) q) spent
  unfolding multiply
  multiply_performs x = by_pairs (λ x r s. (multiply m).result x (two-words r s)) (λ x r s. (multiply m).received x (two-words r s)) x p t

-- ---- the parts of Bits, Equal and Below

pub bit_performs : (m j : ℕ) (u : Shares) (p : Place) (t : Tapes) → perform (bit m j) u p t
    ≡ after (draw 3 One t.one p) (λ w q. done ((bit m j).result u (tape_of_one w)) ((bit m j).received u (tape_of_one w)) q) spent
unfolding bit
bit_performs m j u p t =
    by_words One 3 (λ u w. (bit m j).result u (tape_of_one w)) (λ u w. (bit m j).received u (tape_of_one w)) u p t

pub deal_performs : (n : ℕ) (u : Shares) (p : Place) (t : Tapes) → perform (deal n) u p t
    ≡ after (draw 3 One t.one p) (λ w q. done ((deal n).result u (tape_of_one w)) ((deal n).received u (tape_of_one w)) q) spent
unfolding deal
deal_performs n u p t =
    by_words One 3 (λ u w. (deal n).result u (tape_of_one w)) (λ u w. (deal n).received u (tape_of_one w)) u p t

pub exchange_performs : (n : ℕ) (d : Dealing) (p : Place) (t : Tapes) → perform (exchange n) d p t
    ≡ after (draw_pairs p t)
    (λ x q. done (first_state (modulus n) d x.0 x.1) (sent_in_exchange d x.0 x.1) q) spent
unfolding exchange
exchange_performs n d p t = by_pairs (first_state (modulus n)) sent_in_exchange d p t

pub round_performs : (n k : ℕ) (h : CarryState) (p : Place) (t : Tapes) → perform (round n k) h p t
    ≡ after (draw_pairs p t)
    (λ x q. done (bits.after_round (width n) k h x.0 x.1) (bits.sent_in_round h x.0 x.1) q) spent
unfolding round
round_performs n k h p t = by_pairs (bits.after_round (width n) k) bits.sent_in_round h p t

pub compare_performs : (n : ℕ) (x : Operands) (p : Place) (t : Tapes) → perform (compare n) x p t
    ≡ after (draw 1 One t.one p) (λ w q. done ((compare n).result x (tape_of_one w)) ((compare n).received x (tape_of_one w)) q) spent
unfolding compare
compare_performs n x p t =
    by_words One 1 (λ x w. (compare n).result x (tape_of_one w)) (λ x w. (compare n).received x (tape_of_one w)) x p t

pub first_masks_perform : (s : Shares) (p : Place) (t : Tapes) → perform first_masks s p t ≡ after (draw_each p t) (λ r q. done (record { p = s; q = r }) (to_next r) q) spent
unfolding first_masks
first_masks_perform s p t = by_each (λ s r. record { p = s; q = r }) (λ s r. to_next r) s p t

pub fold_performs : (n k : ℕ) (h : FoldState) (p : Place) (t : Tapes) → perform (fold n k) h p t
    ≡ after (draw_each p t) (λ r q. done (equal.after_round (width n) k h r) (equal.sent_in_round h r) q) spent
unfolding fold
fold_performs n k h p t = by_each (equal.after_round (width n) k) equal.sent_in_round h p t

-- ---- room in the lent lists

pub rooms : (a b c : ℕ) (l : Lists) → have_room l (received_counts a b c 0) ≡ true → HaveRoom a b c l
rooms a b c l h = has_room a b c (length l.one) (length l.two) (length l.three) ((both (leb 0 (length l.controller)) _ h).1)
