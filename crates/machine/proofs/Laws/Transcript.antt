-- The words that each party receives, in terms of the lent tables, inputs and tapes.
use Rattle.std.proofs.Common.{◌≡◌, ℕ, ◌<◌, ◌%◌, List, [], ◌∷◌, get_or, ap, ◌∙◌, subst, arith}
use Rattle.std.specs.Prelude.{bit_xor, slice_index, Ok}
use Rattle.protocols.specs.declared.place.Party.{Party}
use Rattle.protocols.specs.declared.place.Party.TheVariants.{Provider, One}
use Rattle.protocols.specs.declared.place.Drawn.{Drawn}
use Rattle.protocols.specs.declared.place.Place.{Place}
use Rattle.protocols.specs.Word.{modulus, add, sub, bit_at}
use Rattle.protocols.specs.Shares.{Miner, one, two, three, operands}
use Rattle.protocols.specs.Place.{tape, owner, counts, count, Lists, lists, block}
use Rattle.protocols.proofs.Laws.Draws.{block_words}
use Rattle.protocols.proofs.Laws.Transcripts.{transcripts}
use Rattle.machine.specs.declared.code.Command.{Command}
use Rattle.machine.specs.Table.{Code, Store, Multiply, Reshare, Bit, Open, code_named, row}
use Rattle.machine.specs.Lent.{Lent, shares_at}
use Rattle.machine.specs.Steps.{protocol}
use Rattle.machine.specs.Command.{arguments}
use Rattle.machine.specs.Claims.{number_answered, Gain, share_of, next_word, masked_share, Transcript}
use Rattle.machine.proofs.Laws.Agree.{is_accepted, counted_by}
use Rattle.machine.proofs.Laws.Lawful.{lawful}

module _ (n : ℕ) (c : Command) (p : Place) (l : Lent) where
  -- the words that a party draws for x are the next ones of its tape
  drawn_word : (x : Code) (i : Party) (k : ℕ) → k < count i (row n x).drawn
      → slice_index (tape i (block (row n x).drawn p l.tapes)) k ≡ next_word n c p l i k
  drawn_word x = block_words (row n x).drawn p l.tapes

  -- what is sent by store, multiply, reshare, bit and open on the words of their rows
  abbrev Sends : Code → Lists → Type 0
  Sends x v = (protocol n x c.b).received (arguments l.tables l.inputs p c) (block (row n x).drawn p l.tapes) ≡ v

  store_sends : let v = get_or l.inputs p.inputs 0 in
      let s₁ = next_word n c p l Provider 0 in
      let s₂ = next_word n c p l Provider 1 in
      Sends Store (lists (s₁ ∷ []) (s₂ ∷ []) (sub (modulus n) (sub (modulus n) v s₁) s₂ ∷ []) [])
  unfolding protocol
  store_sends =
      let v = get_or l.inputs p.inputs 0 in
      let s₁ = drawn_word Store Provider 0 (omega arith) in
      let s₂ = drawn_word Store Provider 1 (omega arith) in
      (transcripts (modulus n)).store_words v (block (row n Store).drawn p l.tapes)
      ∙ (λ j. lists (s₁ j ∷ []) (s₂ j ∷ []) (sub (modulus n) (sub (modulus n) v (s₁ j)) (s₂ j) ∷ []) [])

  reshare_sends : let from : Miner → List ℕ = λ i. next_word n c p l (owner i) 0 ∷ [] in Sends Reshare (lists (from three) (from one) (from two) [])
  unfolding protocol
  reshare_sends =
      let r = λ (i : Miner). drawn_word Reshare (owner i) 0 (one_of i) in
      (transcripts (modulus n)).reshare_words (shares_at l.tables c.a) (block (row n Reshare).drawn p l.tapes)
      ∙ (λ j. lists (r three j ∷ []) (r one j ∷ []) (r two j ∷ []) [])
    where
      one_of : (i : Miner) → 0 < count (owner i) (counts 0 1 1 1)
      one_of one = omega arith
      one_of two = omega arith
      one_of three = omega arith

  opening_sends : let from : Miner → List ℕ = λ i. next_word n c p l (owner i) 0 ∷ [] in
      let x = masked_share n c p l c.a 0 in
      Sends Open (lists (from three) (from one) (from two) (x one ∷ x two ∷ x three ∷ []))
  unfolding protocol
  opening_sends =
      let r = λ (i : Miner). drawn_word Open (owner i) 0 (one_of i) in
      let x = λ (i : Miner) (a b : ℕ). sub (modulus n) (add (modulus n) (share_of n c p l c.a i) a) b in
      (transcripts (modulus n)).opening_words (shares_at l.tables c.a) (block (row n Open).drawn p l.tapes)
      ∙ (λ j. lists (r three j ∷ []) (r one j ∷ []) (r two j ∷ [])
      (x one (r one j) (r three j) ∷ x two (r two j) (r one j) ∷ x three (r three j) (r two j) ∷ []))
    where
      one_of : (i : Miner) → 0 < count (owner i) (counts 0 1 1 1)
      one_of one = omega arith
      one_of two = omega arith
      one_of three = omega arith

  multiply_sends : let from : Miner → List ℕ = λ i. next_word n c p l (owner i) 0 ∷ next_word n c p l (owner i) 1 ∷ masked_share n c p l c.a 0 i ∷ masked_share n c p l c.b 1 i ∷ [] in
      Sends Multiply (lists (from three) (from one) (from two) [])
  unfolding protocol
  multiply_sends =
      let r = λ (i : Miner). drawn_word Multiply (owner i) 0 (two_of i 0 (omega arith)) in
      let s = λ (i : Miner). drawn_word Multiply (owner i) 1 (two_of i 1 (omega arith)) in
      let x = λ (i : Miner) (a b : ℕ). sub (modulus n) (add (modulus n) (share_of n c p l c.a i) a) b in
      let y = λ (i : Miner) (a b : ℕ). sub (modulus n) (add (modulus n) (share_of n c p l c.b i) a) b in
      (transcripts (modulus n)).multiply_words (operands (shares_at l.tables c.a) (shares_at l.tables c.b)) (block (row n Multiply).drawn p l.tapes)
      ∙ (λ j. lists (r three j ∷ s three j ∷ x three (r three j) (r two j) ∷ y three (s three j) (s two j) ∷ [])
      (r one j ∷ s one j ∷ x one (r one j) (r three j) ∷ y one (s one j) (s three j) ∷ [])
      (r two j ∷ s two j ∷ x two (r two j) (r one j) ∷ y two (s two j) (s one j) ∷ []) [])
    where
      two_of : (i : Miner) (k : ℕ) → k < 2 → k < count (owner i) (counts 0 2 2 2)
      two_of one k h = h
      two_of two k h = h
      two_of three k h = h

  bit_sends : let u : Miner → ℕ = λ i. bit_at (share_of n c p l c.a i) c.b in
      let b = next_word n c p l One 0 % 2 in
      let m₁₂ = next_word n c p l One 1 in
      let b₁₂ = next_word n c p l One 2 % 2 in
      let m₁₃ = sub (modulus n) (bit_xor b (u one)) m₁₂ in
      let b₁₃ = bit_xor b b₁₂ in
      Sends Bit (lists [] (m₁₂ ∷ b₁₂ ∷ bit_xor b₁₃ (u three) ∷ []) (m₁₃ ∷ b₁₃ ∷ bit_xor b₁₂ (u two) ∷ []) [])
  unfolding protocol
  bit_sends =
      let u = λ (i : Miner). bit_at (share_of n c p l c.a i) c.b in
      let b = drawn_word Bit One 0 (omega arith) in
      let m₁₂ = drawn_word Bit One 1 (omega arith) in
      let b₁₂ = drawn_word Bit One 2 (omega arith) in
      (transcripts (modulus n)).bit_words c.b (shares_at l.tables c.a) (block (row n Bit).drawn p l.tapes)
      ∙ (λ j. lists [] (m₁₂ j ∷ b₁₂ j % 2 ∷ bit_xor (bit_xor (b j % 2) (b₁₂ j % 2)) (u three) ∷ [])
      (sub (modulus n) (bit_xor (b j % 2) (u one)) (m₁₂ j) ∷ bit_xor (b j % 2) (b₁₂ j % 2) ∷ bit_xor (b₁₂ j % 2) (u two) ∷ []) [])

  -- after an accepted command the lists have gained what its protocol sends
  gains : (x : Code) (v : Lists) → Sends x v → code_named c.code ≡ Ok x → number_answered n c p l ≡ 0 → Gain n c p l v
  gains x v e f z =
      subst (Gain n c p l)
      (ap (λ (d : Drawn). (protocol n x c.b).received (arguments l.tables l.inputs p c) (block d p l.tapes)) ((lawful x).counted n c.b).drawn ∙ e)
      (counted_by n c p l x (is_accepted n c p l x f z)).gain

  pub transcript : Transcript n c p l
  transcript = record {
    store = λ f. gains Store _ store_sends (ap code_named f);
    multiply = λ f. gains Multiply _ multiply_sends (ap code_named f);
    reshare = λ f. gains Reshare _ reshare_sends (ap code_named f);
    bit = λ f. gains Bit _ bit_sends (ap code_named f);
    opening = λ f. gains Open _ opening_sends (ap code_named f);
  }
