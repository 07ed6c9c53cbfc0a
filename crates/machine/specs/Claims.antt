-- The claims of this crate as types, over words of 2 ^ n bits. Each is the contract of the function of src/promises.rt
-- that its comment names. The code's contracts use the same definitions at n = 5.
use Rattle.std.specs.Prelude.{ℕ, suc, ◌+◌, ◌-◌, ◌%◌, ◌≤◌, ◌<◌, ◌≡◌, ◌↔◌, cond, nat_eq, bit_xor}
use Rattle.std.specs.Prelude.{List, [], ◌∷◌, ◌++◌, map, length, get_or, take, drop, replicate, Ok}
use Rattle.protocols.specs.declared.place.Party.{Party}
use Rattle.protocols.specs.declared.place.Party.TheVariants.{Provider, One}
use Rattle.protocols.specs.declared.place.Drawn.{Drawn}
use Rattle.protocols.specs.declared.place.Place.{Place}
use Rattle.protocols.specs.declared.shares.Shares.{Shares}
use Rattle.protocols.specs.Word.{width, modulus, add, sub, mul, bit_at}
use Rattle.protocols.specs.Shares.{Miner, one, two, three, prev, sum_of, xor_of}
use Rattle.protocols.specs.Place.{Tapes, tape, owner, counts, count, advance, block}
use Rattle.protocols.specs.Place.{Lists, lists, Receiver, controller, list, in_order}
use Rattle.protocols.specs.Protocol.{done, perform}
use Rattle.protocols.specs.Contents.{AllBelow, Contents}
use Rattle.protocols.specs.Counts.{received_counts, count_for}
use Rattle.machine.specs.declared.code.Command.{Command}
use Rattle.machine.specs.Table.{Code, code_named, kind_number, row_of, row}
use Rattle.machine.specs.Table.{Store, Add, Subtract, AddConstant, TimesConstant, Multiply}
use Rattle.machine.specs.Table.{Reshare, Bits, Bit, Equal, Open, Below}
use Rattle.machine.specs.declared.kind.Kind.TheVariants.{RingValue, BitWord}
use Rattle.machine.specs.declared.row.Row.{Row}
use Rattle.machine.specs.declared.row.Use.TheVariants.{Unused, Handle, Word, Position}
use Rattle.machine.specs.declared.lent.Sizes.{Sizes}
use Rattle.machine.specs.Lent.{Tables, Lent, lent_lists, table, lengths, sizes}
use Rattle.machine.specs.Lent.{entry, shares_at, IsFilled, received_words, LentAreWords}
use Rattle.machine.specs.Verdict.{verdict_number}
use Rattle.machine.specs.Steps.{protocol}
use Rattle.machine.specs.Command.{CommandOutcome, answer, command_outcome, arguments, command}
use Rattle.machine.specs.Registers.{registers, register_at, judge, step, opened_registers, opened_registers_to_refusal}
use Rattle.machine.specs.Start.{combined_word, starting_registers}
use Rattle.machine.specs.Run.{RunResult, run, run_to_refusal, answer_numbers, empty_place, reply}
use Rattle.machine.specs.Run.{opened_words, sums_in_threes, registers_after, replies}
use Rattle.machine.specs.Records.{miner_record, controller_record, SameToMiner, SameToController}
use Rattle.machine.specs.Pairing.{Pairing}
use Rattle.machine.specs.Refusals.{Applies, Lowest}

-- ---- the table of commands at 32 bits; Specification: Table of commands

-- the command of the code w is x, and its row is r
abbrev pub IsRow : ℕ → Code → Row → Type 0
IsRow w x r = (code_named w ≡ Ok x) × (row 5 x ≡ r)

-- A row: use of a and b; kinds of operands and new value; how many new values and inputs; received words (miners 1, 2,
-- 3, controller); drawn words (provider, miners 1, 2, 3).
-- promised by `table_at_32`: kinds, codes and rows are those of the table; Specification: Table of commands
pub record TableAt32 : Type 0 where
  pub ring_value : kind_number RingValue ≡ 1
  pub bit_word : kind_number BitWord ≡ 2
  pub store : IsRow 1 Store
      (row_of Unused Unused RingValue RingValue 1 1 (received_counts 1 1 1 0) (counts 2 0 0 0))
  pub add : IsRow 2 Add
      (row_of Handle Handle RingValue RingValue 1 0 (received_counts 0 0 0 0) (counts 0 0 0 0))
  pub subtract : IsRow 3 Subtract
      (row_of Handle Handle RingValue RingValue 1 0 (received_counts 0 0 0 0) (counts 0 0 0 0))
  pub add_constant : IsRow 4 AddConstant
      (row_of Handle Word RingValue RingValue 1 0 (received_counts 0 0 0 0) (counts 0 0 0 0))
  pub times_constant : IsRow 5 TimesConstant
      (row_of Handle Word RingValue RingValue 1 0 (received_counts 0 0 0 0) (counts 0 0 0 0))
  pub multiply : IsRow 6 Multiply
      (row_of Handle Handle RingValue RingValue 1 0 (received_counts 4 4 4 0) (counts 0 2 2 2))
  pub reshare : IsRow 7 Reshare
      (row_of Handle Unused RingValue RingValue 1 0 (received_counts 1 1 1 0) (counts 0 1 1 1))
  pub bits : IsRow 8 Bits
      (row_of Handle Unused RingValue BitWord 1 0 (received_counts 22 25 25 0) (counts 0 15 12 12))
  pub bit : IsRow 9 Bit
      (row_of Handle Position BitWord RingValue 1 0 (received_counts 0 3 3 0) (counts 0 3 0 0))
  pub equal : IsRow 10 Equal
      (row_of Handle Handle RingValue RingValue 1 0 (received_counts 11 15 15 0) (counts 0 10 6 6))
  pub opening : IsRow 11 Open
      (row_of Handle Unused RingValue RingValue 0 0 (received_counts 1 1 1 3) (counts 0 1 1 1))
  pub below : IsRow 12 Below
      (row_of Handle Handle RingValue RingValue 1 0 (received_counts 22 28 28 0) (counts 0 18 12 12))

-- ---- parts of a statement

-- `now` is the list `before` with words written behind its first k; Specification: Received words
abbrev pub Appended : List ℕ → ℕ → List ℕ → List ℕ → Type 0
Appended before k words now = now ≡ take k before ++ (words ++ drop (k + length words) before)

-- the entry k, counted from 0, is filled by the place q and not by the place p
abbrev pub IsNew : Place → Place → ℕ → Type 0
IsNew p q k = (p.handles ≤ k) × (k < q.handles)

-- the command c from the place p on the lent lists l
module _ (n : ℕ) (c : Command) (p : Place) (l : Lent) where
  abbrev pub command_end : CommandOutcome
  command_end = command n c p l

  abbrev pub number_answered : ℕ
  number_answered = command_end.answer.number

  -- ---- refusals

  -- promised by `command_refusals`: the number is the lowest that applies, or 0 if none does, and a refused command
  -- changes nothing; Specification: Order of refusals, Specification: Refused commands
  pub record CommandRefusals : Type 0 where
    -- a refused command leaves lists and place record unchanged, and opens 0
    pub unchanged : ¬ (number_answered ≡ 0) → command_end ≡ command_outcome (answer number_answered p 0) l
    -- a number r is answered exactly if it is the lowest that applies, and 0 exactly if none does
    pub refused : (r : ℕ) → 0 < r → (number_answered ≡ r) ↔ Lowest n c p l r
    pub accepted : (number_answered ≡ 0) ↔ ((r : ℕ) → ¬ Applies n c p l r)

  -- ---- agreement: what an accepted command answers and writes

  -- each of the ten counts has moved on by the row of x; Specification: Accepted commands
  pub record PlaceMoved (x : Code) : Type 0 where
    pub handles : command_end.answer.place.handles ≡ p.handles + (row n x).values
    pub inputs : command_end.answer.place.inputs ≡ p.inputs + (row n x).inputs
    pub drawn : (i : Party) → count i command_end.answer.place.drawn ≡ count i p.drawn + count i (row n x).drawn
    pub received : (r : Receiver)
        → count_for r command_end.answer.place.received ≡ count_for r p.received + count_for r (row n x).received

  -- the value of handle h before the command, of ring shares and of bit shares; Specification: Shares
  abbrev pub ring_word : ℕ → ℕ
  ring_word h = sum_of (modulus n) (shares_at l.tables h)

  abbrev pub bit_word : ℕ → ℕ
  bit_word h = xor_of (shares_at l.tables h)

  -- after the command the new handle holds w, as a ring value and as a bit word; Specification: Kinds
  abbrev pub RingValueIs : ℕ → Type 0
  RingValueIs w =
      let h = p.handles + 1 in
      (entry command_end.lent.kinds h ≡ 1) × (sum_of (modulus n) (shares_at command_end.lent.tables h) ≡ w)

  abbrev pub BitWordIs : ℕ → Type 0
  BitWordIs w =
      let h = p.handles + 1 in
      (entry command_end.lent.kinds h ≡ 2) × (xor_of (shares_at command_end.lent.tables h) ≡ w)

  -- each command's new value, from the values of its operands; Specification: Table of commands
  abbrev pub NewValue : Code → Type 0
  NewValue Store = RingValueIs (get_or l.inputs p.inputs 0)
  NewValue Add = RingValueIs (add (modulus n) (ring_word c.a) (ring_word c.b))
  NewValue Subtract = RingValueIs (sub (modulus n) (ring_word c.a) (ring_word c.b))
  NewValue AddConstant = RingValueIs (add (modulus n) (ring_word c.a) c.b)
  NewValue TimesConstant = RingValueIs (mul (modulus n) (ring_word c.a) c.b)
  NewValue Multiply = RingValueIs (mul (modulus n) (ring_word c.a) (ring_word c.b))
  NewValue Reshare = RingValueIs (ring_word c.a)
  NewValue Bits = BitWordIs (ring_word c.a)
  NewValue Bit = RingValueIs (bit_at (bit_word c.a) c.b)
  NewValue Equal = RingValueIs (cond (nat_eq (ring_word c.a) (ring_word c.b)) 1 0)
  NewValue Open = Unit {0}
  NewValue Below = RingValueIs (bit_at (sub (modulus n) (ring_word c.a) (ring_word c.b)) (width n - 1))

  -- each received list has the words w behind its earlier ones; Specification: Received words
  abbrev pub Gain : Lists → Type 0
  Gain w = (r : Receiver)
      → Appended (list r l.received) (count_for r p.received) (list r w) (list r command_end.lent.received)

  -- what each party receives from the protocol of x on the next words of the tapes
  abbrev pub delivered_words : Code → Lists
  delivered_words x =
      let f = protocol n x c.b in
      f.received (arguments l.tables l.inputs p c) (block f.draws p l.tapes)

  -- the protocol draws, and sends to each party, as many words as the row of x says, and each received list gains the
  -- words that are sent to it; Specification: Accepted commands
  pub record Counts (x : Code) : Type 0 where
    pub drawn : (protocol n x c.b).draws ≡ (row n x).drawn
    pub received : (r : Receiver) → length (list r (delivered_words x)) ≡ count_for r (row n x).received
    pub gain : Gain (delivered_words x)

  -- the sum of the three shares that the controller receives is the register's word, and is answered;
  -- Specification: Answers
  pub record OpenedRight : Type 0 where
    pub shares : Shares
    pub to_controller :
        Appended l.received.controller p.received.controller (in_order shares) command_end.lent.received.controller
    pub add_up : sum_of (modulus n) shares ≡ (register_at (starting_registers n p l).held c.a).word
    pub answer : command_end.answer.opened ≡ (register_at (starting_registers n p l).held c.a).word

  -- `Then` holds if the command is x and is accepted
  abbrev pub IfAccepted : Code → Type 0 → Type 0
  IfAccepted x Then = code_named c.code ≡ Ok x → number_answered ≡ 0 → Then

  -- promised by `command_agreement`: the command does what the register machine and its row of the table say, and
  -- changes nothing else; Specification: Registers, Specification: Accepted commands
  pub record CommandAgreement : Type 0 where
    -- the number and the place record are the register machine's
    pub same_number : number_answered ≡ verdict_number (judge n c (sizes l) (starting_registers n p l))
    pub same_place : command_end.answer.place ≡ (step n c (sizes l) l.inputs (starting_registers n p l)).place
    -- the shares of every filled handle have the value and the kind of its register
    pub combine : (h : ℕ) → IsFilled command_end.answer.place h
        → let r = register_at (step n c (sizes l) l.inputs (starting_registers n p l)).held h in
        (entry command_end.lent.kinds h ≡ r.kind)
        × (combined_word (modulus n) r.kind (shares_at command_end.lent.tables h) ≡ r.word)
    -- an accepted command follows its row of the table
    pub place_counts : (x : Code) → IfAccepted x (PlaceMoved x)
    pub value : (x : Code) → IfAccepted x (NewValue x)
    pub counts : (x : Code) → IfAccepted x (Counts x)
    -- an accepted open opens its register's word, and a command that is no open opens 0; for a refused open see
    -- CommandRefusals
    pub opened : c.code ≡ 11 → number_answered ≡ 0 → OpenedRight
    pub not_opened : ¬ (c.code ≡ 11) → command_end.answer.opened ≡ 0
    -- no entry but the new handle's is written
    pub tables_kept : (i : Miner) (k : ℕ) → ¬ IsNew p command_end.answer.place k
        → get_or (table i command_end.lent.tables) k 0 ≡ get_or (table i l.tables) k 0
    pub kinds_kept : (k : ℕ) → ¬ IsNew p command_end.answer.place k
        → get_or command_end.lent.kinds k 0 ≡ get_or l.kinds k 0
    -- inputs, tapes and all lengths are unchanged, and words stay words
    pub inputs_kept : command_end.lent.inputs ≡ l.inputs
    pub tapes_kept : command_end.lent.tapes ≡ l.tapes
    pub sizes_kept : sizes command_end.lent ≡ sizes l
    pub words : LentAreWords (modulus n) command_end.answer.place command_end.lent

  -- ---- the received words, in terms of the lent tables, inputs and tapes

  -- word k, counted from 0, of those that party i draws; Specification: Draws
  abbrev pub next_word : Party → ℕ → ℕ
  next_word i k = get_or (tape i l.tapes) (count i p.drawn + k) 0

  -- miner i's share of handle h
  abbrev pub share_of : ℕ → Miner → ℕ
  share_of h i = get_or (table i l.tables) (h - 1) 0

  -- miner i's share of handle h, plus its own drawn word k, less that of the previous miner; Specification: Reshare
  abbrev pub masked_share : ℕ → ℕ → Miner → ℕ
  masked_share h k i =
      sub (modulus n) (add (modulus n) (share_of h i) (next_word (owner i) k)) (next_word (owner (prev i)) k)

  -- promised by `transcript`: the words that each party receives in store, multiply, reshare, bit and open, in their
  -- order; Specification: Order of words
  pub record Transcript : Type 0 where
    -- miner i receives s_i; Specification: Store
    pub store : c.code ≡ 1 → number_answered ≡ 0
        → let s₁ = next_word Provider 0 in
        let s₂ = next_word Provider 1 in
        Gain (lists (s₁ ∷ []) (s₂ ∷ []) (sub (modulus n) (sub (modulus n) (get_or l.inputs p.inputs 0) s₁) s₂ ∷ []) [])
    -- each miner sends r and s, then its masked shares of a and b, to the next; Specification: Multiply
    pub multiply : c.code ≡ 6 → number_answered ≡ 0
        → let from : Miner → List ℕ = λ i.
        next_word (owner i) 0 ∷ next_word (owner i) 1 ∷ masked_share c.a 0 i ∷ masked_share c.b 1 i ∷ [] in
        Gain (lists (from three) (from one) (from two) [])
    -- each miner sends its drawn word to the next; Specification: Reshare
    pub reshare : c.code ≡ 7 → number_answered ≡ 0
        → let from : Miner → List ℕ = λ i. next_word (owner i) 0 ∷ [] in
        Gain (lists (from three) (from one) (from two) [])
    -- u i is the bit of miner i's share, and only miner 1 draws; Specification: Bit
    pub bit : c.code ≡ 9 → number_answered ≡ 0
        → let u : Miner → ℕ = λ i. bit_at (share_of c.a i) c.b in
        let b = next_word One 0 % 2 in
        let m₁₂ = next_word One 1 in
        let b₁₂ = next_word One 2 % 2 in
        let m₁₃ = sub (modulus n) (bit_xor b (u one)) m₁₂ in
        let b₁₃ = bit_xor b b₁₂ in
        Gain (lists [] (m₁₂ ∷ b₁₂ ∷ bit_xor b₁₃ (u three) ∷ []) (m₁₃ ∷ b₁₃ ∷ bit_xor b₁₂ (u two) ∷ []) [])
    -- the miners receive what they do in reshare, and the controller the three fresh shares; Specification: Open
    pub opening : c.code ≡ 11 → number_answered ≡ 0
        → let from : Miner → List ℕ = λ i. next_word (owner i) 0 ∷ [] in
        Gain (lists (from three) (from one) (from two)
        (masked_share c.a 0 one ∷ masked_share c.a 0 two ∷ masked_share c.a 0 three ∷ []))

-- ---- agreement of runs, from any place record

-- promised by `throughout`: the agreement holds at each command of a run; Specification: Runs
unfoldable pub Throughout : ℕ → List Command → Place → Lent → Type 0
Throughout n [] p l = Unit {0}
Throughout n (c ∷ cs) p l =
    CommandAgreement n c p l × Throughout n cs (command n c p l).answer.place (command n c p l).lent

-- promised by `run_agrees`: the register machine, started once, has the run's numbers, place records, registers and
-- opened words; Specification: Registers, Specification: Opened words
pub record RunAgrees (n : ℕ) (cs : List Command) (p : Place) (l : Lent) : Type 0 where
  pub same_replies : map reply (run n cs p l).answers ≡ replies n cs (sizes l) l.inputs (starting_registers n p l)
  pub same_registers :
      starting_registers n (run n cs p l).place (run n cs p l).lent
      ≡ registers_after n cs (sizes l) l.inputs (starting_registers n p l)
  pub same_opened :
      opened_words cs (run n cs p l).answers ≡ opened_registers n cs (sizes l) l.inputs (starting_registers n p l)

-- promised by `to_refusal`: a run up to the first refusal is the run of the commands up to it; Specification: Runs
pub data ToRefusal (n : ℕ) (cs : List Command) (p : Place) (l : Lent) : Type 0 where
  -- no command is refused, and it is the whole run
  all_done : run_to_refusal n cs p l ≡ run n cs p l → answer_numbers (run n cs p l) ≡ replicate (length cs) 0
      → ToRefusal n cs p l
  -- command k, counted from 0, is the first that is refused, with the number r, and it is the run up to this command
  stopped : (k r : ℕ) → 0 < r → k < length cs → run_to_refusal n cs p l ≡ run n (take (suc k) cs) p l
      → answer_numbers (run_to_refusal n cs p l) ≡ replicate k 0 ++ (r ∷ []) → ToRefusal n cs p l

-- promised by `adds_up`: each three words that the controller receives in a run have an opened word as their sum, in
-- order; Specification: Answers
pub record AddsUp (m : ℕ) (cs : List Command) (p : Place) (l : Lent) (r : RunResult) : Type 0 where
  pub words : List ℕ
  pub received : received_words r.place r.lent controller ≡ received_words p l controller ++ words
  pub within : p.received.controller ≤ length l.received.controller
      → r.place.received.controller ≤ length r.lent.received.controller
  pub add_up : opened_words cs r.answers ≡ sums_in_threes m words

-- promised by `opened_to_refusal`: a run up to the first refusal opens what the register machine opens;
-- Specification: Opened words
abbrev pub OpenedToRefusal : ℕ → List Command → Place → Lent → Type 0
OpenedToRefusal n cs p l =
    opened_words cs (run_to_refusal n cs p l).answers
    ≡ opened_registers_to_refusal n cs (sizes l) l.inputs (starting_registers n p l)

-- promised by `stays_sound`: if refusal 4 does not apply, it does not apply after any command;
-- Specification: Table of refusals
abbrev pub StaysSound : ℕ → Command → Command → Place → Lent → Type 0
StaysSound n c d p l = ¬ Applies n c p l 4 → ¬ Applies n d (command n c p l).answer.place (command n c p l).lent 4

-- ---- blindness; Specification: Blindness

-- blindness for the inputs x and y on tapes of the lengths d: `ran x t` is the run on the inputs x and the tapes t,
-- `leading x` are the opened words that the register machine has for x; Specification: Blindness
pub record BlindRuns
    (m : ℕ) (d : Drawn) (ran : List ℕ → Tapes → RunResult) (leading : List ℕ → List ℕ) (x y : List ℕ) : Type 0 where
  -- for each miner and each content of its tape: contents of the other tapes pair off so that its records are equal
  pub miner : (i : Miner) (own : List ℕ)
      → Pairing (λ t. Contents m d t × (tape (owner i) t ≡ own))
      (λ t t'. miner_record i (ran x t) ≡ miner_record i (ran y t'))
  -- if x and y give the same opened words: contents of all tapes pair off so that the controller's records are equal
  pub controller : leading x ≡ leading y
      → Pairing (Contents m d) (λ t t'. controller_record (ran x t) ≡ controller_record (ran y t'))

-- blindness for all commands, tables s, kinds k, received lists r, tape lengths d and two input lists of one length, of
-- words below m: `ran` runs commands on lent lists, `leading` has their opened words; Specification: Blindness
abbrev pub Blindness : ℕ → (List Command → Lent → RunResult) → (List Command → Sizes → List ℕ → List ℕ) → Type 0
Blindness m ran leading = (cs : List Command) (s : Tables) (k : List ℕ) (r : Lists) (d : Drawn) (x y : List ℕ)
    → length x ≡ length y → AllBelow m x → AllBelow m y
    → BlindRuns m d (λ i t. ran cs (lent_lists s k i t r)) (λ i. leading cs (lengths s k i d r) i) x y

-- promised by `run_blindness`: blindness of runs from the empty place record; Specification: Blindness
abbrev pub RunBlindness : ℕ → ℕ → Type 0
RunBlindness n m =
    Blindness m (λ cs. run n cs empty_place) (λ cs z i. opened_registers n cs z i (registers [] empty_place))

-- promised by `run_blindness_to_refusal`: blindness of runs up to the first refusal; Specification: Blindness
abbrev pub RunBlindnessToRefusal : ℕ → ℕ → Type 0
RunBlindnessToRefusal n m =
    Blindness m (λ cs. run_to_refusal n cs empty_place)
    (λ cs z i. opened_registers_to_refusal n cs z i (registers [] empty_place))

-- promised by `miner_records`: in equal records of a miner, the tape, every share, every received word and all numbers
-- and place records are equal; Specification: Records
abbrev pub MinerRecords : Miner → RunResult → RunResult → Type 0
MinerRecords i r r' = miner_record i r ≡ miner_record i r' → SameToMiner i r r'

-- promised by `controller_records`: in equal records of the controller, every received word, every opened word and all
-- numbers and place records are equal; Specification: Records
abbrev pub ControllerRecords : RunResult → RunResult → Type 0
ControllerRecords r r' = controller_record r ≡ controller_record r' → SameToController r r'

-- ---- no spent tape

-- promised by `never_spent`: an accepted command's protocol never lacks a word, from any place record that counts the
-- same drawn words; Specification: Draws
abbrev pub NeverSpent : ℕ → Command → Place → Lent → Type 0
NeverSpent n c p l = (x : Code) → IfAccepted n c p l x ((q : Place) → q.drawn ≡ p.drawn
    → let f = protocol n x c.b in
    let g = arguments l.tables l.inputs p c in
    let b = block f.draws p l.tapes in
    perform f g q l.tapes ≡ done (f.result g b) (f.received g b) (advance q (row n x).drawn))
