-- Agreement of one command: the shares after it combine to the registers of the register machine.
use Prim.Native.Nat.{ℕ, zero, suc, ◌+◌, ◌≤◌, ◌<◌}
use mathlib.Core.Path.{◌≡◌, refl, sym, ap, ap₂, ◌∙◌, subst, subst₂}
use mathlib.Core.Bool.{Bool, true, false, cond, ◌&&◌, and-false}
use mathlib.Core.List.{List, [], ◌∷◌, ◌++◌}
use native.Mathlib.Nat.{add-zero}
use native.Mathlib.Numerals.{add-one}
use native.Mathlib.Omega.{arith}
use borrow.Author.Tests.{eqb-true, ne_eqb}
use lib.ListN.{length, get_or, take}
use lib.Seq.{length-sets}
use lib.Dec.{eqb}
use lib.Pow.{pow_pos}
use Rattle.protocols.specs.declared.place.Drawn.{Drawn}
use Rattle.protocols.specs.declared.place.Place.{Place}
use Rattle.protocols.specs.declared.shares.Shares.{Shares}
use Rattle.protocols.specs.Word.{width, modulus}
use Rattle.protocols.specs.Shares.{Miner, one, at, each, SharesAreWords as AreWordsOf, sum_of}
use Rattle.protocols.specs.Place.{Tapes, Lists, Receiver, controller, list, count, block}
use Rattle.protocols.specs.Contents.{AllBelow, Contents}
use Rattle.protocols.specs.Counts.{received_counts, count_for}
use Rattle.protocols.proofs.Laws.Counts.{due-list_lengths}
use Rattle.protocols.proofs.Laws.Blocks.{block_contents}
use Rattle.machine.specs.Table.{Code, Open, code_named, kind_number, row, opens_value, with_row}
use Rattle.machine.specs.declared.row.Use.{Use}
use Rattle.machine.specs.declared.row.Use.TheVariants.{Unused, Handle, Word, Position}
use Rattle.machine.specs.declared.arguments.Arguments.{Arguments}
use Rattle.machine.specs.declared.code.Command.{Command}
use Rattle.std.specs.Prelude.{Ok}
use Rattle.machine.specs.Lent.{table, Lent, lent_lists, tape_lengths, sizes, entry, shares_at, IsFilled, LentAreWords}
use Rattle.machine.specs.Verdict.{Verdict, Accepted, Refused, verdict_number, meets, is_filled, verdict}
use Rattle.machine.specs.Steps.{protocol}
use Rattle.machine.specs.Command.{CommandOutcome, arguments, opened_word, with_entry, with_shares, with_outputs, accepted_outcome, verdict_outcome, command}
use Rattle.machine.specs.Registers.{Register, register, Registers, registers, register_at, value, with_register, judge, next_registers, step, opened_register}
use Rattle.machine.specs.Start.{combined_word, register_of, up_to, starting_registers}
use Rattle.machine.specs.Run.{is_opened}
use Rattle.machine.specs.Private.Accept.{IfHandle}
use Rattle.machine.specs.Claims.{Appended, IsNew, IfAccepted, PlaceMoved, NewValue, Counts, OpenedRight, NeverSpent, CommandAgreement}
use Rattle.protocols.proofs.Laws.Deliveries.{both}
use Rattle.machine.proofs.Laws.Accepted.{Passed, all_passed, has_room}
use Rattle.machine.proofs.Laws.Steps.{count-lengths, open_hands, never_lacks, performs}
use Rattle.machine.proofs.Laws.Steps.{count-lengths, open_hands}
use Rattle.machine.proofs.Laws.Rows.{same_code, opens-at_11}
use Rattle.machine.specs.Refusal.{refusal_number as refusal_number}
use Rattle.machine.proofs.Laws.Rows.{refusal_number-positive}
use Rattle.machine.proofs.Laws.Judge.{filled_is, same-lengths, judge-same}
use Rattle.machine.proofs.Laws.Entries.{get_or-up_to, up_to-same, entry-set_old, entry-set_new, get_or-put, length-put, table-with_shares, sets_appended, list-with_words, count-plus, due-moved, below-get_or, shares_are_words, below_put, below-sets}
use Rattle.machine.proofs.Laws.Lawful.{ArgumentsAreWords, NewHandle, lawful}

-- ---- registers of filled handles, and the operands' words

named_start : (n : ℕ) (p : Place) (l : Lent) (h : ℕ) → IsFilled p h → register_at (starting_registers n p l).held h ≡ register_of n l h
unfolding starting_registers
named_start n p l h f = get_or-up_to p.handles (register_of n l) (register 0 0) h f.0 f.1

-- the register of handle h has the kind of h and the value of its shares
register_combines : (n : ℕ) (l : Lent) (h : ℕ) (r : Register) → register_of n l h ≡ r
    → (entry l.kinds h ≡ r.kind) × (combined_word (modulus n) r.kind (shares_at l.tables h) ≡ r.word)
register_combines n l h r e =
    (ap (λ (q : Register). q.kind) e, subst (λ (q : Register). combined_word (modulus n) q.kind (shares_at l.tables h) ≡ q.word) e refl)

-- if a field names a filled handle, its shares are words, and combine to its register's word
operand_words : (n : ℕ) (p : Place) (l : Lent) (u : Use) (h : ℕ) → LentAreWords (modulus n) p l → meets u true (is_filled p h) true ≡ true
    → IfHandle u (AreWordsOf (modulus n) (shares_at l.tables h))
operand_words n p l Unused h w e = tt
operand_words n p l Handle h w e = shares_are_words (modulus n) p l h (pow_pos (width n)) (filled_is p h e) w.shares
operand_words n p l Word h w e = tt
operand_words n p l Position h w e = tt

operand_word : (n : ℕ) (p : Place) (l : Lent) (u : Use) (h k : ℕ) → meets u true (is_filled p h) true ≡ true
    → meets u true (eqb (entry l.kinds h) k) true ≡ true
    → IfHandle u (combined_word (modulus n) k (shares_at l.tables h) ≡ (register_at (starting_registers n p l).held h).word)
operand_word n p l Unused h k e f = tt
operand_word n p l Handle h k e f =
    ap (λ (j : ℕ). combined_word (modulus n) j (shares_at l.tables h)) (sym (eqb-true (entry l.kinds h) k f))
    ∙ ap (λ (r : Register). r.word) (sym (named_start n p l h (filled_is p h e)))
operand_word n p l Word h k e f = tt
operand_word n p l Position h k e f = tt

-- the shares of the handle that an open names add up to its register's word
pub open_names : (n : ℕ) (c : Command) (p : Place) (l : Lent) → Passed n Open c p (sizes l) l.kinds
    → sum_of (modulus n) (shares_at l.tables c.a) ≡ (register_at (starting_registers n p l).held c.a).word
open_names n c p l a =
    operand_word n p l Handle c.a 1 (both (is_filled p c.a) true a.seven).0 (both (eqb (entry l.kinds c.a) 1) true a.eight).0

-- ---- one more register

register-same : (n : ℕ) {k k' : ℕ} {f g : Miner → ℕ} → k ≡ k' → ((i : Miner) → f i ≡ g i)
    → register (combined_word (modulus n) k (each f)) k ≡ register (combined_word (modulus n) k' (each g)) k'
register-same n e h = λ i. register (combined_word (modulus n) (e i) (each (λ j. h j i))) (e i)

-- shares s of kind k are written behind h handles
module _ (n : ℕ) (l : Lent) (h : ℕ) (s : Shares) (k : ℕ) (r : Lists) where
  abbrev with_value : ℕ → Lent
  with_value v = lent_lists (with_shares v l.tables h s) (with_entry v l.kinds h k) l.inputs l.tapes r

  old_register : (g : ℕ) → 1 ≤ g → g ≤ h → register_of n (with_value 1) g ≡ register_of n l g
  old_register g a b = register-same n (entry-set_old l.kinds h k g a b) (λ i. entry-set_old (table i l.tables) h (at i s) g a b)

  new_register : ((i : Miner) → h < length (table i l.tables)) → h < length l.kinds
      → register_of n (with_value 1) (suc h) ≡ register (combined_word (modulus n) k s) k
  new_register a b = register-same n (entry-set_new l.kinds h k b) (λ i. entry-set_new (table i l.tables) h (at i s) (a i))

  registers_grow : (v : ℕ) → v ≤ 1 → ((i : Miner) → h + v ≤ length (table i l.tables)) → h + v ≤ length l.kinds
      → up_to (h + v) (register_of n (with_value v)) ≡ with_register v (up_to h (register_of n l)) (register (combined_word (modulus n) k s) k)
  unfolding up_to
  registers_grow zero i a b = ap (λ (w : ℕ). up_to w (register_of n l)) (add-zero h)
  registers_grow (suc zero) i a b =
      ap (λ (w : ℕ). up_to w (register_of n (with_value 1))) (add-one h)
      ∙ ap₂ (λ (g : List Register) (q : Register). g ++ (q ∷ [])) (up_to-same h (register_of n (with_value 1)) (register_of n l) old_register)
      (new_register (λ j. omega (arith, a j)) (omega arith))
  registers_grow (suc (suc v)) i a b = absurd (omega arith)

-- ---- an accepted command

module _ (n : ℕ) (c : Command) (p : Place) (l : Lent) (x : Code) where
  -- what the command works on, and the next words of the tapes
  abbrev pub takes : Arguments
  takes = arguments l.tables l.inputs p c

  abbrev pub draws : Tapes
  draws = block (protocol n x c.b).draws p l.tapes

  module _ (b : Tapes) where
    -- the shares, the sent words and the lent lists that it gives from a block of words
    abbrev pub makes : Shares
    makes = (protocol n x c.b).result takes b

    abbrev pub sends : Lists
    sends = (protocol n x c.b).received takes b

    abbrev pub leaves : Lent
    leaves = with_outputs (row n x) p makes sends l

    pub sizes-left : sizes leaves ≡ sizes l
    sizes-left =
        let v = (row n x).values in
        let t = l.tables in
        let r = l.received in
        λ i. record {
          one = length-put v t.one p.handles makes.one i;
          two = length-put v t.two p.handles makes.two i;
          three = length-put v t.three p.handles makes.three i;
          kinds = length-put v l.kinds p.handles (kind_number (row n x).kind) i;
          inputs = length l.inputs;
          tapes = tape_lengths l.tapes;
          received = received_counts (length-sets r.one p.received.one sends.one i) (length-sets r.two p.received.two sends.two i)
              (length-sets r.three p.received.three sends.three i) (length-sets r.controller p.received.controller sends.controller i);
        }

    pub table-left : (i : Miner) → table i leaves.tables ≡ with_entry (row n x).values (table i l.tables) p.handles (at i makes)
    table-left i = table-with_shares i (row n x).values l.tables p.handles makes

  module _ (a : Passed n x c p (sizes l) l.kinds) where
    same : (i : Miner) → length (table i l.tables) ≡ length l.kinds
    same = same-lengths l (both _ _ a.four).0

    fits : p.handles + (row n x).values ≤ length l.kinds
    fits = omega (arith, (has_room a).handles, same one)

    -- the sent words are behind those that each list held
    pub appended : (b : Tapes) (r : Receiver) → Appended (list r l.received) (count_for r p.received) (list r (sends b)) (list r (leaves b).received)
    appended b r =
        list-with_words r l.received p (sends b)
        ∙ sets_appended (list r l.received) (count_for r p.received) (list r (sends b))
        (omega (arith, (has_room a).received r, due-list_lengths r l.received, ((lawful x).counted n c.b).long takes b r))

  module _ (w : LentAreWords (modulus n) p l) (a : Passed n x c p (sizes l) l.kinds) where
    filled_fields : (meets (row n x).a true (is_filled p c.a) true ≡ true) × (meets (row n x).b true (is_filled p c.b) true ≡ true)
    filled_fields = both (meets (row n x).a true (is_filled p c.a) true) (meets (row n x).b true (is_filled p c.b) true) a.seven

    pub given_are_words : ArgumentsAreWords n x takes
    given_are_words = (
      below-get_or (modulus n) l.inputs p.inputs (pow_pos (width n)) w.inputs,
      operand_words n p l (row n x).a c.a w filled_fields.0,
      operand_words n p l (row n x).b c.b w filled_fields.1,
    )

    drawn-words : Contents (modulus n) (protocol n x c.b).draws draws
    drawn-words =
        subst (λ (d : Drawn). Contents (modulus n) d (block d p l.tapes)) (sym ((lawful x).counted n c.b).drawn)
        (block_contents (modulus n) (row n x).drawn p l.tapes w.tapes (λ i. omega (arith, (has_room a).drawn i, count-lengths i l.tapes)))

    module _ (b : Tapes) (h : Contents (modulus n) (protocol n x c.b).draws b) where
      pub words_left : LentAreWords (modulus n) (with_row p (row n x)) (leaves b)
      words_left = record {
        shares = λ i. subst (λ (t : List ℕ). AllBelow (modulus n) (take (p.handles + (row n x).values) t)) (sym (table-left b i))
            (below_put (modulus n) (row n x).values (table i l.tables) p.handles (at i (makes b)) ((lawful x).one_value n)
            (omega (arith, fits a, same a i)) (w.shares i) (((lawful x).counted n c.b).made takes given_are_words b h i));
        inputs = w.inputs;
        tapes = w.tapes;
        received = λ r. subst₂ (λ (k : ℕ) (t : List ℕ). AllBelow (modulus n) (take k t)) (sym (due-moved r p (row n x)))
            (sym (list-with_words r l.received p (sends b)))
            (below-sets (modulus n) (list r l.received) (count_for r p.received) (list r (sends b)) (count_for r (row n x).received)
            (((lawful x).counted n c.b).long takes b r) (omega (arith, (has_room a).received r, due-list_lengths r l.received))
            (w.received r) (((lawful x).counted n c.b).delivered takes given_are_words b h r).below);
      }

      -- the new shares combine to the register machine's value
      new_word : combined_word (modulus n) (kind_number (row n x).kind) (makes b)
          ≡ value n x (register_at (starting_registers n p l).held c.a).word (register_at (starting_registers n p l).held c.b).word c.b (get_or l.inputs p.inputs 0)
      new_word =
          let y = row n x in
          let k = l.kinds in
          let g = both (meets y.a true (eqb (entry k c.a) (kind_number y.operands)) true) (meets y.b true (eqb (entry k c.b) (kind_number y.operands)) true) a.eight in
          (lawful x).combines n c.b takes b given_are_words h
          ∙ (lawful x).same_value n _ _ _ _ c.b (get_or l.inputs p.inputs 0) (operand_word n p l y.a c.a (kind_number y.operands) filled_fields.0 g.0)
          (operand_word n p l y.b c.b (kind_number y.operands) filled_fields.1 g.1)

      -- the registers of the shares after the command are those of the register machine after it
      pub start_left : starting_registers n (with_row p (row n x)) (leaves b) ≡ next_registers n (Accepted x) c l.inputs (starting_registers n p l)
      unfolding starting_registers
      start_left = λ i. registers (held i) (with_row p (row n x))
        where
          held : up_to (p.handles + (row n x).values) (register_of n (leaves b)) ≡ (next_registers n (Accepted x) c l.inputs (starting_registers n p l)).held
          held =
              registers_grow n l p.handles (makes b) (kind_number (row n x).kind) (leaves b).received (row n x).values ((lawful x).one_value n)
              (λ i. omega (arith, fits a, same a i)) (fits a)
              ∙ ap (λ (u : ℕ). with_register (row n x).values (starting_registers n p l).held (register u (kind_number (row n x).kind))) new_word

-- ---- a command, accepted or refused

-- what a command leaves unchanged; the laws that end in `by` are by cases of the verdict
record Kept (n : ℕ) (p : Place) (l : Lent) (o : CommandOutcome) : Type 0 where
  tables_kept : (i : Miner) (k : ℕ) → ¬ IsNew p o.answer.place k → get_or (table i o.lent.tables) k 0 ≡ get_or (table i l.tables) k 0
  kinds_kept : (k : ℕ) → ¬ IsNew p o.answer.place k → get_or o.lent.kinds k 0 ≡ get_or l.kinds k 0
  inputs_kept : o.lent.inputs ≡ l.inputs
  tapes_kept : o.lent.tapes ≡ l.tapes
  sizes_kept : sizes o.lent ≡ sizes l
  words : LentAreWords (modulus n) o.answer.place o.lent

module _ (n : ℕ) (c : Command) (p : Place) (l : Lent) where
  abbrev decision : Verdict
  decision = verdict n c p (sizes l) l.kinds

  pub has_passed : (x : Code) → decision ≡ Accepted x → Passed n x c p (sizes l) l.kinds
  has_passed x = all_passed n x c p (sizes l) l.kinds

  command_accepts : (x : Code) → decision ≡ Accepted x → command n c p l ≡ accepted_outcome n x c p l
  unfolding command
  command_accepts x e = ap (λ (v : Verdict). verdict_outcome n v c p l) e

  number-decided : (v : Verdict) → (verdict_outcome n v c p l).answer.number ≡ verdict_number v
  unfolding accepted_outcome
  number-decided (Accepted x) = refl
  number-decided (Refused r) = refl

  pub code_opens : (x : Code) → decision ≡ Accepted x → eqb c.code 11 ≡ opens_value (row n x)
  code_opens x e = opens-at_11 n c.code x (has_passed x e).known

  -- a command that answers 0 is accepted, as the command of its code
  accepted_by : (v : Verdict) → decision ≡ v → (x : Code) → code_named c.code ≡ Ok x → verdict_number v ≡ 0 → decision ≡ Accepted x
  accepted_by (Accepted y) e x f z = e ∙ ap Accepted (same_code (has_passed y e).known f)
  accepted_by (Refused r) e x f z = absurd (omega (arith, z, refusal_number-positive r))

  pub is_accepted : (x : Code) → IfAccepted n c p l x (decision ≡ Accepted x)
  unfolding command
  is_accepted x f z = accepted_by decision refl x f (sym (number-decided decision) ∙ z)

  -- an accepted command moves the place record on by its row
  moved_by : (x : Code) → decision ≡ Accepted x → PlaceMoved n c p l x
  unfolding accepted_outcome
  moved_by x e =
      let q = ap (λ (o : CommandOutcome). o.answer.place) (command_accepts x e) in
      record {
        handles = ap (λ (q : Place). q.handles) q;
        inputs = ap (λ (q : Place). q.inputs) q;
        drawn = λ i. ap (λ (q : Place). count i q.drawn) q ∙ count-plus i p.drawn (row n x).drawn;
        received = λ r. ap (λ (q : Place). count_for r q.received) q ∙ due-moved r p (row n x);
      }

  -- each received list has the words of its protocol behind the earlier ones
  appended_by : (x : Code) → decision ≡ Accepted x → (r : Receiver)
      → Appended (list r l.received) (count_for r p.received) (list r (sends n c p l x (draws n c p l x))) (list r (command n c p l).lent.received)
  unfolding accepted_outcome
  appended_by x e r = ap (λ (o : CommandOutcome). list r o.lent.received) (command_accepts x e) ∙ appended n c p l x (has_passed x e) (draws n c p l x) r

  -- it draws and sends as many words as its row says
  pub counted_by : (x : Code) → decision ≡ Accepted x → Counts n c p l x
  counted_by x e = let f = (lawful x).counted n c.b in record {
    drawn = f.drawn;
    received = f.long (takes n c p l x) (draws n c p l x);
    gain = appended_by x e;
  }

  accepts_open : (x : Code) → decision ≡ Accepted x → c.code ≡ 11 → decision ≡ Accepted Open
  accepts_open x e f = e ∙ ap Accepted (same_code (has_passed x e).known (ap code_named f))

  not_opened_by : (v : Verdict) → decision ≡ v → ¬ (c.code ≡ 11) → (verdict_outcome n v c p l).answer.opened ≡ 0
  unfolding accepted_outcome
  not_opened_by (Accepted x) e f = ap (λ (b : Bool). cond b (sum_of (modulus n) (makes n c p l x (draws n c p l x))) 0) (sym (code_opens x e) ∙ ne_eqb c.code 11 f)
  not_opened_by (Refused r) e f = refl

  module _ (w : LentAreWords (modulus n) p l) where
    kept_by : (v : Verdict) → decision ≡ v → Kept n p l (verdict_outcome n v c p l)
    unfolding accepted_outcome
    kept_by (Accepted x) e = record {
      tables_kept = λ i k h. ap (λ (t : List ℕ). get_or t k 0) (table-left n c p l x (draws n c p l x) i)
          ∙ get_or-put (row n x).values (table i l.tables) p.handles (at i (makes n c p l x (draws n c p l x))) k h;
      kinds_kept = get_or-put (row n x).values l.kinds p.handles (kind_number (row n x).kind);
      inputs_kept = refl;
      tapes_kept = refl;
      sizes_kept = sizes-left n c p l x (draws n c p l x);
      words = words_left n c p l x w (has_passed x e) (draws n c p l x) (drawn-words n c p l x w (has_passed x e));
    }
    kept_by (Refused r) e = record { tables_kept = λ i k h. refl; kinds_kept = λ k h. refl; inputs_kept = refl; tapes_kept = refl; sizes_kept = refl; words = w }

    -- the new handle, if there is a new value
    new_handle : (x : Code) → decision ≡ Accepted x → (row n x).values ≡ 1 → NewHandle n c p l x
    unfolding accepted_outcome
    new_handle x e one_due =
        let a = has_passed x e in
        let b = draws n c p l x in
        let s = makes n c p l x b in
        let k = kind_number (row n x).kind in
        let r = (leaves n c p l x b).received in
        let h : p.handles + 1 ≤ length l.kinds = omega (arith, fits n c p l x a, one_due) in
        let is : register_of n (command n c p l).lent (p.handles + 1) ≡ register (combined_word (modulus n) k s) k =
        ap (λ (o : CommandOutcome). register_of n o.lent (p.handles + 1)) (command_accepts x e)
        ∙ ap (λ (v : ℕ). register_of n (with_value n l p.handles s k r v) (p.handles + 1)) one_due
        ∙ ap (register_of n (with_value n l p.handles s k r 1)) (add-one p.handles)
        ∙ new_register n l p.handles s k r (λ i. omega (arith, h, same n c p l x a i)) (omega (arith, h)) in
        let t = register_combines n (command n c p l).lent (p.handles + 1) (register (combined_word (modulus n) k s) k) is in
        (t.0, t.1 ∙ (lawful x).combines n c.b (takes n c p l x) b (given_are_words n c p l x w a) (drawn-words n c p l x w a))

    new_value : (x : Code) → decision ≡ Accepted x → NewValue n c p l x
    new_value x e = (lawful x).new_value n c p l (new_handle x e)

    -- the registers
    start_by : (v : Verdict) → decision ≡ v → starting_registers n (verdict_outcome n v c p l).answer.place (verdict_outcome n v c p l).lent ≡ next_registers n v c l.inputs (starting_registers n p l)
    unfolding accepted_outcome
    start_by (Accepted x) e = start_left n c p l x w (has_passed x e) (draws n c p l x) (drawn-words n c p l x w (has_passed x e))
    start_by (Refused r) e = refl

    pub start-after : starting_registers n (command n c p l).answer.place (command n c p l).lent ≡ step n c (sizes l) l.inputs (starting_registers n p l)
    unfolding command step
    start-after = start_by decision refl ∙ ap (λ (v : Verdict). next_registers n v c l.inputs (starting_registers n p l)) (sym (judge-same n c p l))

    -- the opened word
    accepted_open : decision ≡ Accepted Open → OpenedRight n c p l
    unfolding accepted_outcome
    accepted_open e =
        let a = has_passed Open e in
        let is_held_lem = new_word n c p l Open w a (draws n c p l Open) (drawn-words n c p l Open w a) in
        record {
          shares = makes n c p l Open (draws n c p l Open);
          to_controller = subst (λ (s : List ℕ). Appended l.received.controller p.received.controller s (command n c p l).lent.received.controller)
              (open_hands n c.b (takes n c p l Open) (draws n c p l Open)) (appended_by Open e controller);
          add_up = is_held_lem;
          answer = ap (λ (o : CommandOutcome). o.answer.opened) (command_accepts Open e) ∙ is_held_lem;
        }

    opened_by : (v : Verdict) → decision ≡ v → c.code ≡ 11 → verdict_number v ≡ 0 → OpenedRight n c p l
    opened_by (Accepted x) e f k = accepted_open (accepts_open x e f)
    opened_by (Refused r) e f k = absurd (omega (arith, k, refusal_number-positive r))

    shown_by : (v : Verdict) → decision ≡ v
        → cond (is_opened c (verdict_outcome n v c p l).answer) ((verdict_outcome n v c p l).answer.opened ∷ []) [] ≡ opened_register n v c (starting_registers n p l)
    unfolding accepted_outcome
    shown_by (Accepted x) e = by_code (eqb c.code 11) refl ∙ ap (λ (b : Bool). cond b ((register_at (starting_registers n p l).held c.a).word ∷ []) []) (code_opens x e)
      where
        by_code : (b : Bool) → eqb c.code 11 ≡ b
            → cond (b && true) (opened_word n (row n x) (makes n c p l x (draws n c p l x)) ∷ []) [] ≡ cond b ((register_at (starting_registers n p l).held c.a).word ∷ []) []
        by_code true f = ap (λ (u : ℕ). u ∷ [])
            (ap (λ (o : CommandOutcome). o.answer.opened) (sym (command_accepts x e)) ∙ (accepted_open (accepts_open x e (eqb-true c.code 11 f))).answer)
        by_code false f = refl
    shown_by (Refused r) e =
        ap (λ (b : Bool). cond (eqb c.code 11 && b) (0 ∷ []) []) (ne_eqb (refusal_number r) 0 (λ f. omega (arith, f, refusal_number-positive r)))
        ∙ ap (λ (b : Bool). cond b (0 ∷ []) []) (and-false (eqb c.code 11))

    pub shown-after : cond (is_opened c (command n c p l).answer) ((command n c p l).answer.opened ∷ []) [] ≡ opened_register n (judge n c (sizes l) (starting_registers n p l)) c (starting_registers n p l)
    unfolding command
    shown-after = shown_by decision refl ∙ ap (λ (v : Verdict). opened_register n v c (starting_registers n p l)) (sym (judge-same n c p l))

-- the protocol of an accepted command is done, whatever the other counts of the place record are
pub never_spent : (n : ℕ) (c : Command) (p : Place) (l : Lent) → NeverSpent n c p l
never_spent n c p l x f z q same =
    performs n x c.b (arguments l.tables l.inputs p c) p q l.tapes same (never_lacks n x c p l (has_passed n c p l x (is_accepted n c p l x f z)))

-- ---- agreement

pub command_agreement : (n : ℕ) (c : Command) (p : Place) (l : Lent) → LentAreWords (modulus n) p l → CommandAgreement n c p l
unfolding command starting_registers
command_agreement n c p l w =
    let v = decision n c p l in
    let o = command n c p l in
    let k = kept_by n c p l w v refl in
    record {
      same_number = number-decided n c p l v ∙ ap verdict_number (sym (judge-same n c p l));
      same_place = ap (λ (m : Registers). m.place) (start-after n c p l w);
      combine = λ h f. register_combines n o.lent h (register_at (step n c (sizes l) l.inputs (starting_registers n p l)).held h)
          (sym (named_start n o.answer.place o.lent h f) ∙ ap (λ (m : Registers). register_at m.held h) (start-after n c p l w));
      place_counts = λ x f z. moved_by n c p l x (is_accepted n c p l x f z);
      value = λ x f z. new_value n c p l w x (is_accepted n c p l x f z);
      counts = λ x f z. counted_by n c p l x (is_accepted n c p l x f z);
      opened = λ f e. opened_by n c p l w v refl f (sym (number-decided n c p l v) ∙ e);
      not_opened = not_opened_by n c p l v refl;
      tables_kept = k.tables_kept;
      kinds_kept = k.kinds_kept;
      inputs_kept = k.inputs_kept;
      tapes_kept = k.tapes_kept;
      sizes_kept = k.sizes_kept;
      words = k.words;
    }
