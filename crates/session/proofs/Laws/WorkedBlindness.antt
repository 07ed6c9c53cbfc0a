-- Blindness of the worked session's commands, from that of all: the maps of tapes, and equal records part by part.
use Prim.Native.Nat.{ℕ, zero, suc, ◌<◌, ◌^◌}
use mathlib.Core.Path.{◌≡◌, refl, sym, ap, ap₂, ◌∙◌, subst}
use mathlib.Core.Bool.{cond}
use mathlib.Core.List.{List, [], ◌∷◌, ◌++◌, map}
use native.Mathlib.Omega.{arith}
use Rattle.std.proofs.Common.{lit<, Ok}
use lib.ListN.{length, get_or}
use lib.Dec.{eqb}
use borrow.Author.Tests.{ne_eqb}
use Rattle.protocols.specs.declared.place.Party.TheVariants.{Provider, One, Two, Three}
use Rattle.protocols.specs.declared.place.Drawn.{Drawn}
use Rattle.protocols.specs.declared.place.Place.{Place}
use Rattle.protocols.specs.Word.{modulus, mul}
use Rattle.protocols.specs.Shares.{Miner}
use Rattle.protocols.specs.Place.{Tapes, counts}
use Rattle.protocols.specs.Contents.{AllBelow, Words, Contents}
use Rattle.machine.specs.declared.code.Command.{Command}
use Rattle.machine.specs.Table.{Code, Store, Multiply, Open, code_named}
use Rattle.machine.specs.declared.lent.Sizes.{Sizes}
use Rattle.machine.specs.declared.refusal.Refusal.{Refusal}
use Rattle.machine.specs.Refusal.{refusal_number as code_number}
use Rattle.machine.specs.Lent.{lengths}
use Rattle.machine.specs.Registers.{Registers, registers, judge, next_registers, step, opened_register, opened_registers_to_refusal}
use Rattle.machine.specs.Verdict.{Verdict, Accepted, Refused, verdict_number, verdict}
use Rattle.machine.specs.Run.{RunResult, empty_place}
use Rattle.machine.specs.Records.{MinerRecord, miner_record, ControllerRecord, controller_record, SameReplies}
use Rattle.machine.specs.Pairing.{Pairing}
use Rattle.machine.proofs.Laws.Accepted.{all_passed}
use Rattle.machine.proofs.Laws.Blind.Records.{miner_records, controller_records}
use Rattle.machine.proofs.Laws.Blind.Refusal.{run_blindness_to_refusal}
use Rattle.machine.specs.Claims.{BlindRuns}
use Rattle.session.specs.Session.{State, run_of}
use Rattle.session.specs.Claims.{sheet_with}
use Rattle.machine.proofs.Laws.Rows.{refusal_number-positive}
use Rattle.session.specs.WorkedBlindness.{commands, run_of_inputs, IsTape, AreTapes, SameAnswers, SameForMiner, SameForController, Hides, WorkedBlindness}

-- ---- tapes of words

below-words : (m : ℕ) (l : List ℕ) → AllBelow m l → (k : ℕ) → k < length l → get_or l k 0 < m
below-words m [] b k h = absurd (omega arith)
below-words m (x ∷ l) b zero h = b.0
below-words m (x ∷ l) b (suc k) h = below-words m l b.1 k (omega arith)

words_below : (m : ℕ) (l : List ℕ) → ((k : ℕ) → k < length l → get_or l k 0 < m) → AllBelow m l
words_below m [] f = tt
words_below m (x ∷ l) f = (f 0 (omega arith), words_below m l (λ k h. f (suc k) (omega arith)))

is_tape : {n : ℕ} {l : List ℕ} → Words (2 ^ 32) n l → IsTape n l
is_tape {n} {l} w = record { long = w.long; words = λ k h. below-words (2 ^ 32) l w.below k (omega (arith, w.long, h)) }

tape_words : {n : ℕ} {l : List ℕ} → IsTape n l → Words (2 ^ 32) n l
tape_words {n} {l} t = record { long = t.long; below = words_below (2 ^ 32) l (λ k h. t.words k (omega (arith, t.long, h))) }

abbrev d : Drawn
d = counts 4 3 3 3

are_tapes : (t : Tapes) → Contents (2 ^ 32) d t → AreTapes t
are_tapes t h = record { provider = is_tape (h Provider); one = is_tape (h One); two = is_tape (h Two); three = is_tape (h Three) }

contents : (t : Tapes) → AreTapes t → Contents (2 ^ 32) d t
contents t a Provider = tape_words a.provider
contents t a One = tape_words a.one
contents t a Two = tape_words a.two
contents t a Three = tape_words a.three

-- ---- a pairing of tapes is a map that hides

hides : {Ok Fits : Tapes → Type 0} {Like Same : Tapes → Tapes → Type 0} → ((t : Tapes) → Ok t → Fits t) → ((t : Tapes) → Fits t → Ok t)
    → ((t u : Tapes) → Like t u → Same t u) → Pairing Ok Like → Hides Fits Same
hides fits ok same P = record {
  partner = P.to;
  fits = λ t h. fits (P.to t) (P.to_ok t (ok t h));
  one_to_one = λ t u h k. P.one_to_one t u (ok t h) (ok u k);
  none_left_over = λ u h. let w = P.none_left_over u (ok u h) in (w.0, fits w.0 w.1, w.2);
  same = λ t h. same t (P.to t) (P.alike t (ok t h));
}

-- ---- equal records

same_answers : {r r' : RunResult} → SameReplies r r' → SameAnswers r r'
same_answers s = record { numbers = s.0; places = s.1 }

for_miner : (i : Miner) (r r' : RunResult) → miner_record i r ≡ miner_record i r' → SameForMiner i r r'
for_miner i r r' e = record {
  received = ap (λ (m : MinerRecord). m.received) e;
  shares = ap (λ (m : MinerRecord). m.shares) e;
  answers = same_answers (miner_records i r r' e).same_replies;
}

for_controller : (r r' : RunResult) → controller_record r ≡ controller_record r' → SameForController r r'
for_controller r r' e = record {
  received = ap (λ (m : ControllerRecord). m.received) e;
  opened = ap (λ (m : ControllerRecord). m.opened) e;
  answers = same_answers (controller_records r r' e).same_replies;
}

-- ---- the inputs 7 and 5 give the same opened words as 1 and 35

-- the opened words of a register machine from the command c on, whose verdict is v
abbrev words_led_to : Verdict → Command → List Command → Sizes → List ℕ → Registers → List ℕ
words_led_to v c cs z i m = opened_register 5 v c m ++ cond (eqb (verdict_number v) 0) (opened_registers_to_refusal 5 cs z i (next_registers 5 v c i m)) []

words_led_to-first : (c : Command) (cs : List Command) (z : Sizes) (i : List ℕ) (m : Registers) → opened_registers_to_refusal 5 (c ∷ cs) z i m ≡ words_led_to (judge 5 c z m) c cs z i m
unfolding opened_registers_to_refusal step
words_led_to-first c cs z i m = refl

words_led_to-none : (z : Sizes) (i : List ℕ) (m : Registers) → opened_registers_to_refusal 5 [] z i m ≡ []
unfolding opened_registers_to_refusal
words_led_to-none z i m = refl

words_led_to-refused : (r : Refusal) (c : Command) (cs : List Command) (z : Sizes) (i : List ℕ) (m : Registers) → words_led_to (Refused r) c cs z i m ≡ []
words_led_to-refused r c cs z i m = rw (ne_eqb (code_number r) 0 (λ e. omega (arith, refusal_number-positive r, e)))

-- the accepted command is the one that its code names
accepts : (c : Command) (p : Place) (z : Sizes) (kinds : List ℕ) (x y : Code) → code_named c.code ≡ Ok x → verdict 5 c p z kinds ≡ Accepted y → y ≡ x
accepts c p z kinds x y e v = let f = sym (all_passed 5 y c p z kinds v).known ∙ e in cc

-- two machines with the same counts and kinds open the same words from the command x on, if they do so when x is
-- accepted
turn : (c : Command) (cs : List Command) (z : Sizes) (i j : List ℕ) (m k : Registers) (x : Code) → code_named c.code ≡ Ok x → judge 5 c z m ≡ judge 5 c z k
    → opened_register 5 (Accepted x) c m ≡ opened_register 5 (Accepted x) c k
    → opened_registers_to_refusal 5 cs z i (next_registers 5 (Accepted x) c i m) ≡ opened_registers_to_refusal 5 cs z j (next_registers 5 (Accepted x) c j k)
    → opened_registers_to_refusal 5 (c ∷ cs) z i m ≡ opened_registers_to_refusal 5 (c ∷ cs) z j k
turn c cs z i j m k x known alike show next =
    words_led_to-first c cs z i m ∙ by_verdict (judge 5 c z m) refl ∙ ap (λ (v : Verdict). words_led_to v c cs z j k) alike ∙ sym (words_led_to-first c cs z j k)
  where
    by_verdict : (v : Verdict) → judge 5 c z m ≡ v → words_led_to v c cs z i m ≡ words_led_to v c cs z j k
    by_verdict (Accepted y) e =
        subst (λ (w : Code). words_led_to (Accepted w) c cs z i m ≡ words_led_to (Accepted w) c cs z j k)
        (sym (accepts c m.place z (map (λ r. r.kind) m.held) x y known e)) (ap₂ ◌++◌ show next)
    by_verdict (Refused r) e = words_led_to-refused r c cs z i m ∙ sym (words_led_to-refused r c cs z j k)

product : mul (modulus 5) 7 5 ≡ mul (modulus 5) 1 35
unfolding mul
product = refl

same_words_led_to : (z : Sizes) → opened_registers_to_refusal 5 commands z (7 ∷ 5 ∷ []) (registers [] empty_place) ≡ opened_registers_to_refusal 5 commands z (1 ∷ 35 ∷ []) (registers [] empty_place)
same_words_led_to z =
    let i = 7 ∷ 5 ∷ [] in
    let j = 1 ∷ 35 ∷ [] in
    turn _ _ z i j _ _ Store refl refl refl
    (turn _ _ z i j _ _ Store refl refl refl
    (turn _ _ z i j _ _ Multiply refl refl refl
    (turn _ _ z i j _ _ Open refl refl (ap (λ (w : ℕ). w ∷ []) product) (words_led_to-none z _ _ ∙ sym (words_led_to-none z _ _)))))

-- ---- the claim

pub worked_blindness : (s : State) → WorkedBlindness s
worked_blindness s = record {
  miners = λ i own. hides
      (λ t h. record { tapes = are_tapes t h.0; its_own = h.1 })
      (λ t a. (contents t a.tapes, a.its_own))
      (λ t u. for_miner i (run_of_inputs s 7 5 t) (run_of_inputs s 9 100 u))
      ((blind (9 ∷ 100 ∷ []) refl (lit< tt, (lit< tt, tt))).miner i own);
  controller = hides are_tapes contents (λ t u. for_controller (run_of_inputs s 7 5 t) (run_of_inputs s 1 35 u))
      ((blind (1 ∷ 35 ∷ []) refl (lit< tt, (lit< tt, tt))).controller (same_words_led_to (lengths s.tables s.kinds (7 ∷ 5 ∷ []) d s.received)));
}
  where
    blind : (y : List ℕ) → 2 ≡ length y → AllBelow (2 ^ 32) y → BlindRuns (2 ^ 32) d (λ i t. run_of (sheet_with commands i t) s)
        (λ i. opened_registers_to_refusal 5 commands (lengths s.tables s.kinds i d s.received) i (registers [] empty_place)) (7 ∷ 5 ∷ []) y
    blind y e b = run_blindness_to_refusal 5 commands s.tables s.kinds s.received d (7 ∷ 5 ∷ []) y e (lit< tt, (lit< tt, tt)) b
