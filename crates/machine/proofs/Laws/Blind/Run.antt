-- A run, as one protocol, is blind: by induction over the commands, for every observer.
use Prim.Native.Nat.{ℕ}
use mathlib.Core.Path.{◌≡◌, refl, sym, ap, ap₂, subst₂, ◌∙◌}
use mathlib.Core.Bool.{Bool, true, false, cond}
use mathlib.Core.List.{List, [], ◌∷◌, ◌++◌}
use lib.ListN.{get_or, drop}
use lib.Seq.{sets}
use Rattle.protocols.specs.declared.place.Place.{Place}
use Rattle.protocols.specs.Word.{modulus}
use Rattle.protocols.specs.Shares.{Miner, one, two, three, at, sum_of}
use Rattle.protocols.specs.Place.{Tapes, Receiver, miner, controller, list}
use Rattle.protocols.specs.Contents.{Contents}
use Rattle.protocols.specs.Counts.{count_for}
use Rattle.protocols.specs.Blind.{Observer, Sees, SameShares, Blind}
use Rattle.protocols.proofs.Laws.Blind.Compose.{blind_then, blind_unmasked}
use Rattle.machine.specs.declared.code.Command.{Command}
use Rattle.machine.specs.declared.refusal.Refusal.{Refusal}
use Rattle.machine.specs.Table.{Code, Open, kind_number, row, opens_value, with_row}
use Rattle.machine.specs.declared.lent.Sizes.{Sizes}
use Rattle.machine.specs.Lent.{Tables, Lent, table, sizes, entry, shares_at, LentAreWords}
use Rattle.machine.specs.Verdict.{Verdict, Accepted, Refused, verdict}
use Rattle.machine.specs.Steps.{protocol}
use Rattle.machine.specs.Command.{with_entry}
use Rattle.machine.specs.Registers.{Registers, register_at, judge, next_registers, step, opened_register, opened_registers}
use Rattle.machine.specs.Start.{starting_registers}
use Rattle.machine.proofs.Laws.Accepted.{Passed, all_passed}
use Rattle.machine.proofs.Laws.Entries.{list-with_words}
use Rattle.machine.proofs.Laws.Judge.{judge-same}
use Rattle.machine.proofs.Laws.Agree.{takes, makes, sends, leaves, sizes-left, table-left, given_are_words, words_left, start_left, open_names}
use Rattle.machine.proofs.Laws.Blind.Public.{place_after, kinds_after}
use Rattle.machine.proofs.Laws.Blind.RunProtocol.{step_protocol, run_protocol}
use Rattle.machine.proofs.Laws.Lawful.{ArgumentsAreWords, SameArguments, lawful}

-- ---- the lent lists before a command

-- they hold words, and have the public lengths and kinds
pub record Held (n : ℕ) (p : Place) (z : Sizes) (k : List ℕ) (l : Lent) : Type 0 where
  pub words : LentAreWords (modulus n) p l
  pub sized : sizes l ≡ z
  pub kinds : l.kinds ≡ k

-- they look the same to the observer
pub record Seen (o : Observer) (l l' : Lent) : Type 0 where
  pub tables : (i : Miner) → Sees o (miner i) → table i l.tables ≡ table i l'.tables
  pub lists : (r : Receiver) → Sees o r → list r l.received ≡ list r l'.received

-- and, for the controller, the commands to come give the same opened words
pub record Alike (n : ℕ) (o : Observer) (cs : List Command) (p : Place) (z : Sizes) (l l' : Lent) : Type 0 where
  pub seen : Seen o l l'
  pub leading : Sees o controller → opened_registers n cs z l.inputs (starting_registers n p l) ≡ opened_registers n cs z l'.inputs (starting_registers n p l')

-- ---- lists of opened words

shown_parts : (b : Bool) (w w' : ℕ) (r r' : List ℕ) → cond b (w ∷ []) [] ++ r ≡ cond b (w' ∷ []) [] ++ r' → (b ≡ true → w ≡ w') × (r ≡ r')
shown_parts true w w' r r' e = (λ f. ap (λ (l : List ℕ). get_or l 0 0) e, ap (drop 1) e)
shown_parts false w w' r r' e = (λ f. cc, e)

leads_by : (n : ℕ) (c : Command) (cs : List Command) (z : Sizes) (i : List ℕ) (m : Registers) (v : Verdict) → judge n c z m ≡ v
    → opened_registers n (c ∷ cs) z i m ≡ opened_register n v c m ++ opened_registers n cs z i (next_registers n v c i m)
unfolding opened_registers step
leads_by n c cs z i m v e = ap (λ (u : Verdict). opened_register n u c m ++ opened_registers n cs z i (next_registers n u c i m)) e

at-shares_at : (i : Miner) (t : Tables) (h : ℕ) → at i (shares_at t h) ≡ entry (table i t) h
at-shares_at one t h = refl
at-shares_at two t h = refl
at-shares_at three t h = refl

same_shares : (o : Observer) (l l' : Lent) (h : ℕ) → Seen o l l' → SameShares o (shares_at l.tables h) (shares_at l'.tables h)
same_shares o l l' h s i q = at-shares_at i l.tables h ∙ ap (λ (t : List ℕ). entry t h) (s.tables i q) ∙ sym (at-shares_at i l'.tables h)

-- ---- one command

module _ (n : ℕ) (o : Observer) (c : Command) (cs : List Command) (p : Place) (z : Sizes) (k : List ℕ) where
  judged_as : (v : Verdict) → verdict n c p z k ≡ v → (l : Lent) → Held n p z k l → judge n c z (starting_registers n p l) ≡ v
  judged_as v e l h =
      subst₂ (λ (y : Sizes) (j : List ℕ). judge n c y (starting_registers n p l) ≡ verdict n c p y j) h.sized h.kinds (judge-same n c p l) ∙ e

  module _ (x : Code) (e : verdict n c p z k ≡ Accepted x) where
    passed : (l : Lent) → Held n p z k l → Passed n x c p (sizes l) l.kinds
    passed l h = subst₂ (λ (y : Sizes) (j : List ℕ). Passed n x c p y j) (sym h.sized) (sym h.kinds) (all_passed n x c p z k e)

    good : (l : Lent) → Held n p z k l → ArgumentsAreWords n x (takes n c p l x)
    good l h = given_are_words n c p l x h.words (passed l h)

    -- the opened words of the commands from this one on
    leads-on : (l : Lent) → Held n p z k l → (b : Tapes) → Contents (modulus n) (protocol n x c.b).draws b
        → opened_registers n (c ∷ cs) z l.inputs (starting_registers n p l)
        ≡ opened_register n (Accepted x) c (starting_registers n p l) ++ opened_registers n cs z l.inputs (starting_registers n (with_row p (row n x)) (leaves n c p l x b))
    leads-on l h b hb =
        leads_by n c cs z l.inputs (starting_registers n p l) (Accepted x) (judged_as (Accepted x) e l h)
        ∙ ap (λ (m : Registers). opened_register n (Accepted x) c (starting_registers n p l) ++ opened_registers n cs z l.inputs m) (sym (start_left n c p l x h.words (passed l h) b hb))

    module _ (l l' : Lent) (h : Held n p z k l) (h' : Held n p z k l') (s : Alike n o (c ∷ cs) p z l l') (b b' : Tapes)
        (hb : Contents (modulus n) (protocol n x c.b).draws b) (hb' : Contents (modulus n) (protocol n x c.b).draws b') where
      parts : Sees o controller
          → (opens_value (row n x) ≡ true → (register_at (starting_registers n p l).held c.a).word ≡ (register_at (starting_registers n p l').held c.a).word)
          × (opened_registers n cs z l.inputs (starting_registers n (with_row p (row n x)) (leaves n c p l x b)) ≡ opened_registers n cs z l'.inputs (starting_registers n (with_row p (row n x)) (leaves n c p l' x b')))
      parts q = shown_parts (opens_value (row n x)) _ _ _ _ (sym (leads-on l h b hb) ∙ s.leading q ∙ leads-on l' h' b' hb')

      same-given : SameArguments n o x (takes n c p l x) (takes n c p l' x)
      same-given = record {
        u = same_shares o l l' c.a s.seen;
        v = same_shares o l l' c.b s.seen;
        opened = λ f q. same_opened x f (passed l h) (passed l' h') (parts q).0;
      }
        where
          same_opened : (y : Code) → y ≡ Open → Passed n y c p (sizes l) l.kinds → Passed n y c p (sizes l') l'.kinds
              → (opens_value (row n y) ≡ true → (register_at (starting_registers n p l).held c.a).word ≡ (register_at (starting_registers n p l').held c.a).word)
              → sum_of (modulus n) (shares_at l.tables c.a) ≡ sum_of (modulus n) (shares_at l'.tables c.a)
          same_opened y f a a' w =
              open_names n c p l (rw f at a) ∙ w (ap (λ (y : Code). opens_value (row n y)) f) ∙ sym (open_names n c p l' (rw f at a'))

      same_left : SameShares o (makes n c p l x b) (makes n c p l' x b')
          → ((r : Receiver) → Sees o r → list r (sends n c p l x b) ≡ list r (sends n c p l' x b'))
          → Alike n o cs (with_row p (row n x)) z (leaves n c p l x b) (leaves n c p l' x b')
      same_left made sent = record {
        seen = record {
          tables = λ i q. table-left n c p l x b i
              ∙ ap₂ (λ (t : List ℕ) (w : ℕ). with_entry (row n x).values t p.handles w) (s.seen.tables i q) (made i q)
              ∙ sym (table-left n c p l' x b' i);
          lists = λ r q. list-with_words r l.received p (sends n c p l x b)
              ∙ ap₂ (λ (t w : List ℕ). sets t (count_for r p.received) w) (s.seen.lists r q) (sent r q)
              ∙ sym (list-with_words r l'.received p (sends n c p l' x b'));
        };
        leading = λ q. (parts q).1;
      }

    accepted-blind : Blind (modulus n) o (step_protocol n (Accepted x) c p) (Held n p z k) (Alike n o (c ∷ cs) p z) (Alike n o cs (with_row p (row n x)) z)
    accepted-blind =
        let B = (lawful x).blind n o c.b in
        record {
          mask = λ l. B.mask (takes n c p l x);
          unmask = λ l. B.unmask (takes n c p l x);
          mask_words = λ l h. B.mask_words (takes n c p l x) (good l h);
          unmask_words = λ l h. B.unmask_words (takes n c p l x) (good l h);
          unmask_mask = λ l h. B.unmask_mask (takes n c p l x) (good l h);
          mask_unmask = λ l h. B.mask_unmask (takes n c p l x) (good l h);
          mask_own = λ l h. B.mask_own (takes n c p l x) (good l h);
          same = λ l l' h h' s b b' hb hb' f.
              let t = B.same (takes n c p l x) (takes n c p l' x) (good l h) (good l' h') (same-given l l' h h' s b b' hb hb') b b' hb hb' f in
              (same_left l l' h h' s b b' hb hb' t.0 t.1, t.1);
        }

  refused-blind : (r : Refusal) → verdict n c p z k ≡ Refused r
      → Blind (modulus n) o (step_protocol n (Refused r) c p) (Held n p z k) (Alike n o (c ∷ cs) p z) (Alike n o cs p z)
  refused-blind r e = record {
    mask = λ l b. b;
    unmask = λ l b. b;
    mask_words = λ l h b hb. hb;
    unmask_words = λ l h b hb. hb;
    unmask_mask = λ l h b hb. refl;
    mask_unmask = λ l h b hb. refl;
    mask_own = λ l h b hb i q. refl;
    same = λ l l' h h' s b b' hb hb' f. (record { seen = s.seen; leading = λ q. sym (goes_on l h) ∙ s.leading q ∙ goes_on l' h' }, λ i q. refl);
  }
    where
      goes_on : (l : Lent) → Held n p z k l → opened_registers n (c ∷ cs) z l.inputs (starting_registers n p l) ≡ opened_registers n cs z l.inputs (starting_registers n p l)
      goes_on l h = leads_by n c cs z l.inputs (starting_registers n p l) (Refused r) (judged_as (Refused r) e l h)

  step-blind : (v : Verdict) → verdict n c p z k ≡ v
      → Blind (modulus n) o (step_protocol n v c p) (Held n p z k) (Alike n o (c ∷ cs) p z) (Alike n o cs (place_after n v p) z)
  step-blind (Accepted x) e = accepted-blind x e
  step-blind (Refused r) e = refused-blind r e

  step-held : (v : Verdict) → verdict n c p z k ≡ v → (l : Lent) → Held n p z k l → (b : Tapes) → Contents (modulus n) (step_protocol n v c p).draws b
      → Held n (place_after n v p) z (kinds_after n v p k) ((step_protocol n v c p).result l b)
  step-held (Accepted x) e l h b hb = record {
    words = words_left n c p l x h.words (passed x e l h) b hb;
    sized = sizes-left n c p l x b ∙ h.sized;
    kinds = ap (λ (j : List ℕ). with_entry (row n x).values j p.handles (kind_number (row n x).kind)) h.kinds;
  }
  step-held (Refused r) e l h b hb = h

-- ---- all commands

pub run-blind : (n : ℕ) (o : Observer) (cs : List Command) (p : Place) (z : Sizes) (k : List ℕ)
    → Blind (modulus n) o (run_protocol n cs p z k) (Held n p z k) (Alike n o cs p z) (Seen o)
unfolding run_protocol
run-blind n o [] p z k = blind_unmasked (λ l l' s b. (s.seen, λ r q. refl))
run-blind n o (c ∷ cs) p z k =
    let v = verdict n c p z k in
    blind_then (step-blind n o c cs p z k v refl) (step-held n o c cs p z k v refl) (run-blind n o cs (place_after n v p) z (kinds_after n v p k))
