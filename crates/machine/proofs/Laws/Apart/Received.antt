-- The words that each received list gains in a run: those of each command, one after the other.
use Rattle.std.proofs.Common.{◌≡◌, ℕ, ◌+◌, ◌≤◌, List, [], ◌∷◌, ◌++◌, length, take, drop}
use Rattle.std.proofs.Common.{refl, sym, ap, subst, subst₂, ◌∙◌, add-zero, arith}
use Rattle.std.proofs.Math.Decide.{dec_le}
use Rattle.std.proofs.Math.Seq.{take-append_seam, take-append-add, drop-append-add}
use Rattle.std.proofs.Math.ListN.{drop_of_length-le}
use Rattle.std.proofs.lemmas.List.{append_assoc, append-nil, length-append, length-take-le}
use Rattle.std.proofs.lemmas.List.{take_all, take-append-drop, drop-drop}
use Rattle.protocols.specs.declared.place.Place.{Place}
use Rattle.protocols.specs.Shares.{one, two, three}
use Rattle.protocols.specs.Place.{Tapes, cut, rest, silence, Receiver, miner, controller, list}
use Rattle.protocols.specs.Counts.{count_for}
use Rattle.protocols.proofs.Laws.Apart.Compose.{then_received}
use Rattle.protocols.proofs.Laws.Blind.Compose.{then_result, list_followed}
use Rattle.machine.specs.declared.code.Command.{Command}
use Rattle.machine.specs.declared.lent.Sizes.{Sizes}
use Rattle.machine.specs.Table.{row}
use Rattle.machine.specs.Lent.{Lent, sizes}
use Rattle.machine.specs.Verdict.{Verdict, Accepted, Refused, verdict}
use Rattle.machine.specs.Claims.{Appended}
use Rattle.machine.proofs.Laws.Accepted.{all_passed}
use Rattle.machine.proofs.Laws.Entries.{due-moved}
use Rattle.machine.proofs.Laws.Agree.{takes, sizes-left, appended}
use Rattle.machine.proofs.Laws.Blind.Public.{place_after, kinds_after}
use Rattle.machine.proofs.Laws.Blind.RunProtocol.{step_protocol, run_protocol}
use Rattle.machine.proofs.Laws.Lawful.{lawful}

-- ---- words after words

-- of the lists t, w and d, one after the other: the front t and w, and the rest after j more words
front_with : (t w d : List ℕ) (n : ℕ) → n ≡ length t + length w → take n (t ++ (w ++ d)) ≡ t ++ w
front_with t w d n e =
    rw e (take-append-add t (w ++ d) (length w) ∙ ap (λ (l : List ℕ). t ++ l) (take-append_seam w d))

behind_both : (t w d : List ℕ) (n j : ℕ) → n ≡ length t + (length w + j) → drop n (t ++ (w ++ d)) ≡ drop j d
behind_both t w d n j e = rw e (drop-append-add t (w ++ d) (length w + j) ∙ drop-append-add w d j)

-- of a with w written at position k, which may be beyond its end: the front and w, and the rest after j more words
module _ (a : List ℕ) (k : ℕ) (w : List ℕ) where
  abbrev both : List ℕ
  both = take k a ++ (w ++ drop (k + length w) a)

  front : take (k + length w) both ≡ take k a ++ w
  front = by_length (dec_le k (length a))
    where
      by_length : Dec (k ≤ length a) → take (k + length w) both ≡ take k a ++ w
      by_length (yes h) = front_with (take k a) w _ _ (omega (arith, length-take-le k a h))
      by_length (no h) =
          let none : drop (k + length w) a ≡ [] = drop_of_length-le a (omega arith) in
          let all : take k a ≡ a = take_all k a (omega arith) in
          rw (none, all, append-nil) (take_all (k + length w) (a ++ w) (omega (arith, length-append a w)))

  behind : (j : ℕ) → drop (k + length w + j) both ≡ drop (k + length w + j) a
  behind j = by_length (dec_le k (length a))
    where
      by_length : Dec (k ≤ length a) → drop (k + length w + j) both ≡ drop (k + length w + j) a
      by_length (yes h) =
          behind_both (take k a) w _ _ j (omega (arith, length-take-le k a h)) ∙ drop-drop j (k + length w) a
      by_length (no h) =
          let none : drop (k + length w) a ≡ [] = drop_of_length-le a (omega arith) in
          let all : take k a ≡ a = take_all k a (omega arith) in
          rw (none, all, append-nil)
          (drop_of_length-le (a ++ w) (omega (arith, length-append a w)) ∙ sym (drop_of_length-le a (omega arith)))

-- words, then more words behind them
appended_more : (a : List ℕ) (k : ℕ) (w b w' c : List ℕ)
    → Appended a k w b → Appended b (k + length w) w' c → Appended a k (w ++ w') c
appended_more a k w b w' c e f =
    let long : k + length w + length w' ≡ k + length (w ++ w') = omega (arith, length-append w w') in
    f
    ∙ ap (λ (l : List ℕ). take (k + length w) l ++ (w' ++ drop (k + length w + length w') l)) e
    ∙ (λ i. front a k w i ++ (w' ++ behind a k w (length w') i))
    ∙ append_assoc (take k a) w _
    ∙ ap (λ (l : List ℕ). take k a ++ l) (sym (append_assoc w w' _) ∙ ap (λ (n : ℕ). (w ++ w') ++ drop n a) long)

nothing_more : (a : List ℕ) (k : ℕ) (w : List ℕ) → w ≡ [] → Appended a k w a
nothing_more a k w e = rw (e, add-zero) (sym (take-append-drop k a))

no_words : (r : Receiver) → list r silence ≡ []
no_words (miner one) = refl
no_words (miner two) = refl
no_words (miner three) = refl
no_words controller = refl

-- ---- a command, whose verdict is v

module _ (n : ℕ) (c : Command) (p : Place) (l : Lent) (b : Tapes) where
  sizes-kept : (v : Verdict) → sizes ((step_protocol n v c p).result l b) ≡ sizes l
  sizes-kept (Accepted x) = sizes-left n c p l x b
  sizes-kept (Refused q) = refl

  kinds-left : (v : Verdict) → ((step_protocol n v c p).result l b).kinds ≡ kinds_after n v p l.kinds
  kinds-left (Accepted x) = refl
  kinds-left (Refused q) = refl

  -- the place moves on by the words that each list receives
  due-after : (v : Verdict) (r : Receiver)
      → count_for r (place_after n v p).received ≡ count_for r p.received + length (list r ((step_protocol n v c p).received l b))
  due-after (Accepted x) r =
      due-moved r p (row n x)
      ∙ ap (λ (j : ℕ). count_for r p.received + j) (sym (((lawful x).counted n c.b).long (takes n c p l x) b r))
  due-after (Refused q) r =
      sym (ap (λ (w : List ℕ). count_for r p.received + length w) (no_words r) ∙ add-zero (count_for r p.received))

  command_appended : (v : Verdict) → verdict n c p (sizes l) l.kinds ≡ v → (r : Receiver)
      → let f = step_protocol n v c p in
      Appended (list r l.received) (count_for r p.received) (list r (f.received l b)) (list r (f.result l b).received)
  command_appended (Accepted x) e r = appended n c p l x (all_passed n x c p (sizes l) l.kinds e) b r
  command_appended (Refused q) e r = nothing_more (list r l.received) (count_for r p.received) _ (no_words r)

-- ---- a list of commands

pub commands_appended : (n : ℕ) (cs : List Command) (p : Place) (z : Sizes) (k : List ℕ) (l : Lent) (b : Tapes)
    → sizes l ≡ z → l.kinds ≡ k → (r : Receiver)
    → let f = run_protocol n cs p z k in
    Appended (list r l.received) (count_for r p.received) (list r (f.received l b)) (list r (f.result l b).received)
unfolding run_protocol
commands_appended n [] p z k l b e f r = nothing_more (list r l.received) (count_for r p.received) _ (no_words r)
commands_appended n (c ∷ cs) p z k l b e f r =
    let v = verdict n c p z k in
    let q = place_after n v p in
    let j = kinds_after n v p k in
    let first = step_protocol n v c p in
    let others = run_protocol n cs q z j in
    let b₁ = cut first.draws b in
    let b₂ = rest first.draws b in
    let l₁ = first.result l b₁ in
    let before = list r l.received in
    let between = list r l₁.received in
    let now = list r (others.result l₁ b₂).received in
    let w₁ = list r (first.received l b₁) in
    let w₂ = list r (others.received l₁ b₂) in
    let at_first = command_appended n c p l b₁ v (λ i. verdict n c p (e i) (f i)) r in
    let same-kinds = kinds-left n c p l b₁ v ∙ ap (kinds_after n v p) f in
    let later : Appended between (count_for r q.received) w₂ now =
    commands_appended n cs q z j l₁ b₂ (sizes-kept n c p l b₁ v ∙ e) same-kinds r in
    subst₂ (Appended before (count_for r p.received))
    (sym (ap (list r) (then_received first others l b) ∙ list_followed r (first.received l b₁) (others.received l₁ b₂)))
    (sym (ap (λ (m : Lent). list r m.received) (then_result first others l b)))
    (appended_more before (count_for r p.received) w₁ between w₂ now at_first
    (subst (λ (m : ℕ). Appended between m w₂ now) (due-after n c p l b₁ v r) later))
