-- A run as one protocol on the lent lists other than tapes: it draws what its commands draw, and then all that is left.
use Prim.Native.Nat.{ℕ, ◌+◌, ◌-◌, ◌≤◌}
use mathlib.Core.Path.{◌≡◌, refl, sym, ap, ap₂, ◌∙◌}
use mathlib.Core.List.{List, [], ◌∷◌, map}
use native.Mathlib.Nat.{add-zero, zero-add}
use native.Mathlib.Omega.{arith}
use Rattle.protocols.specs.declared.place.Party.TheVariants.{Provider, One, Two, Three}
use Rattle.protocols.specs.declared.place.Drawn.{Drawn}
use Rattle.protocols.specs.declared.place.Place.{Place}
use Rattle.protocols.specs.Place.{Tapes, counts, plus, cut, rest, silence}
use Rattle.protocols.specs.Protocol.{Protocol, locally, ◌then◌}
use Rattle.protocols.proofs.Laws.Blocks.{block-cut, rest-rest}
use Rattle.protocols.proofs.Laws.Blind.Compose.{then_draws, then_result}
use Rattle.machine.specs.declared.code.Command.{Command}
use Rattle.machine.specs.declared.lent.Sizes.{Sizes}
use Rattle.machine.specs.Table.{row}
use Rattle.machine.specs.Lent.{Lent, lent_lists, sizes}
use Rattle.machine.specs.Verdict.{Verdict, Accepted, Refused, verdict}
use Rattle.machine.specs.Steps.{protocol}
use Rattle.machine.specs.Command.{accepted_outcome, verdict_outcome, command}
use Rattle.machine.specs.Run.{RunResult, run, Reply, reply}
use Rattle.machine.proofs.Laws.Accepted.{all_passed, has_room}
use Rattle.machine.proofs.Laws.Agree.{leaves, sends}
use Rattle.machine.proofs.Laws.Blind.Public.{place_after, kinds_after, place_at_end, kinds_at_end, replies_to, command_public}
use Rattle.machine.proofs.Laws.Lawful.{lawful}

-- ---- the protocol

abbrev pub step_protocol : ℕ → Verdict → Command → Place → Protocol Lent Lent
step_protocol n (Accepted x) c p = record { draws = (protocol n x c.b).draws; result = λ l. leaves n c p l x; received = λ l. sends n c p l x }
step_protocol n (Refused r) c p = locally (λ l. l)

abbrev pub left : Drawn → Drawn → Drawn
left d k = counts (d.provider - k.provider) (d.one - k.one) (d.two - k.two) (d.three - k.three)

abbrev pub draw_rest : Drawn → Protocol Lent Lent
draw_rest d = record { draws = d; result = λ l b. l; received = λ l b. silence }

unfoldable pub run_protocol : ℕ → List Command → Place → Sizes → List ℕ → Protocol Lent Lent
run_protocol n [] p z k = draw_rest (left z.tapes p.drawn)
run_protocol n (c ∷ cs) p z k = let v = verdict n c p z k in step_protocol n v c p then run_protocol n cs (place_after n v p) z (kinds_after n v p k)

-- ---- it draws the whole tapes

-- of d words, k are drawn and then j
left_after : (d k j : ℕ) → k + j ≤ d → j + (d - (k + j)) ≡ d - k
left_after d k j h = omega arith

step_left : (n : ℕ) (c : Command) (p : Place) (z : Sizes) (k : List ℕ) (v : Verdict) → verdict n c p z k ≡ v
    → plus (step_protocol n v c p).draws (left z.tapes (place_after n v p).drawn) ≡ left z.tapes p.drawn
step_left n c p z k (Accepted x) e =
    let room = (has_room (all_passed n x c p z k e)).drawn in
    let d = z.tapes in
    let q = p.drawn in
    let j = (row n x).drawn in
    ap (λ (y : Drawn). plus y (left d (plus q j))) ((lawful x).counted n c.b).drawn
    ∙ (λ i. counts (left_after d.provider q.provider j.provider (room Provider) i) (left_after d.one q.one j.one (room One) i)
    (left_after d.two q.two j.two (room Two) i) (left_after d.three q.three j.three (room Three) i))
step_left n c p z k (Refused r) e =
    λ i. counts (zero-add (z.tapes.provider - p.drawn.provider) i) (zero-add (z.tapes.one - p.drawn.one) i)
    (zero-add (z.tapes.two - p.drawn.two) i) (zero-add (z.tapes.three - p.drawn.three) i)

pub run-draws : (n : ℕ) (cs : List Command) (p : Place) (z : Sizes) (k : List ℕ) → (run_protocol n cs p z k).draws ≡ left z.tapes p.drawn
unfolding run_protocol
run-draws n [] p z k = refl
run-draws n (c ∷ cs) p z k =
    let v = verdict n c p z k in
    let q = place_after n v p in
    let j = kinds_after n v p k in
    then_draws (step_protocol n v c p) (run_protocol n cs q z j) ∙ ap (plus (step_protocol n v c p).draws) (run-draws n cs q z j) ∙ step_left n c p z k v refl

-- ---- the protocol does what the run does

abbrev pub with_tapes : Tapes → Lent → Lent
with_tapes t l = lent_lists l.tables l.kinds l.inputs t l.received

-- one command, on the tapes t
module _ (n : ℕ) (c : Command) (p : Place) (l : Lent) (t : Tapes) where
  -- the words that it draws, and the lent lists after it
  abbrev next : Verdict → Tapes
  next v = cut (step_protocol n v c p).draws (rest p.drawn t)

  abbrev held : Verdict → Lent
  held v = (step_protocol n v c p).result l (next v)

  leaves_by : (v : Verdict) → (verdict_outcome n v c p (with_tapes t l)).lent ≡ with_tapes t (held v)
  unfolding accepted_outcome
  leaves_by (Accepted x) = ap (λ (b : Tapes). with_tapes t (leaves n c p l x b)) (block-cut (protocol n x c.b).draws p t)
  leaves_by (Refused r) = refl

  command-leaves : (z : Sizes) (k : List ℕ) → sizes (with_tapes t l) ≡ z → l.kinds ≡ k
      → (command n c p (with_tapes t l)).lent ≡ with_tapes t (held (verdict n c p z k))
  unfolding command
  command-leaves z k e f = (λ i. (verdict_outcome n (verdict n c p (e i) (f i)) c p (with_tapes t l)).lent) ∙ leaves_by (verdict n c p z k)

  drawn-after : (v : Verdict) → plus p.drawn (step_protocol n v c p).draws ≡ (place_after n v p).drawn
  drawn-after (Accepted x) = ap (plus p.drawn) ((lawful x).counted n c.b).drawn
  drawn-after (Refused r) =
      λ i. counts (add-zero p.drawn.provider i) (add-zero p.drawn.one i) (add-zero p.drawn.two i) (add-zero p.drawn.three i)

  rest-after : (v : Verdict) → rest (step_protocol n v c p).draws (rest p.drawn t) ≡ rest (place_after n v p).drawn t
  rest-after v = rest-rest (step_protocol n v c p).draws p.drawn t ∙ ap (λ (d : Drawn). rest d t) (drawn-after v)

pub record Follows (n : ℕ) (cs : List Command) (p : Place) (z : Sizes) (k : List ℕ) (l : Lent) (t : Tapes) (r : RunResult) : Type 0 where
  pub leaves-lent : r.lent ≡ with_tapes t ((run_protocol n cs p z k).result l (rest p.drawn t))
  pub ends : r.place ≡ place_at_end n cs p z k
  pub kinds : r.lent.kinds ≡ kinds_at_end n cs p z k
  pub answers : map reply r.answers ≡ replies_to n cs p z k

pub run_follows : (n : ℕ) (cs : List Command) (p : Place) (z : Sizes) (k : List ℕ) (l : Lent) (t : Tapes)
    → sizes (with_tapes t l) ≡ z → l.kinds ≡ k → Follows n cs p z k l t (run n cs p (with_tapes t l))
unfolding run run_protocol place_at_end kinds_at_end replies_to
run_follows n [] p z k l t e f = record { leaves-lent = refl; ends = refl; kinds = f; answers = refl }
run_follows n (c ∷ cs) p z k l t e f =
    let v = verdict n c p z k in
    let q = place_after n v p in
    let j = kinds_after n v p k in
    let o = command n c p (with_tapes t l) in
    let u = command_public n c p (with_tapes t l) z k e f in
    let l₁ = held n c p l t v in
    let left : o.lent ≡ with_tapes t l₁ = command-leaves n c p l t z k e f in
    let goes : run n cs o.answer.place o.lent ≡ run n cs q (with_tapes t l₁) = ap₂ (run n cs) u.same_place left in
    let rest-follows = run_follows n cs q z j l₁ t (ap sizes (sym left) ∙ u.same-sizes) (ap (λ (m : Lent). m.kinds) (sym left) ∙ u.same-kinds) in
    record {
      leaves-lent = ap (λ (r : RunResult). r.lent) goes
          ∙ rest-follows.leaves-lent
          ∙ ap (λ (b : Tapes). with_tapes t ((run_protocol n cs q z j).result l₁ b)) (sym (rest-after n c p l t v))
          ∙ ap (with_tapes t) (sym (then_result (step_protocol n v c p) (run_protocol n cs q z j) l (rest p.drawn t)));
      ends = ap (λ (r : RunResult). r.place) goes ∙ rest-follows.ends;
      kinds = ap (λ (r : RunResult). r.lent.kinds) goes ∙ rest-follows.kinds;
      answers = ap₂ (λ (a : Reply) (r : List Reply). a ∷ r) (λ i. record { number = u.same_number i; place = u.same_place i })
          (ap (λ (r : RunResult). map reply r.answers) goes ∙ rest-follows.answers);
    }
