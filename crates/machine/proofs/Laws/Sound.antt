-- Refusal 4: if it does not apply before a command, it does not after; nor at the empty place record with lists of one
-- length.
use Prim.Native.Nat.{ℕ, zero, suc, ◌+◌, ◌≤◌, ◌<◌}
use mathlib.Core.Path.{◌≡◌, refl, sym, ap, ◌∙◌, subst}
use mathlib.Core.Logic.{◌⊎◌, inl, inr}
use mathlib.Core.Bool.{true}
use mathlib.Core.List.{List, [], ◌∷◌}
use native.Mathlib.Nat.{eq-or-lt_of_le}
use native.Mathlib.Omega.{arith}
use lib.ListN.{length, set}
use Rattle.protocols.specs.declared.place.Place.{Place}
use Rattle.protocols.specs.declared.place.Party.TheVariants.{Provider, One, Two, Three}
use Rattle.protocols.specs.Shares.{Miner, one, two, three}
use Rattle.protocols.specs.Place.{count, miner, controller}
use Rattle.protocols.specs.Counts.{count_for}
use Rattle.protocols.proofs.Laws.Counts.{due-list_lengths}
use Rattle.machine.specs.declared.code.Command.{Command}
use Rattle.machine.specs.Table.{Code, kind_number, row}
use Rattle.machine.specs.declared.kind.Kind.{Kind}
use Rattle.machine.specs.declared.kind.Kind.TheVariants.{RingValue, BitWord}
use Rattle.machine.specs.declared.lent.Sizes.{Sizes}
use Rattle.machine.specs.Lent.{Lent, sizes, table, entry, IsFilled}
use Rattle.machine.specs.Verdict.{Verdict, Accepted, Refused, verdict, is_sound}
use Rattle.machine.specs.Command.{with_entry, command}
use Rattle.machine.specs.Run.{run, empty_place}
use Rattle.machine.specs.Refusals.{Counter, handles, inputs, drawn, received, counter_value, list_length, Applies, lengths_differ, place_beyond, no_kind}
use Rattle.machine.proofs.Laws.Tests.{not_where, holds_where, NoKind}
use Rattle.protocols.proofs.Laws.Deliveries.{both}
use Rattle.machine.proofs.Laws.Accepted.{all_passed, Room, has_room}
use Rattle.machine.proofs.Laws.Refusals.{bounds, test_4}
use Rattle.machine.proofs.Laws.Judge.{same-lengths}
use Rattle.machine.proofs.Laws.Entries.{entry-set_old, entry-set_new, due-moved}
use Rattle.machine.proofs.Laws.Steps.{count-lengths}
use Rattle.machine.proofs.Laws.Blind.Public.{place_after, kinds_after, command_public}
use Rattle.machine.proofs.Laws.Lawful.{lawful}

-- ---- lengths, from the sizes

abbrev table_size : Miner → Sizes → ℕ
table_size one z = z.one
table_size two z = z.two
table_size three z = z.three

table_size_lem : (i : Miner) (l : Lent) → length (table i l.tables) ≡ table_size i (sizes l)
table_size_lem one l = refl
table_size_lem two l = refl
table_size_lem three l = refl

abbrev size : Counter → Sizes → ℕ
size handles z = z.one
size inputs z = z.inputs
size (drawn i) z = count i z.tapes
size (received r) z = count_for r z.received

list_size : (k : Counter) (l : Lent) → list_length k l ≡ size k (sizes l)
list_size handles l = refl
list_size inputs l = refl
list_size (drawn i) l = sym (count-lengths i l.tapes)
list_size (received r) l = sym (due-list_lengths r l.received)

-- ---- a new value has a kind

has_number : (k : Kind) → ¬ NoKind (kind_number k)
has_number RingValue h = h.0 refl
has_number BitWord h = h.1 refl

-- a handle that has no kind after a value of kind w is written had none before
had_none : (v : ℕ) (l : List ℕ) (k w h : ℕ) → v ≤ 1 → k + v ≤ length l → ¬ NoKind w → 1 ≤ h → h ≤ k + v → NoKind (entry (with_entry v l k w) h)
    → (h ≤ k) × NoKind (entry l h)
had_none zero l k w h i fits good a b e = (omega arith, e)
had_none (suc zero) l k w h i fits good a b e = by_place (eq-or-lt_of_le b)
  where
    by_place : (h ≡ k + 1) ⊎ (h < k + 1) → (h ≤ k) × NoKind (entry l h)
    by_place (inl s) =
        let new : h ≡ suc k = omega arith in
        absurd (good (subst NoKind (ap (entry (set l k w)) new ∙ entry-set_new l k w (omega arith)) e))
    by_place (inr s) = (omega arith, subst NoKind (entry-set_old l k w h a (omega arith)) e)
had_none (suc (suc v)) l k w h i fits good a b e = absurd (omega arith)

-- ---- after a command

-- if refusal 4 applies after the command, it applies before it
module _ (n : ℕ) (c : Command) (p : Place) (l : Lent) where
  abbrev decision : Verdict
  decision = verdict n c p (sizes l) l.kinds

  counted-moved : (x : Code) (k : Counter) → Room (row n x) p (sizes l) → counter_value k (place_after n (Accepted x) p) ≤ size k (sizes l)
  counted-moved x handles a = a.handles
  counted-moved x inputs a = a.inputs
  counted-moved x (drawn Provider) a = a.drawn Provider
  counted-moved x (drawn One) a = a.drawn One
  counted-moved x (drawn Two) a = a.drawn Two
  counted-moved x (drawn Three) a = a.drawn Three
  counted-moved x (received r) a = omega (arith, due-moved r p (row n x), a.received r)

  beyond_before : (v : Verdict) → decision ≡ v → (k : Counter) → size k (sizes l) < counter_value k (place_after n v p) → Applies n c p l 4
  beyond_before (Accepted x) e k h = absurd (omega (arith, counted-moved x k (has_room (all_passed n x c p (sizes l) l.kinds e))))
  beyond_before (Refused r) e k h = place_beyond k (omega (arith, list_size k l))

  kind-before : (v : Verdict) → decision ≡ v → (h : ℕ) → IsFilled (place_after n v p) h → NoKind (entry (kinds_after n v p l.kinds) h) → Applies n c p l 4
  kind-before (Accepted x) e h f g =
      let a = all_passed n x c p (sizes l) l.kinds e in
      let same = same-lengths l (both _ _ a.four).0 one in
      let t = had_none (row n x).values l.kinds p.handles (kind_number (row n x).kind) h ((lawful x).one_value n) (omega (arith, (has_room a).handles, same))
      (has_number (row n x).kind) f.0 f.1 g in
      no_kind h (f.0, t.0) t.1.0 t.1.1
  kind-before (Refused r) e h f g = no_kind h f g.0 g.1

  applied_before : (d : Command) → Applies n d (command n c p l).answer.place (command n c p l).lent 4 → Applies n c p l 4
  applied_before d (lengths_differ i h) =
      let o = command n c p l in
      let z = (command_public n c p l (sizes l) l.kinds refl refl).same-sizes in
      let e = table_size_lem i o.lent ∙ ap (table_size i) z ∙ sym (table_size_lem i l) in
      lengths_differ i (λ f. h (e ∙ f ∙ sym (ap (λ (y : Sizes). y.kinds) z)))
  applied_before d (place_beyond k h) =
      let o = command n c p l in
      let q = command_public n c p l (sizes l) l.kinds refl refl in
      beyond_before decision refl k
      (omega (arith, h, list_size k o.lent, ap (size k) q.same-sizes, ap (counter_value k) q.same_place))
  applied_before d (no_kind h f g i) =
      let q = command_public n c p l (sizes l) l.kinds refl refl in
      kind-before decision refl h (subst (λ (r : Place). IsFilled r h) q.same_place f)
      (subst (λ (k : List ℕ). NoKind (entry k h)) q.same-kinds (g, i))

pub stays_sound : (n : ℕ) (c d : Command) (p : Place) (l : Lent)
    → ¬ Applies n c p l 4 → ¬ Applies n d (command n c p l).answer.place (command n c p l).lent 4
stays_sound n c d p l none h = none (applied_before n c p l d h)

-- the same for its test
pub sound-after : (n : ℕ) (c : Command) (p : Place) (l : Lent) → is_sound p (sizes l) l.kinds ≡ true → let o = command n c p l in
    is_sound o.answer.place (sizes o.lent) o.lent.kinds ≡ true
sound-after n c p l e =
    let o = command n c p l in
    holds_where (test_4 n c o.answer.place o.lent) (stays_sound n c c p l (not_where (test_4 n c p l) e))

-- nor does it apply after a run
pub run-stays_sound : (n : ℕ) (cs : List Command) (p : Place) (l : Lent) → ((d : Command) → ¬ Applies n d p l 4)
    → (d : Command) → ¬ Applies n d (run n cs p l).place (run n cs p l).lent 4
unfolding run
run-stays_sound n [] p l none = none
run-stays_sound n (c ∷ cs) p l none =
    let o = command n c p l in run-stays_sound n cs o.answer.place o.lent (λ d. stays_sound n c d p l (none c))

-- if it does not apply, a number that applies is 5 or more
pub above_4 : (n : ℕ) (c : Command) (p : Place) (l : Lent) (r : ℕ) → ¬ Applies n c p l 4 → Applies n c p l r → 5 ≤ r
above_4 n c p l r none h =
    elim (eq-or-lt_of_le (bounds n c p l h).0) [ inl e ↦ absurd (none (subst (Applies n c p l) (sym e) h)) | inr g ↦ g ]

-- ---- at the empty place

none_counted : (k : Counter) → counter_value k empty_place ≡ 0
none_counted handles = refl
none_counted inputs = refl
none_counted (drawn Provider) = refl
none_counted (drawn One) = refl
none_counted (drawn Two) = refl
none_counted (drawn Three) = refl
none_counted (received (miner one)) = refl
none_counted (received (miner two)) = refl
none_counted (received (miner three)) = refl
none_counted (received controller) = refl

pub sound-at-empty : (n : ℕ) (c : Command) (l : Lent) → ((i : Miner) → length (table i l.tables) ≡ length l.kinds) → ¬ Applies n c empty_place l 4
sound-at-empty n c l same (lengths_differ i h) = h (same i)
sound-at-empty n c l same (place_beyond k h) = omega (arith, h, none_counted k)
sound-at-empty n c l same (no_kind h f g i) = omega (arith, f.0, f.1)
