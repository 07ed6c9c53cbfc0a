-- Texts written into a buffer, one behind the other.
use Prim.Native.Nat.{ℕ, ◌+◌, ◌^◌, ◌≤◌, ◌<◌}
use mathlib.Core.Path.{◌≡◌, refl, sym, ap, ◌∙◌}
use mathlib.Core.List.{List, [], ◌∷◌, ◌++◌, append-nil, append_assoc}
use native.Mathlib.Omega.{arith}
use borrow.Rule.Slice.PartMut.{put_mid}
use lib.ListN.{length, take, drop, length-append}
use lib.Chars.{codes}
use lib.Seq.{sets, sets-eq, length-sets, take_at}
use Rattle.std.proofs.lemmas.List.{drop_at}
use Rattle.protocols.proofs.Laws.Deliveries.{begins_with}
use Rattle.std.proofs.Common.{drop-drop}
use Rattle.protocols.proofs.Laws.Puts.{sets-append}
use Rattle.session.specs.declared.text.Text.{Text}
use Rattle.std.specs.Fmt.{decimal as printed}
use Rattle.session.specs.Text.{spaced_numbers}
use Rattle.session.specs.Private.Writing.{Adds, IsFront}
use Rattle.session.proofs.Laws.Text.{spaced_numbers-one}

-- a text that is copied over a part of the buffer
put_over : (l s t : List ℕ) (at k : ℕ) → t ≡ s → k ≡ length s → at + length s ≤ length l → put_mid at k l t ≡ sets l at s
put_over l s t at k e n h = rw (e, n, drop-drop (length s) at l) (sym (sets-eq s l at h ∙ append_assoc (take at l) s (drop (at + length s) l)))

pub adds_copied : {a b : Text} {t : List ℕ} {k : ℕ} (s : List ℕ) → b.out.ghost_name ≡ a.out.ghost_name → b.out.now ≡ put_mid a.len k a.out.now t
    → b.len ≡ a.len + length s → t ≡ s → k ≡ length s → a.len + length s ≤ length a.out.now → Adds a s b
adds_copied {a} {b} {t} {k} s g e n et ek h =
    let put = e ∙ put_over a.out.now s t a.len k et ek h in
    let same : length b.out.now ≡ length a.out.now = ap length put ∙ length-sets a.out.now a.len s in
    record { same_reference = g; bytes = put; len = n; same_room = same; fits = omega arith }

pub adds_then : {a b c : Text} (s t : List ℕ) → Adds a s b → Adds b t c → Adds a (s ++ t) c
adds_then {a} s t h k =
    record {
      same_reference = k.same_reference ∙ h.same_reference;
      bytes = k.bytes ∙ rw (h.bytes, h.len) (sets-append a.out.now s t a.len);
      len = omega (arith, length-append s t, h.len, k.len);
      same_room = k.same_room ∙ h.same_room;
      fits = k.fits;
    }

pub adds_nothing : {a : Text} → a.len ≤ length a.out.now → Adds a [] a
adds_nothing h = record { same_reference = refl; bytes = refl; len = omega arith; same_room = refl; fits = h }

-- a space, then what the library prints of a number
pub adds_number : {a b c : Text} (n : ℕ) (t : List ℕ) → n < 2 ^ 64 → t ≡ printed n → Adds a (codes " ") b → Adds b t c → Adds a (spaced_numbers (n ∷ [])) c
adds_number n t h e space rest = rw (spaced_numbers-one n h, ← e) (adds_then (codes " ") t space rest)

-- ---- a text of which a part is written

pub record PartAdded (old : Text) (whole left : List ℕ) (most : ℕ) (new : Text) : Type 0 where
  pub done : List ℕ
  pub added : Adds old done new
  pub rest : done ++ left ≡ whole
  pub short : length done ≤ most

pub part_more : {a b c : Text} {whole left : List ℕ} {n : ℕ} (s rest : List ℕ) (m : ℕ) → PartAdded a whole left n b → left ≡ s ++ rest → length s + n ≤ m
    → Adds b s c → PartAdded a whole rest m c
part_more s rest m h e k d =
    record {
      done = h.done ++ s;
      added = adds_then h.done s h.added d;
      rest = append_assoc h.done s rest ∙ rw (← e) h.rest;
      short = omega (arith, length-append h.done s, h.short);
    }

pub part_all : {a b : Text} {whole left : List ℕ} {n : ℕ} → PartAdded a whole left n b → left ≡ [] → Adds a whole b
part_all h e = rw (← h.rest, e, append-nil) h.added

pub part_same : {a b : Text} {whole left : List ℕ} {n : ℕ} {rest : List ℕ} (m : ℕ) → PartAdded a whole left n b → left ≡ rest → n ≤ m → PartAdded a whole rest m b
part_same m h e k = record { done = h.done; added = h.added; rest = rw (← e) h.rest; short = omega (arith, h.short) }

-- ---- the text of a whole buffer

pub is_front : {a b : Text} {l s : List ℕ} {r : ℕ} → a.out.now ≡ l → a.len ≡ 0 → Adds a s b → r ≡ b.len → IsFront l s b.out.now r
is_front {a} {b} {l} {s} {r} el e0 h er =
    let n : r ≡ length s = omega (arith, h.len, e0, er) in
    let new : b.out.now ≡ s ++ drop (length s) l = h.bytes ∙ rw (el, e0) (begins_with l s (omega (arith, h.fits, h.same_room, ap length el, er, n))) in
    record {
      text = rw (new, n) (take_at s (drop (length s) l) (length s) refl);
      rest = rw (new, n) (drop_at s (drop (length s) l) (length s) refl);
      within = omega (arith, h.fits, er);
    }
