-- A text in four parts, put one behind the other at the front of a buffer of zero bytes.
use Prim.Native.Nat.{ℕ, ◌+◌, ◌-◌, ◌≤◌}
use mathlib.Core.Path.{◌≡◌, sym, ap, ap₂, ◌∙◌, subst}
use mathlib.Core.List.{List, ◌++◌, append_assoc}
use native.Mathlib.Omega.{arith}
use borrow.Rule.Slice.PartMut.{put_mid}
use lib.ListN.{length, take, drop, replicate, length-append}
use lib.Seq.{sets, sets-eq}
use Rattle.std.proofs.lemmas.List.{drop-replicate, length-replicate}
use Rattle.std.proofs.Common.{drop-drop}
use Rattle.std.specs.Prelude.{Some, codes, decimal}
use Rattle.protocols.proofs.Laws.Deliveries.{begins_with}
use Rattle.protocols.proofs.Laws.Puts.{sets_behind}
use Rattle.machine.specs.declared.refusal.Refusal.{Refusal}
use Rattle.machine.specs.Refusal.{refusal_number, refusal_numbered}
use Rattle.machine.specs.Printed.{sentence, text_of, refusal_text}
use Rattle.machine.proofs.Laws.Texts.{refusal_numbers, refusal_texts}

-- a part copied over as many bytes of the buffer
pub put_over : (l s t : List ℕ) (at k : ℕ) → t ≡ s → k ≡ length s → at + length s ≤ length l → put_mid at k l t ≡ sets l at s
put_over l s t at k e n h = rw (e, n, drop-drop (length s) at l) (sym (sets-eq s l at h ∙ append_assoc (take at l) s (drop (at + length s) l)))

-- the buffer, and where the text ends
pub record IsPut (l s new : List ℕ) (at : ℕ) : Type 0 where
  pub bytes : new ≡ sets l 0 s
  pub end : at ≡ length s

pub put_first : {l s new : List ℕ} {at : ℕ} → new ≡ sets l 0 s → at ≡ 0 + length s → IsPut l s new at
put_first e n = record { bytes = e; end = omega (arith, n) }

pub put_next : {l s old new : List ℕ} {at end : ℕ} (t : List ℕ) → IsPut l s old at → new ≡ sets old at t → end ≡ at + length t → IsPut l (s ++ t) new end
put_next {l} {s} {old} {new} {at} {end} t h e n = record {
  bytes = e ∙ rw h.bytes (sets_behind l s t at h.end);
  end = omega (arith, n, h.end, length-append s t);
}

-- ---- the four parts of a refusal's text

pub in_parts : (k : ℕ) (r : Refusal) {d t new : List ℕ} {at : ℕ} → Some r ≡ refusal_numbered k → d ≡ decimal k → t ≡ sentence r
    → IsPut (replicate 128 0) (((codes "refused " ++ d) ++ codes ": ") ++ t) new at → IsPut (replicate 128 0) (refusal_text k) new at
in_parts k r {d} {new = new} {at} named ed et h =
    let d_is : d ≡ decimal (refusal_number r) = ed ∙ ap decimal (sym ((refusal_numbers k r).0 (sym named))) in
    subst (λ (s : List ℕ). IsPut (replicate 128 0) s new at)
    (ap₂ (λ (x y : List ℕ). ((codes "refused " ++ x) ++ codes ": ") ++ y) d_is et ∙ ap text_of named)
    h

pub then_zeros : (k : ℕ) {new : List ℕ} {at : ℕ} → IsPut (replicate 128 0) (refusal_text k) new at
    → new ≡ refusal_text k ++ replicate (128 - length (refusal_text k)) 0
then_zeros k h =
    let s = refusal_text k in
    h.bytes
    ∙ begins_with (replicate 128 0) s (omega (arith, refusal_texts.at_most_127 k, length-replicate {A = ℕ} 128 0))
    ∙ ap (λ (l : List ℕ). s ++ l) (drop-replicate (length s) 128 0)
