-- Text that grows in a lent buffer.
use Rattle.std.specs.Prelude.{ℕ, ◌≡◌, ◌+◌, ◌≤◌, List, length, take, drop}
use Rattle.std.proofs.lemmas.List.Edits.{sets}
use Rattle.session.specs.declared.text.Text.{Text}

-- the buffer has room for n more bytes
abbrev pub HasRoom : Text → ℕ → Type 0
HasRoom t n = t.len + n ≤ length t.out.now

-- s is added behind the text, in the same buffer
pub record Adds (old : Text) (s : List ℕ) (new : Text) : Type 0 where
  pub same_reference : new.out.ghost_name ≡ old.out.ghost_name
  pub bytes : new.out.now ≡ sets old.out.now old.len s
  pub len : new.len ≡ old.len + length s
  pub same_room : length new.out.now ≡ length old.out.now
  pub fits : new.len ≤ length new.out.now

-- the n bytes of the text s are at the front of the buffer, and the rest of the buffer is as it was
pub record IsFront (old s new : List ℕ) (n : ℕ) : Type 0 where
  pub text : take n new ≡ s
  pub rest : drop n new ≡ drop n old
  pub within : n ≤ length new
