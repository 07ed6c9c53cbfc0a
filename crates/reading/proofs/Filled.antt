-- The bytes that a read puts behind the filled front of a buffer continue the bytes read before.
use Rattle.std.specs.Prelude.{Option}
use Rattle.std.proofs.Common.{ℕ, ◌+◌, ◌≡◌, ◌≤◌, List, ◌++◌, length, take, ap, ◌∙◌, length-take-le}
use Rattle.std.proofs.Math.Seq.{take-append-add}
use Rattle.std.proofs.lemmas.List.{take-append-le}
use Rattle.std.specs.Io.KnownBytes.{Consumes}
use Rattle.std.proofs.KnownBytes.{Consumes-trans}
use borrow.Rule.Slice.PartMut.{put_mid}

take_filled : (f n : ℕ) (front part rest : List ℕ) → length front ≡ f → n ≤ length part → take (f + n) (front ++ (part ++ rest)) ≡ front ++ take n part
take_filled f n front part rest long fits =
    rw (← long) (take-append-add front (part ++ rest) n ∙ ap (λ l. front ++ l) (take-append-le n part rest fits))

pub consumes_filled : (a b c : Option (List ℕ)) (f k n : ℕ) (xs ys : List ℕ) → f ≤ length xs → n ≤ length ys → Consumes a b (take f xs) → Consumes b c (take n ys) → Consumes a c (take (f + n) (put_mid f k xs ys))
consumes_filled a b c f k n xs ys within fits before read =
    rw (take_filled f n (take f xs) ys _ (length-take-le f xs within) fits) (Consumes-trans a b c (take f xs) (take n ys) before read)
