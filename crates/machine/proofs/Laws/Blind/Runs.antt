-- Blindness: runs on two input lists give an observer equal records; Specification: Blindness.
use Prim.Native.Nat.{ℕ, zero, suc, ◌<◌}
use mathlib.Core.Path.{◌≡◌, refl, sym, ap, ap₂, subst, ◌∙◌}
use mathlib.Core.List.{List, [], map}
use native.Mathlib.Nat.{sub-zero}
use lib.ListN.{length, take, replicate, length-replicate}
use lib.Pow.{pow_pos}
use Rattle.protocols.specs.declared.place.Party.{Party}
use Rattle.protocols.specs.declared.place.Party.TheVariants.{Provider, One, Two, Three}
use Rattle.protocols.specs.declared.place.Drawn.{Drawn}
use Rattle.protocols.specs.Word.{width, modulus}
use Rattle.protocols.specs.Shares.{Miner, one, two, three}
use Rattle.protocols.specs.Place.{Tapes, tapes, tape, owner, counts, Lists, Receiver, miner, controller, list}
use Rattle.protocols.specs.Contents.{AllBelow, Contents}
use Rattle.protocols.specs.Counts.{list_lengths, count_for}
use Rattle.protocols.specs.Blind.{Observer, watching, controlling, Sees, Holds}
use Rattle.machine.specs.declared.code.Command.{Command}
use Rattle.machine.specs.declared.answer.Answer.{Answer}
use Rattle.machine.specs.declared.lent.Sizes.{Sizes}
use Rattle.machine.specs.Lent.{Tables, Lent, lent_lists, table, tape_lengths, lengths, LentAreWords}
use Rattle.machine.specs.Registers.{Registers, registers, opened_registers}
use Rattle.machine.specs.Start.{up_to, starting_registers}
use Rattle.machine.specs.Run.{RunResult, run, empty_place, reply}
use Rattle.machine.specs.Records.{miner_record, controller_record}
use Rattle.machine.specs.Pairing.{Pairing}
use Rattle.machine.specs.Claims.{RunBlindness}
use Rattle.machine.proofs.Laws.RunAgree.{run-agrees}
use Rattle.machine.proofs.Laws.OpenedWords.{spread, told-spread}
use Rattle.machine.proofs.Laws.Blind.RunProtocol.{run_protocol, run-draws, Follows, run_follows}
use Rattle.machine.proofs.Laws.Blind.Run.{Held, Seen, Alike, run-blind}
use Rattle.machine.proofs.Laws.Blind.Pairs.{SameOwn, pairs, weaken, fixed}

-- ---- tapes of zeros: the lent lists without the contents of the tapes

abbrev zeros : Drawn → Tapes
zeros d = tapes (replicate d.provider 0) (replicate d.one 0) (replicate d.two 0) (replicate d.three 0)

zeros_below : (m k : ℕ) → 0 < m → AllBelow m (replicate k 0)
zeros_below m zero h = tt
zeros_below m (suc k) h = (h, zeros_below m k h)

zeros_long : (d : Drawn) → tape_lengths (zeros d) ≡ d
zeros_long d = λ i. counts (long d.provider i) (long d.one i) (long d.two i) (long d.three i)
  where
    long : (k : ℕ) → length (replicate {A = ℕ} k 0) ≡ k
    long k = length-replicate {A = ℕ} k 0

pub contents_long : (m : ℕ) (d : Drawn) (t : Tapes) → Contents m d t → tape_lengths t ≡ d
contents_long m d t h = λ i. counts ((h Provider).long i) ((h One).long i) ((h Two).long i) ((h Three).long i)

-- ---- equal records

miner-same : (i : Miner) (r r' : RunResult) → tape (owner i) r.lent.tapes ≡ tape (owner i) r'.lent.tapes → r.place ≡ r'.place
    → table i r.lent.tables ≡ table i r'.lent.tables → list (miner i) r.lent.received ≡ list (miner i) r'.lent.received
    → map reply r.answers ≡ map reply r'.answers → miner_record i r ≡ miner_record i r'
miner-same i r r' own place shares words answers = λ j. record {
  tape = own j;
  shares = take (place j).handles (shares j);
  received = take (count_for (miner i) (place j).received) (words j);
  replies = answers j;
}

controller-same : (r r' : RunResult) → r.place ≡ r'.place → list controller r.lent.received ≡ list controller r'.lent.received
    → map (λ (a : Answer). a.opened) r.answers ≡ map (λ (a : Answer). a.opened) r'.answers
    → map reply r.answers ≡ map reply r'.answers → controller_record r ≡ controller_record r'
controller-same r r' place words opened answers = λ j. record {
  received = take (place j).received.controller (words j);
  opened = opened j;
  replies = answers j;
}

-- if l is m and l' is m', f l is f l' if f m is f m'
read : {A : Type 0} {l l' m m' : Lent} (f : Lent → A) → l ≡ m → l' ≡ m' → f m ≡ f m' → f l ≡ f l'
read f e e' h = ap f e ∙ h ∙ ap f (sym e')

holds_own : (o : Observer) (i : Miner) → Sees o (miner i) → Holds o (owner i)
holds_own o one q = q
holds_own o two q = q
holds_own o three q = q

-- ---- the lent lists at the empty place record

pub start-empty : (n : ℕ) (l : Lent) → starting_registers n empty_place l ≡ registers [] empty_place
unfolding starting_registers up_to
start-empty n l = refl

module _ (n : ℕ) (s : Tables) (k : List ℕ) (r : Lists) (d : Drawn) where
  abbrev pub base : List ℕ → Lent
  base i = lent_lists s k i (zeros d) r

  abbrev sized : List ℕ → Sizes
  sized i = lengths s k i d r

  pub words_from_empty : (i : List ℕ) (t : Tapes) → AllBelow (modulus n) i → ((p : Party) → AllBelow (modulus n) (tape p t))
      → LentAreWords (modulus n) empty_place (lent_lists s k i t r)
  words_from_empty i t b c = record { shares = none; inputs = b; tapes = c; received = nothing }
    where
      none : (j : Miner) → AllBelow (modulus n) (take 0 (table j s))
      none j = tt

      nothing : (q : Receiver) → AllBelow (modulus n) (take (count_for q empty_place.received) (list q r))
      nothing (miner one) = tt
      nothing (miner two) = tt
      nothing (miner three) = tt
      nothing controller = tt

  pub held : (i : List ℕ) (z : Sizes) → sized i ≡ z → AllBelow (modulus n) i → Held n empty_place z k (base i)
  held i z e b = record {
    words = words_from_empty i (zeros d) b below;
    sized = ap (λ (y : Drawn). lengths s k i y r) (zeros_long d) ∙ e;
    kinds = refl;
  }
    where
      below : (p : Party) → AllBelow (modulus n) (tape p (zeros d))
      below Provider = zeros_below (modulus n) d.provider (pow_pos (width n))
      below One = zeros_below (modulus n) d.one (pow_pos (width n))
      below Two = zeros_below (modulus n) d.two (pow_pos (width n))
      below Three = zeros_below (modulus n) d.three (pow_pos (width n))

  pub same_size : (x y : List ℕ) → length x ≡ length y → sized y ≡ sized x
  same_size x y long = ap (λ (j : ℕ). record { one = length s.one; two = length s.two; three = length s.three; kinds = length k; inputs = j; tapes = d; received = list_lengths r }) (sym long)

-- ---- two runs

module _ (n : ℕ) (cs : List Command) (s : Tables) (k : List ℕ) (r : Lists) (d : Drawn) where
  abbrev size : List ℕ → Sizes
  size i = lengths s k i d r

  abbrev lent_with : List ℕ → Lent
  lent_with i = base n s k r d i

  abbrev ran : List ℕ → Tapes → RunResult
  ran i t = run n cs empty_place (lent_lists s k i t r)

  abbrev leading : List ℕ → List ℕ
  leading i = opened_registers n cs (size i) i (registers [] empty_place)

  draws_all : (z : Sizes) → z.tapes ≡ d → (run_protocol n cs empty_place z k).draws ≡ d
  draws_all z e =
      run-draws n cs empty_place z k
      ∙ (λ i. counts (sub-zero z.tapes.provider i) (sub-zero z.tapes.one i) (sub-zero z.tapes.two i) (sub-zero z.tapes.three i)) ∙ e

  follows : (i : List ℕ) (z : Sizes) → size i ≡ z → (t : Tapes) → Contents (modulus n) d t → Follows n cs empty_place z k (lent_with i) t (ran i t)
  follows i z e t h =
      run_follows n cs empty_place z k (lent_with i) t (ap (λ (y : Drawn). lengths s k i y r) (contents_long (modulus n) d t h) ∙ e) refl

  -- each command's opened word depends on the replies and the register machine's opened words only
  opened_by : (i : List ℕ) → AllBelow (modulus n) i → (t : Tapes) → Contents (modulus n) d t
      → map (λ (a : Answer). a.opened) (ran i t).answers ≡ spread cs (map reply (ran i t).answers) (leading i)
  opened_by i b t h =
      let w = words_from_empty n s k r d i t b (λ p. (h p).below) in
      let l = lent_lists s k i t r in
      told-spread n cs empty_place l w
      ∙ ap (spread cs (map reply (ran i t).answers))
      ((run-agrees n cs empty_place l w).same_opened ∙ ap₂ (λ (y : Drawn) (m : Registers). opened_registers n cs (lengths s k i y r) i m) (contents_long (modulus n) d t h) (start-empty n l))

  module _ (x y : List ℕ) (long : length x ≡ length y) (bx : AllBelow (modulus n) x) (by : AllBelow (modulus n) y) where
    abbrev z : Sizes
    z = size x

    sizes-same : size y ≡ z
    sizes-same = same_size n s k r d x y long

    -- for every observer; for one that sees the controller's list, x and y must give equal opened words
    module _ (o : Observer) (agree : Sees o controller → leading x ≡ leading y) where
      alike : Alike n o cs empty_place z (lent_with x) (lent_with y)
      alike = record {
        seen = record { tables = λ i q. refl; lists = λ q e. refl };
        leading = λ q. ap (opened_registers n cs z x) (start-empty n (lent_with x)) ∙ agree q ∙ ap₂ (λ (u : Sizes) (m : Registers). opened_registers n cs u y m) sizes-same (sym (start-empty n (lent_with y)));
      }

      -- the records that o has of the two runs
      record Records (t t' : Tapes) : Type 0 where
        as_miner : (i : Miner) → Sees o (miner i) → miner_record i (ran x t) ≡ miner_record i (ran y t')
        as_controller : Sees o controller → controller_record (ran x t) ≡ controller_record (ran y t')

      seen_records : (t t' : Tapes) → Contents (modulus n) d t → Contents (modulus n) d t'
          → Seen o ((run_protocol n cs empty_place z k).result (lent_with x) t) ((run_protocol n cs empty_place z k).result (lent_with y) t') → SameOwn o t t' → Records t t'
      seen_records t t' h h' seen own =
          let f = follows x z refl t h in
          let g = follows y z sizes-same t' h' in
          let place = f.ends ∙ sym g.ends in
          let answers = f.answers ∙ sym g.answers in
          record {
            as_miner = λ i q. miner-same i (ran x t) (ran y t')
                (read (λ l. tape (owner i) l.tapes) f.leaves-lent g.leaves-lent (sym (own (owner i) (holds_own o i q)))) place
                (read (λ l. table i l.tables) f.leaves-lent g.leaves-lent (seen.tables i q))
                (read (λ l. list (miner i) l.received) f.leaves-lent g.leaves-lent (seen.lists (miner i) q)) answers;
            as_controller = λ q. controller-same (ran x t) (ran y t') place
                (read (λ l. list controller l.received) f.leaves-lent g.leaves-lent (seen.lists controller q))
                (opened_by x bx t h ∙ ap₂ (spread cs) answers (agree q) ∙ sym (opened_by y by t' h')) answers;
          }

      records_pair : Pairing (Contents (modulus n) d) (λ t t'. Records t t' × SameOwn o t t')
      records_pair =
          let w = run_protocol n cs empty_place z k in
          weaken (λ t t' h h' s. (seen_records t t' h h' s.0 s.1, s.1))
          (subst (λ (e : Drawn). Pairing (Contents (modulus n) e) (λ t t'. Seen o (w.result (lent_with x) t) (w.result (lent_with y) t') × SameOwn o t t'))
          (draws_all z refl) (pairs (run-blind n o cs empty_place z k) (lent_with x) (lent_with y) (held n s k r d x z refl bx) (held n s k r d y z sizes-same by) alike))

pub run_blindness : (n : ℕ) → RunBlindness n (modulus n)
run_blindness n cs s k r d x y long bx by = record {
  miner = λ i own. weaken (λ t t' h h' e. e.as_miner i refl) (fixed (watching i) (owner i) (holds_own (watching i) i refl) own (records_pair n cs s k r d x y long bx by (watching i) (λ q. absurd q)));
  controller = λ e. weaken (λ t t' h h' a. a.0.as_controller tt) (records_pair n cs s k r d x y long bx by controlling (λ q. e));
}
