-- The claims about the numbers and texts of refusals and the names of kinds; Specification: Sentences
use Rattle.std.specs.Prelude.{ℕ, ◌≡◌, ◌≤◌, ◌↔◌, [], ◌++◌, length, codes, Some}
use Rattle.machine.specs.declared.kind.Kind.TheVariants.{RingValue, BitWord}
use Rattle.machine.specs.declared.refusal.Refusal.{Refusal}
use Rattle.machine.specs.Refusal.{refusal_number, refusal_numbered}
use Rattle.machine.specs.Printed.{kind, refusal_text}

-- promised by `refusal_numbers`: a number names a refusal exactly if the refusal has this number;
-- Specification: Table of refusals
abbrev pub RefusalNumbers : ℕ → Refusal → Type 0
RefusalNumbers k r = (refusal_numbered k ≡ Some r) ↔ (refusal_number r ≡ k)

-- promised by `refusal_texts`: the whole text of each refusal, by its number; Specification: Sentences
pub record RefusalTexts : Type 0 where
  pub not_whole : refusal_text 1
      ≡ codes "refused 1: the file is under 48 bytes or ends within a word; send the whole file, 4 bytes a word"
  pub contents_broken : refusal_text 2
      ≡ codes "refused 2: the bodies do not follow one another to the file's end; correct their starts and counts"
  pub over_limit : refusal_text 3 ≡ codes "refused 3: a body is over its limit or the last command is incomplete; "
      ++ codes "shorten the body or complete the command"
  pub lent_unsoundly : refusal_text 4 ≡ codes "refused 4: the lent lists do not fit; "
      ++ codes "check their lengths, the kinds, the place record and a session's words"
  pub unknown_code : refusal_text 5 ≡ codes "refused 5: no command has this code; take one from the table of commands"
  pub field_not_zero : refusal_text 6 ≡ codes "refused 6: a field that the command does not use is not 0; set it to 0"
  pub handle_not_filled : refusal_text 7
      ≡ codes "refused 7: a handle is 0 or not filled; name one that an earlier command filled"
  pub wrong_kind : refusal_text 8
      ≡ codes "refused 8: a handle holds the wrong kind of value; make a bit word by bits, or a ring value by bit"
  pub position_outside : refusal_text 9
      ≡ codes "refused 9: a bit position is past the highest bit; take one from 0 to 31"
  pub tables_full : refusal_text 10
      ≡ codes "refused 10: the share tables have no entry left for the new value; lend longer tables and kinds"
  pub inputs_used : refusal_text 11 ≡ codes "refused 11: all inputs are used; lend one for each store"
  pub tape_spent : refusal_text 12
      ≡ codes "refused 12: a tape has fewer words left than are drawn from it; lend more random words"
  pub list_full : refusal_text 13
      ≡ codes "refused 13: a received list has room for fewer words than are sent to it; lend a longer list"
  pub no_other : (k : ℕ) → ¬ ((1 ≤ k) × (k ≤ 13)) → refusal_text k ≡ []
  pub at_most_127 : (k : ℕ) → length (refusal_text k) ≤ 127

-- promised by `kind_texts`: the names of both kinds; Specification: Kinds
pub record KindTexts : Type 0 where
  pub ring_value : kind RingValue ≡ codes "ring value"
  pub bit_word : kind BitWord ≡ codes "bit word"
