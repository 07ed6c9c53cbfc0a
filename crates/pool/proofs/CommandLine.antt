-- The command line on no word, and on one that does not begin with a hyphen.
use Rattle.std.proofs.Common.{◌≡◌, ◌≢◌, ◌∙◌, ◌==◌, ◌&&◌, ◌||◌, ℕ, Bool, List, [], ◌∷◌, Some, None, true, false, ap, ap₂, refl, codes, arith, bytes_eq}
use Rattle.std.specs.Option.{option_map_or}
use Rattle.std.specs.Prelude.{option_and_then, if◌then◌else◌, is_some}
use Rattle.std.proofs.lemmas.Bool.Decides.{nat_tests}
use Rattle.clap.specs.Lexer.{strip_byte, long_of, long_of_rest, short_of, short_of_rest}
use Rattle.clap.specs.Words.{Shape, built, first_of, is_simple, is_simple_and_free, matches_of, takes}
use Rattle.clap.specs.Walk.{Held, Step, Walk, after_step, finished, idle, long_or_other, nothing_held, short_or_plain, trailing, value, walk_from, walked, word_met}
use Rattle.clap.specs.Takes.{bundle_passes, default_passes, entered_passes, flag_word_passes, is_valid, settle_passes, step_passes, turn_passes, word_passes}
use Rattle.clap.specs.Simple.{entered}
use Rattle.std.specs.List.{list_all}
use Rattle.clap.proofs.OnLiterals.{clap_on_literals}
use Rattle.pool.specs.Arguments.{line}

abbrev id : List ℕ
id = codes "FILE"

-- ---- no word

pub simple : is_simple line ≡ true
unfolding clap_on_literals
simple = refl

pub free : is_simple_and_free line ≡ true
unfolding clap_on_literals
free = refl

pub none_named : (program : List ℕ) → first_of id (matches_of line (program ∷ [])) ≡ None
unfolding clap_on_literals
none_named program = refl

pub none_taken : (program : List ℕ) → takes line (program ∷ []) ≡ true
unfolding clap_on_literals
none_taken program = refl

-- ---- one word, no option

abbrev top : Shape
top = (built line).top

abbrev start : Walk
start = walk_from nothing_held

module _ (name : List ℕ) (first : ℕ) (no_hyphen : first ≢ 45) where
  abbrev word : List ℕ
  word = first ∷ name

  plain : (first == 45) ≡ false
  plain = grind (arith, nat_tests, no_hyphen)

  no_dashes : bytes_eq word (45 ∷ 45 ∷ []) ≡ false
  no_dashes = rw plain refl

  no_byte : strip_byte 45 word ≡ None
  no_byte = rw plain refl

  no_long : long_of word ≡ None
  no_long = ap (λ o. option_and_then long_of_rest (option_and_then (strip_byte 45) o)) no_byte

  no_short : short_of word ≡ None
  no_short = ap (option_and_then short_of_rest) no_byte

  met : word_met top.rules [] false idle 1 word nothing_held ≡ (nothing_held, value)
  met = ap (λ (b : Bool). if b then (nothing_held, trailing 1) else long_or_other top.rules idle word (long_of word) nothing_held) no_dashes
      ∙ ap (λ o. long_or_other top.rules idle word o nothing_held) no_long
      ∙ ap (λ o. short_or_plain top.rules idle word o nothing_held) no_short

  abbrev taken : Walk
  taken = after_step top.rules word start nothing_held value

  walk_is : walked top.rules [] start word ≡ taken
  unfolding clap_on_literals
  walk_is = ap (λ (m : Held × Step). after_step top.rules word start m.0 m.1) met

  pub one_named : (program : List ℕ) → first_of id (matches_of line (program ∷ word ∷ [])) ≡ Some word
  unfolding clap_on_literals
  one_named program = ap (λ (w : Walk). first_of id (finished top.rules w.held)) walk_is

  passes : word_passes top [] false idle word nothing_held ≡ true
  passes = ap (λ (b : Bool). b || flag_word_passes top.rules false (long_of word) word nothing_held) no_dashes
      ∙ ap (λ o. flag_word_passes top.rules false o word nothing_held) no_long
      ∙ ap (λ o. option_map_or (λ flags. bundle_passes top.rules false flags nothing_held) o true) no_short

  turn : turn_passes top [] start word ≡ true
  turn = ap₂ (λ (m : Held × Step) (b : Bool). b && step_passes top 1 m.0 m.1) met passes

  abbrev after : Walk → Bool → Bool
  after w b = entered_passes (built line) w.stopped && ((b && true) && (settle_passes top.rules false w.held
      && (list_all default_passes top.rules && is_valid top (finished top.rules w.held) (is_some (entered (built line) w.stopped)))))

  pub one_taken : (program : List ℕ) → takes line (program ∷ word ∷ []) ≡ true
  unfolding clap_on_literals
  one_taken program = ap₂ after walk_is turn
