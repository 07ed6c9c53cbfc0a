-- `arguments::file_named` meets its contract.
use Rattle.std.proofs.Common.{◌≡◌, ◌∙◌, ◌∷◌, Some, None, sym, subst, ap, ap₂, codes, option_map, rules, arith}
use Rattle.std.specs.Prelude.{map, string_bytes}
use Rattle.clap.specs.Words.{HasKind, fault_of, first_of, found_of, is_simple, is_simple_and_free, matches_of, takes}
use Rattle.clap.proofs.WalkLemmas.{first_value-rows}
use Rattle.pool.proofs.CommandLine.{free, none_named, none_taken, one_named, one_taken, simple}
use Rattle.pool.specs.Arguments.{but_hyphen, line}
use Rattle.pool.proofs.arguments.file_named.Goals as goal
use Rattle.pool.proofs.arguments.file_named.Goals.{in-Some-text, in_default, in_default-2}

pub returns-in_err-matches-clause-none : goal.returns-in_err-matches-clause-none
returns-in_err-matches-clause-none c p e =
    let memory = c.in_err-matches.ensures.passes (ap₂ takes c.in_ok-command.ensures.built e ∙ none_taken p) in
    search (rules, memory)

pub returns-in_err-matches-clause-one : goal.returns-in_err-matches-clause-one
returns-in_err-matches-clause-one c p n f h e =
    let memory = c.in_err-matches.ensures.passes (ap₂ takes c.in_ok-command.ensures.built e ∙ one_taken n f h p) in
    search (rules, memory)

pub returns-clause-none : goal.returns-clause-none
returns-clause-none c p e =
    let built = c.in_ok-command.ensures.built in
    let read : option_map (λ s. s.now) c.get_str.result ≡ None = c.get_str.ensures ∙ first_value-rows (found_of c.in_ok-matches.matches) (codes "FILE")
    ∙ ap (first_of (codes "FILE")) ((c.in_ok-matches.ensures.matches (ap is_simple built ∙ simple)).0 ∙ ap₂ matches_of built e)
    ∙ none_named p in
    elim c.match-get_str.branch [
      | in-Some-text w ↦ (ap (option_map (λ s. s.now)) w.result-is, tt)
      | in_default w ↦ search (rules, read, w.result-is)
      | in_default-2 w ↦ (ap (option_map (λ s. s.now)) w.result-is ∙ read, tt)
    ]

pub returns-clause-one : goal.returns-clause-one
returns-clause-one c p n f h e =
    let built = c.in_ok-command.ensures.built in
    let read : option_map (λ s. s.now) c.get_str.result ≡ Some (f ∷ n) = c.get_str.ensures ∙ first_value-rows (found_of c.in_ok-matches.matches) (codes "FILE")
    ∙ ap (first_of (codes "FILE")) ((c.in_ok-matches.ensures.matches (ap is_simple built ∙ simple)).0 ∙ ap₂ matches_of built e)
    ∙ one_named n f h p in
    elim c.match-get_str.branch [
      | in-Some-text w ↦ absurd (grind (arith, read, w.in-Some-text.is, w.in-Some-text.is-text, h))
      | in_default w ↦ search (rules, read, w.result-is)
      | in_default-2 w ↦ (ap (option_map (λ s. s.now)) w.result-is ∙ read, tt)
    ]

pub returns-clause-named : goal.returns-clause-named
returns-clause-named c =
    let built = c.in_ok-command.ensures.built in
    let read : option_map (λ s. s.now) c.get_str.result ≡ first_of (codes "FILE") (matches_of line (map string_bytes c.args.words.now)) = c.get_str.ensures ∙ first_value-rows (found_of c.in_ok-matches.matches) (codes "FILE")
    ∙ ap (first_of (codes "FILE")) ((c.in_ok-matches.ensures.matches (ap is_simple built ∙ simple)).0 ∙ ap (λ a. matches_of a (map string_bytes c.args.words.now)) built) in
    elim c.match-get_str.branch [
      | in-Some-text w ↦ ap (option_map (λ s. s.now)) w.result-is ∙ ap (λ t. but_hyphen (Some t)) (sym w.in-Some-text.is-text) ∙ ap (λ o. but_hyphen (option_map (λ s. s.now) o)) (sym w.in-Some-text.is) ∙ ap but_hyphen read
      | in_default w ↦ search (rules, ap but_hyphen read, w.result-is, w.in_default.not-text, w.in_default.named-is)
      | in_default-2 w ↦ search (rules, read, ap but_hyphen read, w.result-is, w.in_default.named-is, w.in_default.ensures)
    ]

pub returns-clause-failed : goal.returns-clause-failed
returns-clause-failed c =
    let built = c.in_ok-command.ensures.built in
    ap (λ a. fault_of a (map string_bytes c.args.words.now)) (sym built) ∙ c.in_ok-matches.ensures.kinds (ap is_simple_and_free built ∙ free)

pub returns-in_err-matches-clause-failed : goal.returns-in_err-matches-clause-failed
returns-in_err-matches-clause-failed c =
    let built = c.in_ok-command.ensures.built in
    let kinds = subst (λ a. HasKind (fault_of a (map string_bytes c.args.words.now)) c.in_err-matches.field-0.0) built (c.in_err-matches.ensures.kinds (ap is_simple_and_free built ∙ free)) in
    search (rules, kinds)
