-- `arguments::command_line` meets its contract.
use Rattle.std.proofs.Common.{rules, ◌≡◌, ◌∙◌, true, ap, ap₂, codes}
use Rattle.clap.specs.Words.{App, app_of, rule_of, new_app, new_rule, with_rule}
use Rattle.clap.specs.Simple.{app_of_fields, on_top}
use Rattle.pool.proofs.arguments.command_line.Goals as goal

abbrev versioned : App → App
versioned = on_top (λ s. record s { has_version = true })

pub returns-clause-built : goal.returns-clause-built
returns-clause-built c =
    let based : app_of c.after_help.result ≡ versioned (new_app (codes "pool")) =
    ap app_of_fields c.after_help.ensures ∙ ap app_of_fields c.about.ensures ∙ ap app_of_fields c.version.ensures ∙ ap versioned c.new-2.ensures.app in
    let rule_is : rule_of c.help-file.result ≡ new_rule (codes "FILE") = search rules in
    c.in_ok-arg.ensures.shape (search rules) ∙ ap₂ with_rule based rule_is
