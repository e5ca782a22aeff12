use Rattle.std.proofs.Common.{◌≡◌, ◌∙◌, ap, ap₂, rules, codes}
use Rattle.clap.specs.Words.{App, app_of, new_app, rule_of, with_rule, with_subcommand}
use Rattle.flat_words.specs.Command.{frames}
use Rattle.flat_words.proofs.service_word.with_load.Goals as goal

pub returns-in-Ok-subcommand : goal.returns-in-Ok-subcommand
returns-in-Ok-subcommand c =
    let frames_is : rule_of c.required-frames.result ≡ frames = search rules in
    let stress_is : app_of c.in-Ok.stress ≡ with_rule (new_app (codes "stress")) frames =
    c.in-Ok.ensures.shape (search rules) ∙ ap₂ with_rule c.new-2.ensures.app frames_is in
    c.in-Ok-subcommand.ensures.shape (search rules) ∙ ap (λ (a : App). with_subcommand (app_of c.args.command) a.top) stress_is
