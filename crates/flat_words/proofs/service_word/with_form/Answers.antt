use Rattle.std.proofs.Common.{◌∙◌, ap, rules}
use Rattle.clap.specs.Words.{App, app_of, with_subcommand}
use Rattle.flat_words.proofs.service_word.with_form.Goals as goal

pub returns-in-Ok : goal.returns-in-Ok
returns-in-Ok c =
    c.in-Ok.ensures.shape (search rules) ∙ ap (λ (a : App). with_subcommand (app_of c.args.command) a.top) c.new.ensures.app
