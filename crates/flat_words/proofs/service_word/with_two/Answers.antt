use Rattle.std.proofs.Common.{◌≡◌, ◌∙◌, ap}
use Rattle.clap.specs.Words.{App, app_of, new_app, with_subcommand}
use Rattle.flat_words.proofs.Results.{if_ok}
use Rattle.flat_words.proofs.service_word.with_two.Goals as goal

pub returns : goal.returns
returns c =
    let first = c.args.first.now in
    let second = c.args.second.now in
    if_ok (λ more. app_of more ≡ with_subcommand (app_of c.in-Ok.command) (new_app second).top)
    (λ more. app_of more ≡ with_subcommand (with_subcommand (app_of c.args.command) (new_app first).top) (new_app second).top) c.with_form-2.result
    (λ more is. is ∙ ap (λ (a : App). with_subcommand a (new_app second).top) c.in-Ok.ensures) c.with_form-2.ensures
