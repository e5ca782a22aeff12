use Rattle.std.proofs.Common.{◌≡◌, ◌∙◌, ℕ, List, ap, codes}
use Rattle.clap.specs.Words.{App, app_of, new_app, with_rule, with_subcommand}
use Rattle.flat_words.specs.Command.{frames, service}
use Rattle.flat_words.proofs.Results.{if_ok}
use Rattle.flat_words.proofs.service_word.service.Goals as goal

pub returns : goal.returns
returns c =
    let with_one = λ (name : List ℕ) (a : App). with_subcommand a (new_app name).top in
    let with_two = λ (first second : List ℕ) (a : App). with_one second (with_one first a) in
    let with_load = λ (a : App). with_subcommand a (with_rule (new_app (codes "stress")) frames).top in
    let played = c.in-Ok.ensures ∙ ap (with_two (codes "play") (codes "race")) c.bare.ensures in
    let loaded = c.in-Ok-with_load.ensures ∙ ap with_load played in
    let shown = c.in-Ok-with_two.ensures ∙ ap (with_two (codes "render") (codes "damage")) loaded in
    let pointed = c.in-Ok-with_two-2.ensures ∙ ap (with_two (codes "focus") (codes "pointer")) shown in
    let judged = c.in-Ok-with_two-3.ensures ∙ ap (with_two (codes "judge") (codes "why")) pointed in
    if_ok _ (λ command. app_of command ≡ service) c.with_form.result (λ more is. is ∙ ap (with_one (codes "film")) judged) c.with_form.ensures
