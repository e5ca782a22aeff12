use Rattle.std.proofs.Common.{◌≡◌, ◌∙◌, ap, rules, true}
use Rattle.clap.specs.Simple.{app_of_fields, on_top}
use Rattle.clap.specs.declared.builder.command.Command.TheViews.{out-Command}
use Rattle.flat_words.specs.Command.{asking}
use Rattle.flat_words.proofs.service_word.bare.Goals as goal

pub returns : goal.returns
returns c =
    let settings : out-Command c.subcommand_required.result ≡ record (out-Command c.new.result) {
      no_binary_name = true;
      disable_help_flag = true;
      disable_help_subcommand = true;
      disable_version_flag = true;
      subcommand_required = true;
    } = search rules in
    ap app_of_fields settings ∙ ap (on_top asking) c.new.ensures.app
