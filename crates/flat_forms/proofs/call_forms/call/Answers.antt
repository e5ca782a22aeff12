use Rattle.std.proofs.Common.{◌∙◌, sym}
use Rattle.flat_forms.specs.Calls.{call_form}
use Rattle.flat_places.proofs.lemmas.ReadsLemmas.{read_whole}
use Rattle.flat_forms.proofs.call_forms.call.Goals as goal

pub returns-in-Err : goal.returns-in-Err
returns-in-Err c =
    let form = call_form c.args.script.now.script c.args.session c.args.name in
    sym (read_whole form c.new-places.ensures.words c.new-places.ensures.sofar c.in_ok-found.ensures c.finish.ensures.reads) ∙ c.in-Err.is
