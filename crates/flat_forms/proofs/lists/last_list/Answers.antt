use Rattle.std.proofs.Common.{false, []}
use Rattle.flat_places.specs.Forms.{one_or_more}
use Rattle.flat_forms.specs.Lists.{ReadsList}
use Rattle.flat_places.specs.Places.{fence_word}
use Rattle.flat_places.specs.Reads.{Reads}
use Rattle.flat_places.proofs.lemmas.ReadsLemmas.{if_ok}
use Rattle.flat_forms.proofs.lemmas.ListLemmas.{last_list}
use Rattle.flat_forms.proofs.lists.last_list.Goals as goal

pub returns : goal.returns
returns c =
    let reading = one_or_more (fence_word c.args.script.now.script c.args.owner) in
    let old = c.args.places.now in
    let new = c.some_fences.new.places in
    if_ok (λ v. ReadsList reading false old new v) (λ v. Reads (λ words. (reading words, [])) old new v) c.some_fences.result
    (λ v list. last_list reading old new v list) c.some_fences.ensures
