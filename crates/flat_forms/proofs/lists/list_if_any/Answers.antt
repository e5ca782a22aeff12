use Rattle.std.proofs.Common.{[]}
use Rattle.flat_places.specs.Forms.{one_or_more}
use Rattle.flat_forms.specs.Lists.{behind_end}
use Rattle.flat_places.specs.Places.{fence_word}
use Rattle.flat_places.specs.Reads.{Reads}
use Rattle.flat_places.proofs.lemmas.ReadsLemmas.{if_ok}
use Rattle.flat_forms.proofs.lemmas.ListLemmas.{goes_on_behind}
use Rattle.flat_forms.proofs.lists.list_if_any.Goals as goal

pub returns-in-Some : goal.returns-in-Some
returns-in-Some c =
    let reading = one_or_more (fence_word c.args.script.now.script c.args.owner) in
    let old = c.args.places.now in
    let mid = c.next.new.self in
    let new = c.last_list.new.places in
    if_ok (λ v. Reads (λ words. (reading words, [])) mid new v) (λ v. Reads (behind_end reading) old new v) c.last_list.result
    (λ v read. goes_on_behind reading old mid new c.in-Some.field-0.now v c.requires.stops c.in-Some.ensures.taken c.next.ensures.same read) c.last_list.ensures
