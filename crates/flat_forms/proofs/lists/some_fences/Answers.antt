use Rattle.std.proofs.Common.{ap, ◌∙◌}
use Rattle.flat_places.specs.declared.kinds.FaultKind.TheVariants.{WrongCount}
use Rattle.flat_places.specs.Forms.{each, one_or_more, passes}
use Rattle.flat_forms.specs.Lists.{ReadsList}
use Rattle.flat_places.specs.Places.{fence_word}
use Rattle.flat_places.specs.Reads.{lower, sofar}
use Rattle.flat_places.proofs.lemmas.ReadsLemmas.{if_ok}
use Rattle.flat_forms.proofs.lemmas.ListLemmas.{some_list}
use Rattle.flat_forms.proofs.lists.some_fences.Goals as goal

pub returns : goal.returns
returns c =
    let test = fence_word c.args.script.now.script c.args.owner in
    let old = c.args.places.now in
    let mid = c.note_unless.new.self in
    let new = c.each_fence.new.places in
    if_ok (λ v. ReadsList (each test) c.args.follows mid new v) (λ v. ReadsList (one_or_more test) c.args.follows old new v) c.each_fence.result
    (λ v list. some_list test c.args.follows old mid new v c.note_unless.ensures.words
    (c.note_unless.ensures.lower ∙ ap (λ b. lower (sofar old) (passes WrongCount b)) c.has_fence-some.ensures) list) c.each_fence.ensures
