use Rattle.std.proofs.Common.{sym, ◌∙◌}
use Rattle.flat_forms.specs.Lists.{ends_list}
use Rattle.flat_places.specs.Places.{fence_word}
use Rattle.flat_places.specs.Reads.{left}
use Rattle.flat_forms.proofs.lemmas.ListLemmas.{goes, list_goes, list_ends, shorter_step}
use Rattle.flat_forms.proofs.lists.each_fence.Goals as goal

pub loop-owner-smaller : goal.loop-owner-smaller
loop-owner-smaller c =
    shorter_step (ends_list c.args.follows) (fence_word c.args.script.now.script c.args.owner) (left c.loop-owner.places) (left c.fence-one.new.self)
    (goes (ends_list c.args.follows) (left c.loop-owner.places) (sym c.has_fence.ensures ∙ c.loop-owner-test.true)) c.fence-one.ensures.words

pub loop-owner-preserved : goal.loop-owner-preserved
loop-owner-preserved c =
    list_goes (fence_word c.args.script.now.script c.args.owner) c.args.follows c.args.places.now c.loop-owner.places c.fence-one.new.self c.loop-owner.found _
    c.fence-one.result c.loop-owner.invariant
    (goes (ends_list c.args.follows) (left c.loop-owner.places) (sym c.has_fence.ensures ∙ c.loop-owner-test.true)) c.fence-one.ensures c.in_ok-push.ensures.ok

pub returns : goal.returns
returns c = list_ends (fence_word c.args.script.now.script c.args.owner) c.args.follows c.args.places.now c.loop-owner.places c.loop-owner.found
    c.loop-owner.invariant (sym c.has_fence.ensures ∙ c.loop-owner-test.false)
