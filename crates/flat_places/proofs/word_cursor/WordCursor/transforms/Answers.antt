use Rattle.std.proofs.Common.{◌++◌, refl, sym, ◌∙◌, ap}
use Rattle.flat_places.specs.Forms.{mapped}
use Rattle.flat_places.specs.Places.{transform, transforms}
use Rattle.flat_places.specs.Reads.{lower, sofar, left}
use Rattle.flat_places.proofs.lemmas.ReadsLemmas.{all_read, none_read, one_more, transforms_step, transform_shorter, some_left}
use Rattle.flat_places.proofs.word_cursor.WordCursor.transforms.Goals as goal

pub loop-self-smaller : goal.loop-self-smaller
loop-self-smaller c = transform_shorter (left c.loop-self.self) (left c.transform-one.new.self)
    (some_left c.loop-self.self.words (sym c.is_some.ensures ∙ c.loop-self-test.true)) c.transform-one.ensures.words

pub loop-self-preserved : goal.loop-self-preserved
loop-self-preserved c =
    let some = some_left c.loop-self.self.words (sym c.is_some.ensures ∙ c.loop-self-test.true) in
    ap (λ items. lower (sofar c.transform-one.new.self) (mapped (λ r. items ++ r) (transforms (left c.transform-one.new.self)))) c.in_ok-push.ensures.ok
    ∙ one_more transforms transform c.loop-self.found c.transform-one.result (sofar c.loop-self.self) (sofar c.transform-one.new.self) (left c.loop-self.self)
    (left c.transform-one.new.self)
    (transforms_step (left c.loop-self.self) some) c.transform-one.ensures.words c.transform-one.ensures.outcome
    ∙ c.loop-self.invariant

pub returns : goal.returns
returns c = all_read transforms c.args.self.now c.loop-self.self c.loop-self.found refl (sym c.is_some.ensures ∙ c.loop-self-test.false) c.loop-self.invariant

pub loop-self-init : goal.loop-self-init
loop-self-init c = none_read c.new-found.result (sofar c.args.self.now) (transforms (left c.args.self.now)) c.new-found.ensures
