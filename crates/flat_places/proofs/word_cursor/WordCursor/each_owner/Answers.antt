use Rattle.std.proofs.Common.{◌++◌, refl, sym, ◌∙◌, ap}
use Rattle.flat_places.specs.Forms.{mapped, each, place}
use Rattle.flat_places.specs.Places.{owner_word}
use Rattle.flat_places.specs.Reads.{lower, sofar, left}
use Rattle.flat_places.proofs.lemmas.ReadsLemmas.{all_read, none_read, one_more, each_step, shorter, some_left}
use Rattle.flat_places.proofs.word_cursor.WordCursor.each_owner.Goals as goal

pub loop-self-smaller : goal.loop-self-smaller
loop-self-smaller c =
    shorter (owner_word c.args.script.now.script) (left c.loop-self.self) (left c.owner-one.new.self)
    (some_left c.loop-self.self.words (sym c.is_some.ensures ∙ c.loop-self-test.true)) c.owner-one.ensures.words

pub loop-self-preserved : goal.loop-self-preserved
loop-self-preserved c =
    let test = owner_word c.args.script.now.script in
    let some = some_left c.loop-self.self.words (sym c.is_some.ensures ∙ c.loop-self-test.true) in
    ap (λ items. lower (sofar c.owner-one.new.self) (mapped (λ r. items ++ r) (each test (left c.owner-one.new.self)))) c.in_ok-push.ensures.ok
    ∙ one_more (each test) (place test) c.loop-self.found c.owner-one.result (sofar c.loop-self.self) (sofar c.owner-one.new.self) (left c.loop-self.self)
    (left c.owner-one.new.self)
    (each_step test (left c.loop-self.self) some) c.owner-one.ensures.words c.owner-one.ensures.outcome
    ∙ c.loop-self.invariant

pub returns : goal.returns
returns c = all_read (each (owner_word c.args.script.now.script)) c.args.self.now c.loop-self.self c.loop-self.found refl
    (sym c.is_some.ensures ∙ c.loop-self-test.false) c.loop-self.invariant

pub loop-self-init : goal.loop-self-init
loop-self-init c = none_read c.new-found.result (sofar c.args.self.now) (each (owner_word c.args.script.now.script) (left c.args.self.now)) c.new-found.ensures
