use Rattle.std.proofs.Common.{rules, ◌≡◌, [], ◌∷◌, ◌++◌, ◌∙◌, refl}
use Rattle.flat_race.proofs.Outs.{out-more}
use Rattle.std.proofs.lemmas.Result.{IfOk-from_err}
use Rattle.flat_race.proofs.threads.start_each.Goals as goal

pub loop-before-preserved : goal.loop-before-preserved
loop-before-preserved g c =
    let k = c.loop-before.before in
    let was = c.loop-before.invariant in
    let pushed : c.push_reserved.new.self.items ≡ c.loop-before.out.items ++ c.start_next-started.result ∷ [] = search rules in
    record {
      own = c.start_next-started.ensures.own ∙ was.own;
      left = c.start_next-started.ensures.left;
      out = out-more c.args.context.now.stage.now c.args.context.now.script.now c.loop-before.out.items c.push_reserved.new.self.items
          c.start_next-started.result k
          pushed was.out.many c.start_next-started.ensures.out was.out;
      places = c.start_next-started.ensures.places;
      many = c.start_next-started.ensures.many ∙ was.many;
      room = search rules;
    }

pub places_by_session-requires : goal.places_by_session-requires
places_by_session-requires g c = c.requires.playable

pub returns-in_default-clause-out : goal.returns-in_default-clause-out
returns-in_default-clause-out g c = tt

pub returns-in_default-clause-own : goal.returns-in_default-clause-own
returns-in_default-clause-own g c = refl

pub returns-in_default-clause-count : goal.returns-in_default-clause-count
returns-in_default-clause-count g c = refl

pub start_next-started-requires-clause-playable : goal.start_next-started-requires-clause-playable
start_next-started-requires-clause-playable g c κs within = c.requires.playable

pub start_next-started-requires-clause-of : goal.start_next-started-requires-clause-of
start_next-started-requires-clause-of g c κs within = c.requires.of

pub start_next-started-requires-clause-own : goal.start_next-started-requires-clause-own
start_next-started-requires-clause-own g c κs within = c.loop-before.invariant.own

pub start_next-started-requires-clause-left : goal.start_next-started-requires-clause-left
start_next-started-requires-clause-left g c κs within = c.loop-before.invariant.left

pub start_next-started-requires-clause-places : goal.start_next-started-requires-clause-places
start_next-started-requires-clause-places g c κs within = c.loop-before.invariant.places

pub start_next-started-requires-clause-many : goal.start_next-started-requires-clause-many
start_next-started-requires-clause-many g c κs within = c.loop-before.invariant.many

pub returns-in_err-places-clause-out : goal.returns-in_err-places-clause-out
returns-in_err-places-clause-out g c = IfOk-from_err _ _ c.from_residual.ensures.0

pub returns-in_err-places-clause-own : goal.returns-in_err-places-clause-own
returns-in_err-places-clause-own g c = refl

pub returns-in_err-places-clause-count : goal.returns-in_err-places-clause-count
returns-in_err-places-clause-count g c = refl
