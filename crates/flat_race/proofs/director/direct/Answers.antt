use Rattle.std.proofs.Common.{◌≡◌, ℕ, ◌+◌, List, length, refl, sym, ap, ◌∙◌, subst, arith}
use Rattle.std.proofs.lemmas.Result.{MatchResult-from_err}
use Rattle.flat_scene.specs.declared.journal.Entry.{Entry}
use Rattle.flat_scene.specs.Journals.{history_of}
use Rattle.flat_report.specs.Report.{finished}
use Rattle.flat_stage.specs.Displays.{DisplayView}
use Rattle.flat_play.proofs.lemmas.Seen.{as_long, seen_counted, seen_none, seen_line}
use Rattle.flat_play.proofs.lemmas.Places.{setup_is}
use Rattle.flat_play.specs.Keeping.{keeping_of}
use Rattle.flat_display.specs.Lost.{Driven}
use Rattle.flat_race.specs.declared.race_frames.RaceFrames.{RaceFrames}
use Rattle.flat_race.specs.Directing.{CompositorStands}
use Rattle.flat_race.specs.Publishing.{PublishedStand}
use Rattle.flat_race.proofs.Finishing.{published_more, published_none}
use Rattle.flat_race.proofs.LineSteps.{stands_first, stands_published}
use Rattle.flat_race.proofs.Stopping.{stopped_at}
use Rattle.flat_race.proofs.director.direct.Goals as goal

pub loop-place-init : goal.loop-place-init
loop-place-init g c = record {
  stands = stands_first c.args.context.now.script.now c.args.context.now.stage.now c.args.compositor.now c.args.film.now c.requires.playable c.requires.of.setup
      c.requires.fresh c.requires.film.stands;
  seen = seen_none _ _ _ _ _ _
      (ap (λ (s : DisplayView). finished c.args.context.now.script.now.setup (history_of s.seen)) c.requires.fresh.display) c.requires.film.none;
  keeping = refl;
  number = c.requires.film.number;
  kinds = refl;
  same = refl;
  published = subst (λ (s : DisplayView). PublishedStand c.args.context.now.script.now (history_of s.seen) c.args.published.now) (sym c.requires.fresh.display)
      (published_none c.args.context.now.script.now c.args.published.now c.requires.unpublished);
  home = refl;
}

pub direct_next-requires-clause-playable : goal.direct_next-requires-clause-playable
direct_next-requires-clause-playable g c κs within = c.requires.playable

pub direct_next-requires-clause-of : goal.direct_next-requires-clause-of
direct_next-requires-clause-of g c κs within = c.requires.of

pub direct_next-requires-clause-stands : goal.direct_next-requires-clause-stands
direct_next-requires-clause-stands g c κs within = c.loop-place.invariant.stands

pub direct_next-requires-clause-number : goal.direct_next-requires-clause-number
direct_next-requires-clause-number g c κs within = c.loop-place.invariant.number

pub end_line-requires-clause-setup : goal.end_line-requires-clause-setup
end_line-requires-clause-setup g c κs within = setup_is c.args.context.now.script.now c.requires.playable

pub end_line-requires-clause-last : goal.end_line-requires-clause-last
end_line-requires-clause-last g c κs within = c.in_ok-direct_next.ensures.stands.frames.stored.ends.is

pub end_line-requires-clause-given : goal.end_line-requires-clause-given
end_line-requires-clause-given g c κs within =
    let given = c.loop-place.invariant.published.given in
    let number = c.loop-place.invariant.stands.frames.stored.ends.number in
    omega (arith, given, number)

pub loop-place-preserved : goal.loop-place-preserved
loop-place-preserved g c =
    let script = c.args.context.now.script.now in
    let was = c.loop-place.invariant in
    let now = c.in_ok-direct_next.ensures in
    let kept = c.direct_next.ensures.displays in
    let sent = c.end_line.ensures in
    let was_seen : List Entry = history_of c.loop-place.compositor.display.seen in
    let now_seen : List Entry = history_of c.direct_next.new.compositor.display.seen in
    let set : c.end_line.new.film.set ≡ c.direct_next.new.film.set = ap (λ (f : RaceFrames). f.set) sent.others in
    record {
      stands = stands_published script c.args.context.now.stage.now (c.loop-place.place + 1) c.direct_next.new.compositor c.direct_next.new.film
          c.end_line.new.film sent.others
          c.in_ok-end_line.ensures.stays now.stands;
      seen = seen_counted _ _ (finished script.setup now_seen) (finished script.setup now_seen) now_seen now_seen _ _ _ _ _ refl refl
          (ap (λ (s : Driven). s.lost) set) refl (seen_line _ _ script.setup _ _ was_seen now_seen refl refl _ _ _ _ _
          (omega (arith, was.number, was.same, c.requires.film.few)) now.directs.shown was.seen);
      number = as_long _ _ _ kept.kinds ∙ was.number ∙ sym kept.count ∙ ap (λ (s : Driven). s.displays) (sym set);
      kinds = kept.kinds ∙ was.kinds;
      keeping = ap (λ (f : RaceFrames). keeping_of f.store.kept) sent.others ∙ now.directs.keeping ∙ was.keeping;
      same = ap (λ (s : Driven). s.displays) set ∙ kept.count ∙ was.same;
      published = published_more script was_seen now_seen c.loop-place.film.store.last.frame.0 c.direct_next.new.film.store.last c.loop-place.published
          c.end_line.new.published
          was.stands.frames.stored.ends.number now.stands.frames.stored.ends.number now.stands.frames.stored.ends.shows now.stands.frames.stored.ends.scales
          now.directs.finishes
          c.in_ok-end_line.ensures.publishes was.published;
      home = sent.home ∙ was.home;
    }

pub returns-clause-directs : goal.returns-clause-directs
returns-clause-directs g c =
    let script = c.args.context.now.script.now in
    let was = c.loop-place.invariant in
    let last : c.loop-place.place ≡ length script.lines = omega (arith, c.loop-place.auto.place-end, c.loop-place-test.false) in
    let P : ℕ → Type 0 = λ n. CompositorStands script c.args.context.now.stage.now n c.loop-place.compositor c.loop-place.film in
    record {
      stands = (subst P last was.stands).seat;
      film = was.stands.frames.stored;
      keeping = was.keeping;
      published = was.published;
      seen = was.seen;
    }

pub returns-clause-home : goal.returns-clause-home
returns-clause-home g c = c.loop-place.invariant.home

pub returns-in_err-direct_next-clause-stopped : goal.returns-in_err-direct_next-clause-stopped
returns-in_err-direct_next-clause-stopped g c =
    let was = c.loop-place.invariant in
    let stays = c.in_err-direct_next.ensures.stays in
    MatchResult-from_err _ _ _ c.from_residual.ensures.0
    (λ why. stopped_at _ _ c.args.context.now.script.now c.args.context.now.stage.now c.loop-place.place c.loop-place.compositor c.direct_next.new.compositor
    stays.compositor c.loop-place.film was.stands _ _ _ _ stays.displays was.seen)

pub returns-in_err-direct_next-clause-kinds : goal.returns-in_err-direct_next-clause-kinds
returns-in_err-direct_next-clause-kinds g c = c.direct_next.ensures.displays.kinds ∙ c.loop-place.invariant.kinds

pub returns-in_err-direct_next-clause-home : goal.returns-in_err-direct_next-clause-home
returns-in_err-direct_next-clause-home g c = c.loop-place.invariant.home

pub returns-in_err-end_line-clause-stopped : goal.returns-in_err-end_line-clause-stopped
returns-in_err-end_line-clause-stopped g c =
    let was = c.loop-place.invariant in
    let now = c.in_ok-direct_next.ensures in
    MatchResult-from_err _ _ _ c.from_residual-in_err-end_line.ensures.0
    (λ why. stopped_at _ _ c.args.context.now.script.now c.args.context.now.stage.now (c.loop-place.place + 1) c.direct_next.new.compositor
    c.direct_next.new.compositor refl
    c.direct_next.new.film now.stands _ _ _ _ refl
    (seen_line _ _ c.args.context.now.script.now.setup _ _ (history_of c.loop-place.compositor.display.seen)
    (history_of c.direct_next.new.compositor.display.seen) refl refl _ _ _ _ _ (omega (arith, was.number, was.same, c.requires.film.few)) now.directs.shown
    was.seen))

pub returns-in_err-end_line-clause-kinds : goal.returns-in_err-end_line-clause-kinds
returns-in_err-end_line-clause-kinds g c = c.direct_next.ensures.displays.kinds ∙ c.loop-place.invariant.kinds

pub returns-in_err-end_line-clause-home : goal.returns-in_err-end_line-clause-home
returns-in_err-end_line-clause-home g c = c.end_line.ensures.home ∙ c.loop-place.invariant.home
