use Rattle.std.proofs.Common.{◌≡◌, ◌+◌, [], List, ℕ, length, drop, slice_index_or, sym, ap, ◌∙◌, subst, arith}
use Rattle.std.proofs.lemmas.List.{drop_all}
use Rattle.flat_base.specs.declared.ids.SessionNo.{SessionNo}
use Rattle.flat_scene.specs.History.{is_session}
use Rattle.flat_scene.specs.Journals.{history_of}
use Rattle.flat_scene.specs.Interleave.{IsReading, session_lines}
use Rattle.flat_race.specs.OwnLines.{StandsBefore}
use Rattle.flat_race.specs.Sessions.{SessionStands}
use Rattle.flat_race.proofs.ReadLines.{all-read, line-here, line-mine, line-within, stands-at}
use Rattle.flat_race.proofs.SessionSteps.{begun_at, fresh_stands}
use Rattle.flat_race.proofs.session.read_all.Goals as goal

pub loop-i-init : goal.loop-i-init
loop-i-init g c = record {
  place = 0;
  within = omega arith;
  stands = fresh_stands c.new_seats_have_read.ensures c.args.context.now.script.now c.args.context.now.stage.now c.args.seat.now.session c.args.seat.now
      c.requires.fresh;
  are_left = c.requires.places;
}

pub read_next-requires-clause-place : goal.read_next-requires-clause-place
read_next-requires-clause-place g c κs asked =
    line-within c.args.context.now.script.now c.args.context.now.stage.now c.args.seat.now.session c.loop-i.seat c.requires.playable c.args.places.now
    c.loop-i.i
    (omega (arith, c.loop-i-test.true)) c.loop-i.invariant

pub read_next-requires-clause-mine : goal.read_next-requires-clause-mine
read_next-requires-clause-mine g c κs asked = λ next here. (
    let is : c.loop-i.seat.session ≡ c.args.seat.now.session = c.loop-i.invariant.stands.session in
    ap (λ (s : SessionNo). is_session s next.actor) is
    ∙ line-mine c.args.context.now.script.now c.args.context.now.stage.now c.args.seat.now.session c.loop-i.seat c.requires.playable c.args.places.now
    c.loop-i.i
    (omega (arith, c.loop-i-test.true)) c.loop-i.invariant next here
    )

pub read_next-requires-clause-stands : goal.read_next-requires-clause-stands
read_next-requires-clause-stands g c κs asked =
    let script = c.args.context.now.script.now in
    let view = c.args.context.now.stage.now in
    let is : c.loop-i.seat.session ≡ c.args.seat.now.session = c.loop-i.invariant.stands.session in
    subst (λ (s : SessionNo). SessionStands script view s (slice_index_or c.args.places.now c.loop-i.i 0) c.loop-i.seat) (sym is)
    (line-here script view c.args.seat.now.session c.loop-i.seat c.requires.playable c.args.places.now c.loop-i.i (omega (arith, c.loop-i-test.true))
    c.loop-i.invariant)

pub loop-i-preserved : goal.loop-i-preserved
loop-i-preserved g c =
    let script = c.args.context.now.script.now in
    let view = c.args.context.now.stage.now in
    let is : c.loop-i.seat.session ≡ c.args.seat.now.session = c.loop-i.invariant.stands.session in
    let stands : SessionStands script view c.args.seat.now.session (slice_index_or c.args.places.now c.loop-i.i 0 + 1) c.read_next.new.seat =
    subst (λ (s : SessionNo). SessionStands script view s (slice_index_or c.args.places.now c.loop-i.i 0 + 1) c.read_next.new.seat) is
    c.in_ok-read_next.ensures.stands in
    stands-at script view c.args.seat.now.session c.loop-i.seat c.requires.playable c.args.places.now c.loop-i.i (omega (arith, c.loop-i-test.true))
    c.loop-i.invariant c.read_next.new.seat stands

pub finish-requires-clause-stands : goal.finish-requires-clause-stands
finish-requires-clause-stands g c κs asked =
    let script = c.args.context.now.script.now in
    let view = c.args.context.now.stage.now in
    let is : c.loop-i.seat.session ≡ c.args.seat.now.session = c.loop-i.invariant.stands.session in
    let none : drop c.loop-i.i c.args.places.now ≡ [] = drop_all c.loop-i.i c.args.places.now (omega (arith, c.loop-i-test.false)) in
    subst (λ (s : SessionNo). SessionStands script view s (length script.lines) c.loop-i.seat) (sym is)
    (all-read script view c.args.seat.now.session c.loop-i.seat c.requires.playable
    (subst (λ (left : List ℕ). StandsBefore script view c.args.seat.now.session left c.loop-i.seat) none c.loop-i.invariant))

pub read_next-requires-clause-playable : goal.read_next-requires-clause-playable
read_next-requires-clause-playable g c κs within = c.requires.playable

pub read_next-requires-clause-of : goal.read_next-requires-clause-of
read_next-requires-clause-of g c κs within = c.requires.of

pub finish-requires-clause-playable : goal.finish-requires-clause-playable
finish-requires-clause-playable g c κs within = c.requires.playable

pub finish-requires-clause-of : goal.finish-requires-clause-of
finish-requires-clause-of g c κs within = c.requires.of

pub returns-clause-begun : goal.returns-clause-begun
returns-clause-begun g c =
    let script = c.args.context.now.script.now in
    let is : c.loop-i.seat.session ≡ c.args.seat.now.session = c.loop-i.invariant.stands.session in
    (subst (λ (s : SessionNo). IsReading script.setup script.count (session_lines s script.lines) (history_of c.finish.new.seat.mine)) is
    c.finish.ensures.read).follows

pub returns-in_err-read_next-clause-begun : goal.returns-in_err-read_next-clause-begun
returns-in_err-read_next-clause-begun g c =
    let stands = c.loop-i.invariant.stands in
    begun_at c.args.context.now.script.now c.args.context.now.stage.now c.args.seat.now.session c.loop-i.invariant.place c.loop-i.seat c.requires.playable
    c.requires.of stands c.read_next.new.seat.mine c.in_err-read_next.ensures.kept
