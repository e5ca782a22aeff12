use Rattle.std.proofs.Common.{rules, ◌≡◌, ◌+◌, ◌<◌, true, length, get_or, Some, slice_get, refl, sym, ap, ◌∙◌, arith}
use Rattle.std.proofs.lemmas.Option.{slice_get-get_or}
use Rattle.flat_play.proofs.lemmas.Starting.{few}
use Rattle.flat_judge.specs.declared.session_cursor.SessionCursor.{SessionCursor}
use Rattle.flat_judge.proofs.RunSteps.{ended_more, must_end, seat_found, still_ended}
use Rattle.flat_base.specs.declared.ids.Actor.TheVariants.{Session}
use Rattle.flat_judge.proofs.Growth.{grown-goes, grown-none, grown-on}
use Rattle.flat_judge.proofs.guided_run.GuidedRun.end_session.Goals as goal

pub overflow_add-end : goal.overflow_add-end
overflow_add-end c =
    let low = few c.args.script.now c.requires.playable in
    let many : c.len-end.result ≡ length c.args.script.now.lines = search rules in
    omega (arith, low, many)

pub loop-init : goal.loop-init
loop-init c =
    let guided = c.args.self.now in
    let first : SessionCursor = c.index.result.now in
    let found : first ≡ get_or guided.seats.items c.args.k first = search rules in (
      c.requires.stands,
      c.requires.before,
      (λ seat at unended. let same : first.place ≡ seat.place =
          ap (λ (p : SessionCursor). p.place) (seat_found guided.seats.items c.args.k first seat c.requires.within found at) in omega (arith, same)),
      refl,
      grown-none _ _ refl,
      refl,
    )

pub returns-then-index-clause-ended : goal.returns-then-index-clause-ended
returns-then-index-clause-ended c =
    let guided = c.loop.self in
    let first : SessionCursor = c.index-in-loop.result.now in
    let found : first ≡ get_or guided.seats.items c.args.k first = search rules in
    let many = c.loop.invariant.0.seats.count in
    let were = c.requires.stands.seats.count in
    ended_more c.args.k guided.seats.items c.loop.invariant.1
    (λ seat at. sym (ap (λ (p : SessionCursor). p.has_ended) (seat_found guided.seats.items c.args.k first seat (omega (arith, many, were, c.requires.within))
    found at))
    ∙ c.if-index.true)

pub loop-preserved : goal.loop-preserved
loop-preserved c =
    let guided = c.loop.self in
    let first : SessionCursor = c.index-in-loop.result.now in
    let found : first ≡ get_or guided.seats.items c.args.k first = search rules in
    let many = c.loop.invariant.0.seats.count in
    let were = c.requires.stands.seats.count in
    let below : c.args.k < length guided.seats.items = omega (arith, many, were, c.requires.within) in
    let on = c.in_ok-session_turn.ensures.on in
    let was : slice_get guided.seats.items c.args.k ≡ Some first = slice_get-get_or guided.seats.items c.args.k first below ∙ (λ i. Some (sym found i)) in (
      c.in_ok-session_turn.ensures.stands,
      still_ended c.args.k guided.seats.items c.session_turn.new.self.seats.items on c.loop.invariant.1,
      (λ seat at unended.
          let late = c.loop.invariant.2 first was c.if-index.false in
          let further = on.on first seat was at unended in
          omega (arith, late, further)),
      c.in_ok-session_turn.ensures.place ∙ c.loop.invariant.3,
      grown-on _ _ _ c.loop.invariant.4 (grown-goes (Session (record { 0 = c.args.k + 1 })) _ _ true c.in_ok-session_turn.ensures.goes),
      c.session_turn.ensures.answers ∙ c.loop.invariant.5,
    )

pub returns-clause-ended : goal.returns-clause-ended
returns-clause-ended c =
    let guided = c.loop.self in
    let many = c.loop.invariant.0.seats.count in
    let were = c.requires.stands.seats.count in
    let last : c.len-end.result ≡ length c.args.script.now.lines = search rules in
    ended_more c.args.k guided.seats.items c.loop.invariant.1
    (must_end c.args.script.now guided c.args.k c.loop.counter (omega (arith, many, were, c.requires.within)) c.loop.invariant.0
    (omega (arith, last, c.loop-test.false)) c.loop.invariant.2)

-- the seat that was looked at hasn't ended
pub session_turn-requires-clause-open : goal.session_turn-requires-clause-open
session_turn-requires-clause-open c = λ seat at.
    let guided = c.loop.self in
    let first : SessionCursor = c.index-in-loop.result.now in
    let found : first ≡ get_or guided.seats.items c.args.k first = search rules in
    let many = c.loop.invariant.0.seats.count in
    let were = c.requires.stands.seats.count in
    sym (ap (λ (p : SessionCursor). p.has_ended) (seat_found guided.seats.items c.args.k first seat (omega (arith, many, were, c.requires.within)) found at))
    ∙ c.if-index.false
