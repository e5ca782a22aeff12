use Rattle.std.proofs.Common.{inl, inr, sym, ◌∙◌, arith}
use Rattle.flat_join.proofs.Finding.{declared-at, view-beyond, view-hidden, view-noted, view-undeclared}
use Rattle.flat_join.proofs.distances.note_view.Goals as goal
use Rattle.flat_join.proofs.distances.note_view.Goals.{then-session-eq0-via-then-session-eq0, then-session-eq0-via-else-session-eq0+then-session-sessions}

pub returns-in_default : goal.returns-in_default
returns-in_default c =
    view-undeclared c.args.setup.now c.args.shown.now c.requires.fit c.args.pair c.args.distance c.args.distances.now
    (rw c.as_slice.ensures at c.in_default.ensures.lookup.3)

pub returns-then-session-eq0 : goal.returns-then-session-eq0
returns-then-session-eq0 c =
    view-beyond c.args.setup.now c.args.shown.now c.requires.fit c.args.pair c.args.distance c.args.distances.now c.in-Some.declared.now
    (declared-at c.args.setup.now.pairs c.args.pair c.in-Some.declared.now (rw c.as_slice.ensures at c.in-Some.ensures.lookup.3.0)
    (rw c.as_slice.ensures at c.in-Some.ensures.lookup.1))
    (elim c.then-session-eq0.branch [
      | then-session-eq0-via-then-session-eq0 w ↦ inl w.if-session-eq0.true
      | then-session-eq0-via-else-session-eq0+then-session-sessions w ↦ inr (omega (arith, w.if-session-sessions.true, w.sessions.ensures))
    ])

pub returns-then-shows : goal.returns-then-shows
returns-then-shows c =
    view-noted c.args.setup.now c.args.shown.now c.requires.fit c.args.pair c.args.distance c.args.distances.now c.in-Some.declared.now c.requires.all
    (declared-at c.args.setup.now.pairs c.args.pair c.in-Some.declared.now (rw c.as_slice.ensures at c.in-Some.ensures.lookup.3.0)
    (rw c.as_slice.ensures at c.in-Some.ensures.lookup.1)) (omega (arith, c.if-session-eq0.false))
    (omega (arith, c.if-session-sessions.false, c.sessions.ensures)) (sym c.shows.ensures ∙ c.if-shows.true)

pub returns-else-shows : goal.returns-else-shows
returns-else-shows c =
    view-hidden c.args.setup.now c.args.shown.now c.requires.fit c.args.pair c.args.distance c.args.distances.now c.in-Some.declared.now
    (declared-at c.args.setup.now.pairs c.args.pair c.in-Some.declared.now (rw c.as_slice.ensures at c.in-Some.ensures.lookup.3.0)
    (rw c.as_slice.ensures at c.in-Some.ensures.lookup.1)) (sym c.shows.ensures ∙ c.if-shows.false)
