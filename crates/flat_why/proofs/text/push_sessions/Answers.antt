use Rattle.std.proofs.Common.{◌≡◌, ◌+◌, ◌-◌, ◌<◌, ℕ, List, ap, sym, map, length, get_or, ◌∙◌, arith}
use Rattle.std.specs.Prelude.{◌==◌, count_by}
use Rattle.flat_scene.specs.declared.frames.DrawItem.{DrawItem}
use Rattle.flat_page.proofs.lemmas.PageLemmas.{same_lines, then_lines}
use Rattle.flat_scene.specs.Frames.{sessions_to}
use Rattle.flat_rules.specs.Numbers.{number}
use Rattle.flat_why.specs.Noted.{session_line}
use Rattle.flat_why.proofs.OverSessions.{sessions-next, whatever}
use Rattle.flat_why.proofs.text.push_sessions.Goals as goal

pub loop-i-preserved : goal.loop-i-preserved
loop-i-preserved c =
    let scene = c.args.scene.now in
    let line = session_line c.args.script.now scene.ratio scene.shown.now scene.frame.now scene.standings.now in
    same_lines (sym (sessions-next line c.loop-i.i)) (then_lines c.loop-i.invariant c.in_ok-push_session.ensures)

pub returns : goal.returns
returns c =
    let scene = c.args.scene.now in
    let line = session_line c.args.script.now scene.ratio scene.shown.now scene.frame.now scene.standings.now in
    let all : c.loop-i.i ≡ c.args.script.now.setup.sessions = omega (arith, c.loop-i-test.false, c.loop-i.auto.i-end) in
    same_lines (ap (λ n. map line (sessions_to n)) all) c.loop-i.invariant

pub push_session-requires-clause-counted : goal.push_session-requires-clause-counted
push_session-requires-clause-counted c =
    let i = c.loop-i.i in
    let scene = c.args.scene.now in
    let counts : List ℕ = c.in_ok-counts.counts.items in
    let place : i ≡ i + 1 - 1 = omega arith in
    let low : i < length counts = omega (arith, c.loop-i-test.true, c.in_ok-counts.ensures.count) in
    c.index.ensures ∙ whatever counts i _ 0 low ∙ ap (λ (n : ℕ). get_or counts n 0) place
    ∙ c.in_ok-counts.ensures.each (number i) (omega arith) (omega (arith, c.loop-i-test.true))
    ∙ ap (count_by (λ (item : DrawItem). item.session.0 == i + 1)) c.as_slice.ensures
