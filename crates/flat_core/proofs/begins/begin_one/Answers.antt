use Rattle.std.proofs.Common.{◌≡◌, ◌-◌, false, refl, sym, ◌∙◌, ap, slice_set}
use Rattle.std.proofs.lemmas.List.{append-nil}
use Rattle.flat_fence.specs.Fences.{has}
use Rattle.flat_scene.specs.History.{is_closed}
use Rattle.flat_scene.specs.Frames.{credits}
use Rattle.flat_rules.specs.Ends.{to_begin}
use Rattle.flat_rules.specs.Shown.{shown}
use Rattle.flat_rules.proofs.lemmas.ListLemmas.{set-own}
use Rattle.flat_facts.specs.Begins.{begun}
use Rattle.flat_states.specs.Seen.{seen_of}
use Rattle.flat_states.proofs.lemmas.Begun.{seen-begun-closed, kept-let_go}
use Rattle.flat_core.proofs.BeginSteps.{kept-begun-open, shown-some, shown-none, takes-none, takes-some, credits-line, events-some, events-none}
use Rattle.flat_core.proofs.PresentSteps.{stays}
use Rattle.flat_core.proofs.begins.begin_one.Goals as goal

pub returns-then-state-clause-kept : goal.returns-then-state-clause-kept
returns-then-state-clause-kept c =
    let kept = c.requires.kept in
    rw (seen-begun-closed c.args.begin.setup.now c.args.log.now.history c.args.begin.line c.args.begin.time c.args.s (sym kept.closed ∙ c.if-state.true))
    (kept-let_go c.args.begin.setup.now (seen_of c.args.begin.setup.now c.args.log.now.history c.args.s) c.args.state.now c.let_go.new.state kept
    c.if-state-2.false c.if-state.true c.let_go.ensures)

pub returns-in-Some-clause-kept : goal.returns-in-Some-clause-kept
returns-in-Some-clause-kept c =
    kept-begun-open c.args.begin.setup.now c.args.log.now.history c.args.begin.line c.args.begin.time c.args.s (has c.args.begin.fences.now) _ c.args.state.now
    c.take_ready.new.state c.requires.kept c.if-state.false c.requires.fences
    c.take_ready.ensures

pub returns-in-None-clause-kept : goal.returns-in-None-clause-kept
returns-in-None-clause-kept c =
    kept-begun-open c.args.begin.setup.now c.args.log.now.history c.args.begin.line c.args.begin.time c.args.s (has c.args.begin.fences.now) _ c.args.state.now
    c.take_ready.new.state c.requires.kept c.if-state.false c.requires.fences
    c.take_ready.ensures

pub returns-in-Some-clause-shown : goal.returns-in-Some-clause-shown
returns-in-Some-clause-shown c =
    c.show-in-Some.ensures.shown
    ∙ ap (λ state. slice_set c.args.into.now (c.args.s.0 - 1) state)
    (sym (shown-some c.args.begin.setup.now c.args.log.now.history c.args.begin.line c.args.begin.time c.args.s (has c.args.begin.fences.now) c.args.state.now
    c.in-Some.snap c.requires.kept c.if-state.false c.requires.fences c.in-Some.ensures.last))

pub returns-in-None-clause-shown : goal.returns-in-None-clause-shown
returns-in-None-clause-shown c =
    let opened : is_closed c.args.s c.args.log.now.history ≡ false = sym c.requires.kept.closed ∙ c.if-state.false in
    let none = takes-none c.args.begin.setup.now c.args.log.now.history c.args.begin.time c.args.s (has c.args.begin.fences.now) c.args.state.now
    c.requires.kept c.if-state.false c.requires.fences c.in-None.ensures.last in
    let stays : shown c.args.begin.setup.now (begun c.args.log.now.history c.args.begin.line c.args.begin.time) c.args.s
    ≡ shown c.args.begin.setup.now (to_begin c.args.log.now.history) c.args.s =
    shown-none c.args.begin.setup.now c.args.log.now.history c.args.begin.line c.args.begin.time c.args.s opened none in
    sym (ap (λ state. slice_set c.args.into.now (c.args.s.0 - 1) state) stays ∙ set-own c.args.into.now (c.args.s.0 - 1) _ c.requires.shown)

pub returns-in-Some-clause-posts : goal.returns-in-Some-clause-posts
returns-in-Some-clause-posts c =
    let h = c.args.log.now.history in
    let opened : is_closed c.args.s h ≡ false = sym c.requires.kept.closed ∙ c.if-state.false in
    let some = takes-some c.args.begin.setup.now h c.args.begin.time c.args.s (has c.args.begin.fences.now) c.args.state.now c.in-Some.snap c.requires.kept
    c.if-state.false c.requires.fences c.in-Some.ensures.last in
    let here : c.args.state.now.let_go ≡ false = stays c.args.begin.setup.now (seen_of c.args.begin.setup.now h c.args.s) c.args.state.now
    c.requires.kept opened in
    let old : c.credits-before.result ≡ credits c.args.begin.setup.now h c.args.s =
    c.credits-before.ensures.credits ∙ credits-line c.args.begin.setup.now (seen_of c.args.begin.setup.now h c.args.s) c.args.state.now c.requires.kept here in
    let new : c.credits.result ≡ credits c.args.begin.setup.now (begun h c.args.begin.line c.args.begin.time) c.args.s =
    c.credits.ensures.credits ∙ credits-line c.args.begin.setup.now (seen_of c.args.begin.setup.now (begun h c.args.begin.line c.args.begin.time) c.args.s)
    c.take_ready.new.state (returns-in-Some-clause-kept c) (c.take_ready.ensures.let_go ∙ here) in
    let gained : c.saturating_sub-gained.result ≡ credits c.args.begin.setup.now (begun h c.args.begin.line c.args.begin.time) c.args.s
    - credits c.args.begin.setup.now h c.args.s =
    c.saturating_sub-gained.ensures ∙ rw (old, new) refl in
    rw (events-some c.args.begin.setup.now h c.args.begin.line c.args.begin.time c.args.s c.saturating_sub-gained.result c.requires.legal opened some gained)
    (c.post.ensures.posts ∙ rw c.len.ensures refl)

pub returns-in-None-clause-posts : goal.returns-in-None-clause-posts
returns-in-None-clause-posts c =
    let opened : is_closed c.args.s c.args.log.now.history ≡ false = sym c.requires.kept.closed ∙ c.if-state.false in
    let none = takes-none c.args.begin.setup.now c.args.log.now.history c.args.begin.time c.args.s (has c.args.begin.fences.now) c.args.state.now
    c.requires.kept c.if-state.false c.requires.fences c.in-None.ensures.last in
    rw (events-none c.args.begin.setup.now c.args.log.now.history c.args.begin.line c.args.begin.time c.args.s c.requires.legal opened none)
    (sym (append-nil _))
