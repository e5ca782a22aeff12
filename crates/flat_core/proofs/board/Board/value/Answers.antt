use Rattle.std.proofs.Common.{◌≡◌, ◌∙◌, ◌-◌, ◌<◌, List, length, arith, slice_index_or}
use Rattle.std.proofs.lemmas.List.{get_or_default}
use Rattle.flat_base.specs.declared.ids.SessionNo.{SessionNo}
use Rattle.flat_rules.specs.Legal.{answers}
use Rattle.flat_gets.specs.Listed.{KeptGets, no_gets}
use Rattle.flat_states.proofs.lemmas.Counts.{at-session, declared-some, kept-session, credits-kept, taken-kept, seen-count}
use Rattle.flat_states.proofs.lemmas.Ones.{looks-declared}
use Rattle.flat_core.proofs.board.Board.value.Goals as goal

pub returns-in-Session : goal.returns-in-Session
returns-in-Session c =
    let acts = rw (← c.self.view_is, c.in-Session.is) at c.requires.acts in
    let kept = kept-session _ _ _ _ _ _ c.in-Session.s c.index-in-Session.result.now c.self.invariant.0
    (looks-declared c.self.inside.setup c.args.c c.in-Session.s acts) c.index-in-Session.ensures in
    rw (← c.self.view_is, c.in-Credits.is, c.in-Session.is) (c.credits.ensures ∙ credits-kept _ _ _ kept (seen-count c.self.inside.setup _ _))

pub returns-in-Session-who : goal.returns-in-Session-who
returns-in-Session-who c =
    let acts = rw (← c.self.view_is, c.in-Session-who.is) at c.requires.acts in
    let kept = kept-session _ _ _ _ _ _ c.in-Session-who.s c.index-in-Session-who.result.now c.self.invariant.0
    (looks-declared c.self.inside.setup c.args.c c.in-Session-who.s acts) c.index-in-Session-who.ensures in
    rw (← c.self.view_is, c.in-Taken.is, c.in-Session-who.is) (c.taken.ensures ∙ taken-kept _ _ _ kept (seen-count c.self.inside.setup _ _))

pub returns-in-Session-who-2 : goal.returns-in-Session-who-2
returns-in-Session-who-2 c =
    let acts = rw (← c.self.view_is, c.in-Session-who-2.is) at c.requires.acts in
    let inside = c.self.inside in
    let declared = looks-declared inside.setup c.args.c c.in-Session-who-2.s acts in
    let here = declared-some c.in-Session-who-2.s.0 inside.setup.sessions declared in
    let all : List KeptGets = inside.watchers.sessions.items in
    let s : SessionNo = c.in-Session-who-2.s in
    let below : s.0 - 1 < length all = omega (arith, here.0, here.1, c.self.invariant.4.sessions) in
    let own : KeptGets = slice_index_or all (s.0 - 1) no_gets in
    let is : own ≡ slice_index_or all (s.0 - 1) own = get_or_default all (s.0 - 1) no_gets own below in
    let counted : own.answers ≡ answers inside.setup s inside.log.history =
    at-session (λ t one. one.answers ≡ answers inside.setup t inside.log.history) all s own c.self.invariant.4.answered here.0
    (omega (arith, here.1, c.self.invariant.4.sessions)) is in
    rw (← c.self.view_is, c.in-Answers.is, c.in-Session-who-2.is) (c.answers.ensures own is ∙ counted)
