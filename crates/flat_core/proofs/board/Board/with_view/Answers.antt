use Rattle.std.proofs.Common.{◌≡◌, ℕ, ◌<◌, true, false, subst}
use Rattle.flat_base.specs.declared.ids.SessionNo.{SessionNo}
use Rattle.flat_scene.specs.Setups.{is_declared}
use Rattle.flat_topology.specs.Members.{is_member}
use Rattle.flat_states.specs.Machines.{Machine}
use Rattle.flat_rules.specs.Ends.{has_view}
use Rattle.flat_links.proofs.lemmas.WithView.{members, none_others}
use Rattle.flat_core.proofs.board.Board.with_view.Goals as goal

pub returns-clause-members : goal.returns-clause-members
returns-clause-members c =
    let inside = c.self.inside in
    let P : Machine → Type 0 = λ m. (s : SessionNo) → is_declared m.setup s ≡ true → is_member c.with_view.result s.0 ≡ has_view m.setup m.history s in
    subst P c.self.view_is
    (members inside.setup inside.log.history _ _ _ inside.sessions.items inside.links.pairs.items c.with_view.result c.self.invariant.0 c.self.invariant.3
    (rw c.as_slice.ensures.value at c.with_view.ensures.each))

pub returns-clause-others : goal.returns-clause-others
returns-clause-others c =
    let inside = c.self.inside in
    let P : Machine → Type 0 = λ m. (s : ℕ) → m.setup.sessions < s → is_member c.with_view.result s ≡ false in
    subst P c.self.view_is
    (none_others inside.setup inside.log.history _ _ _ inside.sessions.items c.with_view.result c.self.invariant.0
    (rw c.as_slice.ensures.value at c.with_view.ensures.others))
