-- A session has a cause if and only if it is no node of the view tree.
use Rattle.std.proofs.Common.{ℕ, ◌≡◌, refl, sym, ap, ◌∙◌, Bool, true, false, ◌||◌, not, cond, List, [], ◌∷◌, map, Some, None, is_some}
use Rattle.std.specs.Prelude.{◌==◌, ◌↔◌, IsTrue}
use Rattle.std.specs.List.{list_any}
use Rattle.flat_base.specs.declared.ids.SessionNo.{SessionNo}
use Rattle.flat_report.specs.Report.{frame_at}
use Rattle.flat_rules.specs.Ends.{to_begin}
use Rattle.flat_rules.specs.Laws.{BegunStatesFit}
use Rattle.flat_rules.specs.Shown.{shown_states}
use Rattle.flat_scene.specs.declared.frames.ViewNode.{ViewNode}
use Rattle.flat_scene.specs.declared.setup.Setup.{Setup}
use Rattle.flat_scene.specs.Frames.{setup_at, taken}
use Rattle.flat_topology.specs.Join.{is_joined}
use Rattle.flat_topology.specs.Laws.{ViewsTheJoined}
use Rattle.flat_topology.specs.Shown.{Shown}
use Rattle.flat_topology.specs.Views.{view_nodes}
use Rattle.flat_why.specs.declared.reasons.HiddenReason.{HiddenReason}
use Rattle.flat_why.specs.declared.reasons.HiddenReason.TheVariants.{Cycle, Parent}
use Rattle.flat_why.specs.declared.reasons.AttachPoint.{AttachPoint}
use Rattle.flat_why.specs.declared.reasons.AttachPoint.TheVariants.{OnDisplay, Below, Nowhere}
use Rattle.flat_why.specs.Reasons.{last_use, nothing_of, standing_of}
use Rattle.flat_why.specs.Hidden.{hidden_by, is_cyclic, node_of}
use Rattle.flat_why.specs.Laws.{HiddenHaveCauses, IsOn, StandingsDecide}

node-listed : (s : SessionNo) (nodes : List ViewNode)
    → is_some (node_of s nodes) ≡ list_any (λ (other : ℕ). other == s.0) (map (λ (v : ViewNode). v.session.0) nodes)
node-listed s [] = refl
node-listed s (node ∷ nodes) = by (node.session.0 == s.0) (node-listed s nodes)
  where
    by : (b : Bool) → is_some (node_of s nodes) ≡ list_any (λ (other : ℕ). other == s.0) (map (λ (v : ViewNode). v.session.0) nodes)
        → is_some (cond b (Some node) (node_of s nodes)) ≡ (b || list_any (λ (other : ℕ). other == s.0) (map (λ (v : ViewNode). v.session.0) nodes))
    by true later = refl
    by false later = later

node-joined : ViewsTheJoined → (setup : Setup) (shown : Shown) (s : SessionNo) → is_some (node_of s (view_nodes setup shown)) ≡ is_joined setup shown s.0
node-joined views setup shown s = node-listed s (view_nodes setup shown) ∙ ap (λ (all : List ℕ). list_any (λ (other : ℕ). other == s.0) all) (views setup shown)

never : (b : Bool) → (b ≡ true → ⊥) → b ≡ false
never true wrong = absurd (wrong refl)
never false wrong = refl

same-bools : (a b : Bool) → (a ≡ true → b ≡ true) → (b ≡ true → a ≡ true) → a ≡ b
same-bools true b there back = sym (there refl)
same-bools false b there back = sym (never b (λ is. let wrong : false ≡ true = back is in absurd (cc)))

some-unless : {A : Type 0} (b : Bool) (x : A) → is_some (cond b None (Some x)) ≡ not b
some-unless true x = refl
some-unless false x = refl

module _ (setup : Setup) (shown : Shown) (nodes : List ViewNode) (node : (s : SessionNo) → is_some (node_of s nodes) ≡ is_joined setup shown s.0) (n : ℕ)
    (stands : SessionNo → AttachPoint) (s : SessionNo) where
  pub by-standing : (standing : AttachPoint) → IsTrue (is_joined setup shown s.0) ↔ IsOn setup shown standing
      → is_some (hidden_by n stands nodes s standing) ≡ not (is_some (node_of s nodes))
  by-standing OnDisplay both = sym (ap not (node s ∙ both.1 tt))
  by-standing (Nowhere cause) both = sym (ap not (node s ∙ never (is_joined setup shown s.0) both.0))
  by-standing (Below q) both =
      let why : HiddenReason = cond (is_cyclic n stands s) Cycle (Parent q) in
      some-unless (is_some (node_of q nodes)) why ∙ ap not
      (node q ∙ sym (same-bools (is_joined setup shown s.0) (is_joined setup shown q.0) both.0 both.1) ∙ sym (node s))

pub hidden-have-causes : StandingsDecide → BegunStatesFit → ViewsTheJoined → HiddenHaveCauses
hidden-have-causes decide fits views setup history legal single n s =
    let begun = to_begin history in
    let shown : Shown = shown_states setup begun in
    by-standing setup shown (frame_at setup n begun).tree.nodes (node-joined views (setup_at setup begun) shown) setup.sessions (standing_of setup begun) s
    (standing_of setup begun s)
    (decide setup shown (taken setup begun) (λ p. last_use p begun) (nothing_of setup begun s) (fits setup history legal) single s)
