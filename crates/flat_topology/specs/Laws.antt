-- What follows where the shown states fit the setup.
use Rattle.std.specs.Prelude.{ℕ, ℤ, suc, ◌*◌, ◌≤◌, ◌≡◌, ◌≢◌, ◌↔◌, Bool, IsTrue, length, map, Some}
use Rattle.std.specs.List.{All, AllPairs}
use Rattle.flat_base.specs.declared.limits.TheConstants.{OPACITY_MAX, TREE_NODES_MAX}
use Rattle.flat_scene.specs.declared.setup.Setup.{Setup}
use Rattle.flat_topology.specs.declared.PlacedNode.{PlacedNode}
use Rattle.flat_topology.specs.Shown.{Shown, state_of}
use Rattle.flat_topology.specs.Pairs.{display_pair}
use Rattle.flat_topology.specs.Links.{IsConnected, HangsBelow, IsChild, HasParents}
use Rattle.flat_topology.specs.Fit.{FitsSetup, image_opacity}
use Rattle.flat_topology.specs.Preorder.{IsPreorder}
use Rattle.flat_topology.specs.Join.{join, led_to, joined_sessions, is_joined}
use Rattle.flat_topology.specs.Place.{display_rect, placed_nodes}
use Rattle.flat_topology.specs.Views.{view_nodes}
use Rattle.flat_topology.specs.Hits.{hit_list}
use Rattle.flat_topology.specs.Connected.{connected_sessions, connected_view}

-- the sessions in the joined tree are exactly the connected ones
abbrev pub JoinsTheConnected : Type 0
JoinsTheConnected = (setup : Setup) (shown : Shown) → FitsSetup setup shown → (s : ℕ)
    → IsTrue (is_joined setup shown s) ↔ IsConnected setup shown s

-- each session stands in the joined tree at most once
abbrev pub JoinsEachOnce : Type 0
JoinsEachOnce = (setup : Setup) (shown : Shown) → FitsSetup setup shown
    → AllPairs (λ s t. s ≢ t) (joined_sessions setup shown)

-- no cycle of links is reached from the display: no connected session hangs below itself
abbrev pub ReachesNoCycle : Type 0
ReachesNoCycle = (setup : Setup) (shown : Shown) → FitsSetup setup shown
    → (s between : ℕ) → IsConnected setup shown s → ¬ HangsBelow shown between s s

-- the joined tree is whole: with one view more below another it would be the same
abbrev pub JoinsAll : Type 0
JoinsAll = (setup : Setup) (shown : Shown) → FitsSetup setup shown
    → (p : ℕ) → display_pair setup ≡ Some p → led_to shown (length shown) p ≡ led_to shown (suc (length shown)) p

-- it has no more sessions than there are states
abbrev pub JoinsFewSessions : Type 0
JoinsFewSessions = (setup : Setup) (shown : Shown) → FitsSetup setup shown
    → length (joined_sessions setup shown) ≤ length shown

-- it has no more nodes than so many trees may have
abbrev pub JoinsFew : Type 0
JoinsFew = (setup : Setup) (shown : Shown) → FitsSetup setup shown
    → length (placed_nodes setup shown) ≤ length shown * TREE_NODES_MAX

-- neither the opacity of a placed node nor that of its image is above one
abbrev pub HasLowOpacity : PlacedNode → Type 0
HasLowOpacity at = (at.opacity ≤ OPACITY_MAX) × (image_opacity at.content ≤ OPACITY_MAX)

-- no placed node, nor an image on one, has an opacity above the greatest
abbrev pub PlacesLowOpacities : Type 0
PlacesLowOpacities = (setup : Setup) (shown : Shown) → FitsSetup setup shown
    → All HasLowOpacity (placed_nodes setup shown)

-- whether a session is connected is decided by what a group shows that has the session and all possible parents
abbrev pub ParentsDecide : Type 0
ParentsDecide = (setup : Setup) (shown other : Shown) → FitsSetup setup shown → FitsSetup setup other
    → (group : ℕ → Bool) → HasParents setup group → ((s : ℕ) → IsTrue (group s) → state_of shown s ≡ state_of other s)
    → (s : ℕ) → IsTrue (group s) → is_joined setup shown s ≡ is_joined setup other s

-- the view tree has the sessions of the joined tree, in the same order
abbrev pub ViewsTheJoined : Type 0
ViewsTheJoined = (setup : Setup) (shown : Shown)
    → map (λ v. v.session.0) (view_nodes setup shown) ≡ joined_sessions setup shown

-- each view's parent is the session that it is below, and the first view is the display's
abbrev pub ViewsBelowParents : Type 0
ViewsBelowParents = (setup : Setup) (shown : Shown)
    → All (λ v. IsChild setup shown v.session.0 v.parent) (view_nodes setup shown)

-- the views are those of the connected sessions, each at the placed node below which it hangs
abbrev pub ViewsTheConnected : Type 0
ViewsTheConnected = (setup : Setup) (shown : Shown)
    → view_nodes setup shown ≡ map (connected_view (display_rect setup) (placed_nodes setup shown))
    (connected_sessions setup shown)

-- no session is hit twice
abbrev pub HitsEachOnce : Type 0
HitsEachOnce = (setup : Setup) (shown : Shown) (x y : ℤ)
    → AllPairs (λ s t. s ≢ t) (map (λ hit. hit.session.0) (hit_list setup shown x y))

-- the placed nodes, and with them the draw list, stand in preorder of the joined tree
abbrev pub DrawsInPreorder : Type 0
DrawsInPreorder = (setup : Setup) (shown : Shown) → IsPreorder (join setup shown) (placed_nodes setup shown)
