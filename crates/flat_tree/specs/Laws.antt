-- What the view tree of views and of a joined tree is, and that it is a tree.
use Rattle.std.specs.Prelude.{ℕ, ◌<◌, ◌≤◌, ◌≡◌, Bool, false, IsTrue, length}
use Rattle.flat_base.specs.declared.limits.TheConstants.{SESSIONS_MAX}
use Rattle.flat_scene.specs.declared.frames.SessionSet.{SessionSet}
use Rattle.flat_scene.specs.declared.setup.Setup.{Setup}
use Rattle.flat_scene.specs.ViewShapes.{is_tree}
use Rattle.flat_topology.specs.Shown.{Shown}
use Rattle.flat_topology.specs.Fit.{FitsSetup}
use Rattle.flat_topology.specs.Views.{view_nodes, view_tree}
use Rattle.flat_topology.specs.Members.{is_member}
use Rattle.flat_topology.specs.Connected.{joined_lists}
use Rattle.flat_tree.specs.Trees.{tree_of, tree_from}

-- A set has exactly those sessions of a setup that pass a test.
pub record IsSetOf (setup : Setup) (test : ℕ → Bool) (set : SessionSet) : Type 0 where
  pub within : (s : ℕ) → 0 < s → s ≤ setup.sessions → is_member set s ≡ test s
  pub beyond : (s : ℕ) → setup.sessions < s → is_member set s ≡ false

-- the view tree of the views of shown states is theirs
abbrev pub ViewsGiveTrees : Type 0
ViewsGiveTrees = (setup : Setup) (shown : Shown) (has_view : ℕ → Bool) (with_view : SessionSet)
    → setup.sessions ≤ SESSIONS_MAX → IsSetOf setup has_view with_view
    → tree_of (view_nodes setup shown) with_view ≡ view_tree setup shown has_view

-- so is that of what was joined
abbrev pub TreesFollow : Type 0
TreesFollow = (setup : Setup) (shown : Shown) (has_view : ℕ → Bool) (with_view : SessionSet)
    → setup.sessions ≤ SESSIONS_MAX → IsSetOf setup has_view with_view
    → tree_from (joined_lists setup shown) with_view ≡ view_tree setup shown has_view

-- the views are a tree
abbrev pub ViewsAreATree : Type 0
ViewsAreATree = (setup : Setup) (shown : Shown) → FitsSetup setup shown → IsTrue (is_tree (view_nodes setup shown))

-- there are no more views than states
abbrev pub ViewsAreFew : Type 0
ViewsAreFew = (setup : Setup) (shown : Shown) → FitsSetup setup shown → length (view_nodes setup shown) ≤ length shown
