-- Why a session that is on the display draws nothing: the first test that leaves none of its nodes.
use Rattle.std.specs.Prelude.{ℕ, Bool, false, cond, not, ◌&&◌, ◌||◌, ◌==◌, List, Option, Some, None, is_none, is_some}
use Rattle.std.specs.List.{list_any}
use Rattle.flat_base.specs.declared.ids.SessionNo.{SessionNo}
use Rattle.flat_geom.specs.declared.matrix.Matrix.{Matrix}
use Rattle.flat_geom.specs.Rectangles.{has_no_point, mapped_rect, sized_rect}
use Rattle.flat_scene.specs.declared.trees.Children.{Children}
use Rattle.flat_scene.specs.declared.trees.Content.{Content}
use Rattle.flat_scene.specs.declared.trees.Content.TheVariants as content
use Rattle.flat_scene.specs.declared.trees.Tree.{Tree}
use Rattle.flat_scene.specs.Trees.{fold_nodes}
use Rattle.flat_topology.specs.declared.PlacedNode.{PlacedNode}
use Rattle.flat_topology.specs.Shown.{nodes_of}
use Rattle.flat_why.specs.declared.reasons.BlankReason.{BlankReason}
use Rattle.flat_why.specs.declared.reasons.BlankReason.TheVariants.{Rootless, Contentless, Transparent, Sizeless}
use Rattle.flat_why.specs.declared.reasons.BlankReason.TheVariants.{Clipped}

-- the size, in units, at which a content is painted; a viewport paints nothing
abbrev pub painted_size : Option Content → Option (ℕ × ℕ)
painted_size (Some (content.Fill serial rgba w h)) = Some (w, h)
painted_size (Some (content.Image serial buffers index sample w h blend flip opacity)) = Some (w, h)
painted_size _ = None

abbrev pub paints : Option Content → Bool
paints what = is_some (painted_size what)

-- whether a placed node paints, and is seen through with an opacity that isn't 0
abbrev pub is_seen : PlacedNode → Bool
is_seen at = paints at.content && not (at.opacity == 0)

-- whether that has a point on an endless display
abbrev pub has_area : Matrix → Option (ℕ × ℕ) → Bool
has_area m None = false
has_area m (Some size) = not (has_no_point (mapped_rect m (sized_rect size.0 size.1)))

abbrev pub has_size : PlacedNode → Bool
has_size at = is_seen at && has_area at.matrix (painted_size at.content)

-- whether a placed node of a session passes a test
abbrev pub some_node : SessionNo → (PlacedNode → Bool) → List PlacedNode → Bool
some_node s test nodes = list_any (λ at. at.session.0 == s.0 && test at) nodes

-- why none of its nodes that paint is drawn, by where they are placed
abbrev pub unseen_of : SessionNo → List PlacedNode → BlankReason
unseen_of s nodes = cond (some_node s is_seen nodes) (cond (some_node s has_size nodes) Clipped Sizeless) Transparent

-- whether one of these nodes, or of those below them, paints
abbrev pub some_paint : Children → Bool
some_paint = fold_nodes (λ node below after. paints node.content || (below || after)) false

-- the same of any session, by what it shows
abbrev pub blank_of : Option Tree → SessionNo → List PlacedNode → BlankReason
blank_of None s nodes = Rootless
blank_of (Some tree) s nodes =
    cond (is_none tree.root) Rootless (cond (some_paint (nodes_of (Some tree))) (unseen_of s nodes) Contentless)
