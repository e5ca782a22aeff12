-- The definitions, computed on a session with another one below its viewport.
use Rattle.std.proofs.Common.{ℕ, ◌*◌, pos, ◌≡◌, refl, true, false, List, [], ◌∷◌, None, Some}
use Rattle.flat_base.specs.declared.ids.SessionNo.{SessionNo}
use Rattle.flat_base.specs.declared.shapes.Rect.{Rect}
use Rattle.flat_geom.specs.Identity.{identity_matrix}
use Rattle.flat_scene.specs.declared.frames.SessionSet.{SessionSet}
use Rattle.flat_scene.specs.declared.frames.ViewNode.{ViewNode}
use Rattle.flat_scene.specs.declared.trees.Content.TheVariants as content
use Rattle.flat_topology.specs.declared.ConnectedSession.{ConnectedSession}
use Rattle.flat_topology.specs.declared.GlobalTopology.{GlobalTopology}
use Rattle.flat_topology.specs.declared.PlacedNode.{PlacedNode}
use Rattle.flat_tree.specs.Trees.{is_among, is_apart, if_apart, apart_below, tree_of, tree_from}

abbrev session : ℕ → SessionNo
session s = record { 0 = s }

abbrev square : ℕ → Rect
square side = record { x0 = pos 0; y0 = pos 0; x1 = pos (side * 65536); y1 = pos (side * 65536) }

-- a viewport of 20 by 20, cut to 10 by 10
abbrev placed : PlacedNode
placed = record {
  session = session 1;
  serial = 1;
  matrix = identity_matrix;
  clip = square 10;
  opacity = 65536;
  content = Some (content.Viewport 1 (record { 0 = 1 }) (record { w = 20; h = 20; inset = record { top = 0; right = 0; bottom = 0; left = 0 } }));
  hits = [];
}

abbrev connected : List ConnectedSession
connected = record { session = session 1; at = None } ∷ record { session = session 2; at = Some 0 } ∷ []

abbrev joined : GlobalTopology
joined = record { display = square 100; nodes = placed ∷ []; connected = connected }

-- the second view has the viewport's rectangle, uncut
abbrev views : List ViewNode
views = record { session = session 1; parent = None; bounds = square 100 } ∷ record { session = session 2; parent = Some (session 1); bounds = square 20 } ∷ []

-- sessions 1 and 3 have a view
abbrev with_view : SessionSet
with_view = record {
  has = true ∷ false ∷ true ∷ false ∷ false ∷ false ∷ false ∷ false ∷ false ∷ false ∷ false ∷ false ∷ false ∷ false ∷ false ∷ false ∷ [];
}

second_among : is_among views 2 ≡ true
second_among = refl

third_apart : is_apart views with_view 3 ≡ true
third_apart = refl

first_not_apart : is_apart views with_view 1 ≡ false
first_not_apart = refl

no_one_apart : if_apart false 3 ≡ []
no_one_apart = refl

-- of two sessions none is apart, of three the third
two_sessions : apart_below 2 views with_view ≡ []
two_sessions = refl

three_sessions : apart_below 3 views with_view ≡ session 3 ∷ []
three_sessions = refl

viewed_tree : tree_of views with_view ≡ record { nodes = views; apart = session 3 ∷ [] }
viewed_tree = refl

whole_tree : tree_from joined with_view ≡ tree_of views with_view
whole_tree = refl
