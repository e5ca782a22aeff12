-- Small view trees, computed.
use Rattle.std.proofs.Common.{ℕ, ◌≡◌, refl, true, false, pos, List, [], ◌∷◌, Option, Some, None}
use Rattle.flat_base.specs.declared.ids.SessionNo.{SessionNo}
use Rattle.flat_scene.specs.declared.frames.ViewNode.{ViewNode}
use Rattle.flat_scene.specs.ViewTrees.{is_node}
use Rattle.flat_scene.specs.ViewShapes.{is_tree}

abbrev session : ℕ → SessionNo
session s = record { 0 = s }

abbrev view : ℕ → Option SessionNo → ViewNode
view s parent = record { session = session s; parent = parent; bounds = record { x0 = pos 0; y0 = pos 0; x1 = pos 0; y1 = pos 0 } }

-- 1 has 2 and 4 below it, and 2 has 3
abbrev four : List ViewNode
four = view 1 None ∷ view 2 (Some (session 1)) ∷ view 3 (Some (session 2)) ∷ view 4 (Some (session 1)) ∷ []

third_is_a_node : is_node four (session 3) ≡ true
third_is_a_node = refl

fifth_is_none : is_node four (session 5) ≡ false
fifth_is_none = refl

no_nodes_are_a_tree : is_tree [] ≡ true
no_nodes_are_a_tree = refl

four_are_a_tree : is_tree four ≡ true
four_are_a_tree = refl

parent_stands_behind : is_tree (view 1 None ∷ view 3 (Some (session 2)) ∷ view 2 (Some (session 1)) ∷ []) ≡ false
parent_stands_behind = refl

session_stands_twice : is_tree (view 1 None ∷ view 1 (Some (session 1)) ∷ []) ≡ false
session_stands_twice = refl

first_has_a_parent : is_tree (view 1 (Some (session 2)) ∷ []) ≡ false
first_has_a_parent = refl

own_parent : is_tree (view 1 (Some (session 1)) ∷ []) ≡ false
own_parent = refl

two_roots : is_tree (view 1 None ∷ view 2 None ∷ []) ≡ false
two_roots = refl
