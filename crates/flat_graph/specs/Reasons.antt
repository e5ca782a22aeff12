-- Why calls on a graph are refused: what is asked of each, in the order of the reasons.
use Rattle.std.specs.Prelude.{ℕ, ◌≡◌, ◌&&◌, ◌||◌, ◌==◌, ◌++◌, Bool, false, not, nat_lt, is_some, is_none, List, [], ◌∷◌}
use Rattle.std.specs.Prelude.{length, map, Option, Some, None}
use Rattle.std.specs.List.{list_any}
use Rattle.flat_base.specs.declared.ids.TransformId.{TransformId}
use Rattle.flat_base.specs.declared.shapes.IntRect.{IntRect}
use Rattle.flat_base.specs.declared.errors.Reason.TheVariants.{ZeroId, IdInUse, UnknownTransform, AlreadyChild}
use Rattle.flat_base.specs.declared.errors.Reason.TheVariants.{NotChild, BadScale, BadOpacity, BadRect, TooManyRegions}
use Rattle.flat_base.specs.declared.errors.Reason.TheVariants.{TooManyNamed, TooManyChildren}
use Rattle.flat_base.specs.declared.limits.TheConstants.{OPACITY_MAX, NAMED_MAX, CHILDREN_MAX, HIT_REGIONS_MAX}
use Rattle.flat_scene.specs.declared.calls.HitRegion.{HitRegion}
use Rattle.flat_scene.specs.declared.trees.GraphFault.{GraphFault}
use Rattle.flat_scene.specs.declared.trees.GraphFault.TheVariants.{Bad, Memory}
use Rattle.flat_scene.specs.Misuse.{Test, first_reason, is_bad_scale, is_bad_area, is_full, has_twice}
use Rattle.flat_graph.specs.declared.nodes.GraphNode.{GraphNode}
use Rattle.flat_graph.specs.Names.{key_named}
use Rattle.flat_graph.specs.State.{GraphState, node_at}

-- the children of a node, if there is one
abbrev pub links_of : Option GraphNode → List ℕ
links_of None = []
links_of (Some node) = node.children

-- the keys of the children of the node of a key
abbrev pub links_in : GraphState → ℕ → List ℕ
links_in graph key = links_of (node_at graph key)

-- the keys of the children of the node of a key that may be none
abbrev pub children_at : GraphState → Option ℕ → List ℕ
children_at graph None = []
children_at graph (Some key) = links_in graph key

-- of the node that an id names
abbrev pub children_of : GraphState → ℕ → List ℕ
children_of graph id = children_at graph (key_named graph.names id)

-- a key is one of these
abbrev pub has_key : List ℕ → Option ℕ → Bool
has_key keys None = false
has_key keys (Some key) = list_any (λ other. other == key) keys

-- what a second id names is a child of what the first one names
abbrev pub is_child : GraphState → ℕ → ℕ → Bool
is_child graph parent child = has_key (children_of graph parent) (key_named graph.names child)

-- what is asked of an id: that it names a transform
abbrev pub name_tests : GraphState → ℕ → List Test
name_tests graph id = (id == 0, ZeroId) ∷ (is_none (key_named graph.names id), UnknownTransform) ∷ []

abbrev pub create_tests : GraphState → ℕ → List Test
create_tests graph id =
    (id == 0, ZeroId) ∷ (is_some (key_named graph.names id), IdInUse) ∷ (is_full NAMED_MAX graph.names, TooManyNamed)
    ∷ []

abbrev pub scale_tests : GraphState → ℕ → ℕ → ℕ → List Test
scale_tests graph id x y = name_tests graph id ++ (is_bad_scale x || is_bad_scale y, BadScale) ∷ []

abbrev pub opacity_tests : GraphState → ℕ → ℕ → List Test
opacity_tests graph id opacity = name_tests graph id ++ (nat_lt OPACITY_MAX opacity, BadOpacity) ∷ []

abbrev pub clip_tests : GraphState → ℕ → Option IntRect → List Test
clip_tests graph id clip = name_tests graph id ++ (is_bad_area clip, BadRect) ∷ []

abbrev pub hits_tests : GraphState → ℕ → List HitRegion → List Test
hits_tests graph id regions =
    name_tests graph id ++ (list_any (λ region. is_bad_area region.area) regions, BadRect)
    ∷ (nat_lt HIT_REGIONS_MAX (length regions), TooManyRegions) ∷ []

-- what is asked of two ids: that they name transforms
abbrev pub pair_tests : GraphState → ℕ → ℕ → List Test
pair_tests graph parent child =
    (parent == 0 || child == 0, ZeroId)
    ∷ (is_none (key_named graph.names parent) || is_none (key_named graph.names child), UnknownTransform) ∷ []

-- what is asked of a key that is to be one of these children
abbrev pub child_tests : List ℕ → ℕ → List Test
child_tests children key = (list_any (λ other. other == key) children, AlreadyChild)
    ∷ (is_full CHILDREN_MAX children, TooManyChildren) ∷ []

abbrev pub add_tests : GraphState → ℕ → ℕ → List Test
add_tests graph parent child =
    pair_tests graph parent child ++ (is_child graph parent child, AlreadyChild)
    ∷ (is_full CHILDREN_MAX (children_of graph parent), TooManyChildren) ∷ []

abbrev pub remove_tests : GraphState → ℕ → ℕ → List Test
remove_tests graph parent child = pair_tests graph parent child ++ (not (is_child graph parent child), NotChild) ∷ []

-- what is asked of children that take the place of others: each stands once, and the children that go count no more
abbrev pub replace_tests : GraphState → ℕ → List TransformId → List Test
replace_tests graph parent children =
    (parent == 0 || list_any (λ child. child.0 == 0) children, ZeroId)
    ∷ (
      is_none (key_named graph.names parent) || list_any (λ child. is_none (key_named graph.names child.0)) children,
      UnknownTransform,
    )
    ∷ (has_twice (map (λ (child : TransformId). child.0) children), AlreadyChild)
    ∷ (nat_lt CHILDREN_MAX (length children), TooManyChildren) ∷ []

-- 0 unsets the root
abbrev pub root_tests : GraphState → ℕ → List Test
root_tests graph id = (not (id == 0) && is_none (key_named graph.names id), UnknownTransform) ∷ []

-- a call is refused for a reason, and never because memory ran out
abbrev pub IsMisuse : List Test → GraphFault → Type 0
IsMisuse tests (Bad reason) = first_reason tests ≡ Some reason
IsMisuse tests Memory = ⊥

-- a call is refused for a reason, or because memory ran out where there is no reason
abbrev pub IsFault : List Test → GraphFault → Type 0
IsFault tests (Bad reason) = first_reason tests ≡ Some reason
IsFault tests Memory = first_reason tests ≡ None
