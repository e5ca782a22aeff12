-- paths from the root, as the places of the children that they go by
use Rattle.std.specs.Prelude.{ℕ, Bool, true, false, List, [], ◌∷◌, Option, Some, slice_get}
use Rattle.std.specs.Option.{option_and_then}
use Rattle.flat_scene.specs.declared.trees.Node.{Node}
use Rattle.flat_scene.specs.Draft.{Draft}
use Rattle.flat_scene.specs.Tree.{children_at}
use Rattle.flat_scene.specs.Trees.{nodes}

-- whether a path stays where it begins
abbrev pub stays : List ℕ → Bool
stays [] = true
stays (place ∷ path) = false

-- the serial of the transform to which a path leads, from that of another
abbrev pub led_to : Draft → ℕ → List ℕ → Option ℕ
led_to draft serial [] = Some serial
led_to draft serial (place ∷ path) = option_and_then (λ child. led_to draft child path)
    (slice_get (children_at draft serial) place)

-- the node to which the same path leads in a tree
abbrev pub node_at : Node → List ℕ → Option Node
node_at node [] = Some node
node_at node (place ∷ path) = option_and_then (λ child. node_at child path) (slice_get (nodes node.children) place)
