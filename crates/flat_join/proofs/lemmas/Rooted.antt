-- The root of a snapshot is the nodes of its state.
use Rattle.std.proofs.Common.{◌≡◌, refl, Option, Some, None}
use Rattle.flat_scene.specs.declared.trees.Node.{Node}
use Rattle.flat_snap.specs.Flat.{rooted}
use Rattle.flat_topology.specs.Shown.{root_alone}

pub rooted-alone : (root : Option Node) → rooted root ≡ root_alone root
rooted-alone None = refl
rooted-alone (Some root) = refl
