-- When the nodes of a view tree are a tree.
use Rattle.std.specs.Prelude.{◌==◌, Bool, List}
use Rattle.std.specs.List.{list_any}
use Rattle.flat_base.specs.declared.ids.SessionNo.{SessionNo}
use Rattle.flat_scene.specs.declared.frames.ViewNode.{ViewNode}

-- whether a session is one of the nodes
abbrev pub is_node : List ViewNode → SessionNo → Bool
is_node nodes s = list_any (λ node. node.session.0 == s.0) nodes
