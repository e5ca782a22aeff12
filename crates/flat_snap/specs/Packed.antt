-- Nodes whose hit regions lie in one list of the regions of all of them.
use Rattle.std.specs.Prelude.{ℕ, ◌≤◌, List, map}
use Rattle.std.specs.List.{slice_range}
use Rattle.flat_scene.specs.declared.calls.HitRegion.{HitRegion}
use Rattle.flat_snap.specs.declared.flat.Part.{Part}
use Rattle.flat_snap.specs.declared.flat.PackedNode.{PackedNode}
use Rattle.flat_snap.specs.Flat.{FlatNode}

-- The regions of a node lie in a list of this length.
pub record IsWithin (size : ℕ) (n : PackedNode) : Type 0 where
  pub order : n.hits.start ≤ n.hits.end
  pub within : n.hits.end ≤ size

-- a node with its regions
abbrev pub unpacked : List HitRegion → PackedNode → FlatNode
unpacked regions n = record {
  serial = n.serial;
  scale = n.scale;
  turn = n.turn;
  place = n.place;
  clip = n.clip;
  opacity = n.opacity;
  hits = slice_range regions n.hits.start n.hits.end;
  content = n.content;
  end = n.end;
}

-- all nodes with their regions
abbrev pub unpacked_all : List HitRegion → List PackedNode → List FlatNode
unpacked_all regions = map (unpacked regions)

-- a node that has no end yet, with its regions on this part
abbrev pub unfinished : FlatNode → Part → PackedNode
unfinished n hits = record {
  serial = n.serial;
  scale = n.scale;
  turn = n.turn;
  place = n.place;
  clip = n.clip;
  opacity = n.opacity;
  hits = hits;
  content = n.content;
  end = 0;
}
