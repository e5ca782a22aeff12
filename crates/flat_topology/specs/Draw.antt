-- What is drawn, in order.
use Rattle.std.specs.Prelude.{ℕ, ◌||◌, ◌==◌, if◌then◌else◌, List, Option, Some, None, slice_index, filter_map}
use Rattle.flat_base.specs.declared.limits.TheConstants.{COLOUR_MAX}
use Rattle.flat_base.specs.declared.shapes.Rect.{Rect}
use Rattle.flat_geom.specs.declared.matrix.Matrix.{Matrix}
use Rattle.flat_geom.specs.Rectangles.{mapped_rect, shared_part, has_no_point, sized_rect}
use Rattle.flat_scene.specs.declared.calls.BlendMode.{BlendMode}
use Rattle.flat_scene.specs.declared.calls.BlendMode.TheVariants.{Src, SrcOver}
use Rattle.flat_scene.specs.declared.frames.DrawItem.{DrawItem}
use Rattle.flat_scene.specs.declared.frames.Paint.{Paint}
use Rattle.flat_scene.specs.declared.frames.Paint.TheVariants as paint
use Rattle.flat_scene.specs.declared.frames.SceneMatrix.{SceneMatrix}
use Rattle.flat_scene.specs.declared.setup.Setup.{Setup}
use Rattle.flat_scene.specs.declared.trees.Content.{Content}
use Rattle.flat_scene.specs.declared.trees.Content.TheVariants as content
use Rattle.flat_topology.specs.declared.PlacedNode.{PlacedNode}
use Rattle.flat_topology.specs.Shown.{Shown}
use Rattle.flat_topology.specs.Place.{seen_through, placed_nodes}

-- a matrix, as draw items have it
abbrev pub scene_matrix : Matrix → SceneMatrix
scene_matrix m = record { swap = m.swap; a = m.a; b = m.b; x = m.x; y = m.y }

-- a colour whose alpha is full replaces what is below, and any other is laid over it
abbrev pub blend_of_colour : List ℕ → BlendMode
blend_of_colour rgba = if slice_index rgba 3 == COLOUR_MAX then Src else SrcOver

-- what a content paints: its serial number, its paint, its size in units, its own opacity seen through its node's,
-- and its blend mode
pub record Painting : Type 0 where
  pub serial : ℕ
  pub paint : Paint
  pub w : ℕ
  pub h : ℕ
  pub opacity : ℕ
  pub blend : BlendMode

-- what the content of a node of that opacity paints; a viewport paints nothing
abbrev pub painting_of : ℕ → Option Content → Option Painting
painting_of seen (Some (content.Fill serial rgba w h)) =
    Some (record {
      serial = serial;
      paint = paint.Fill rgba;
      w = w;
      h = h;
      opacity = seen;
      blend = blend_of_colour rgba;
    })
painting_of seen (Some (content.Image serial buffers index sample w h blend flip opacity)) =
    Some (record {
      serial = serial;
      paint = paint.Image buffers index sample flip;
      w = w;
      h = h;
      opacity = seen_through seen opacity;
      blend = blend;
    })
painting_of seen _ = None

-- the part of the display that a rectangle of that size covers at a node
abbrev pub visible_rect : PlacedNode → ℕ → ℕ → Rect
visible_rect at w h = shared_part (mapped_rect at.matrix (sized_rect w h)) at.clip

-- the item of a painting at a node that is not cut away and whose own opacity is not 0
abbrev pub item_of : PlacedNode → Option Painting → Option DrawItem
item_of at None = None
item_of at (Some p) =
    if has_no_point (visible_rect at p.w p.h) || (at.opacity == 0) then None else Some (record {
      session = at.session;
      serial = p.serial;
      paint = p.paint;
      w = p.w;
      h = p.h;
      matrix = scene_matrix at.matrix;
      visible = visible_rect at p.w p.h;
      opacity = p.opacity;
      blend = p.blend;
    })

-- the item that a node gives, if it gives one
abbrev pub node_item : PlacedNode → Option DrawItem
node_item at = item_of at (painting_of at.opacity at.content)

-- the items of placed nodes, in their order
abbrev pub items_of : List PlacedNode → List DrawItem
items_of = filter_map node_item

-- the draw list
abbrev pub draw_list : Setup → Shown → List DrawItem
draw_list setup shown = items_of (placed_nodes setup shown)
