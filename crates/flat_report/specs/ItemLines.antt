-- The lines of draw items, in stretches.
use Rattle.std.specs.Prelude.{◌≡◌, ◌-◌, ℕ, List, [], map, take, drop, Option, Some, None, slice_get}
use Rattle.std.specs.Arc.{arc_value}
use Rattle.std.specs.List.{flat_map}
use Rattle.flat_scene.specs.declared.frames.DrawItem.{DrawItem}
use Rattle.flat_scene.specs.declared.frames.FrameOut.{FrameOut}
use Rattle.flat_places.specs.declared.script.Script.{Script}
use Rattle.flat_page.specs.Words.{text_of}
use Rattle.flat_report.specs.declared.item_lines.ItemLines.{ItemLines}
use Rattle.flat_report.specs.declared.item_lines.ItemChunk.{ItemChunk}
use Rattle.flat_lines.specs.FrameLines.{item_line}

-- the text of the lines of draw items
abbrev pub items_text : Script → List DrawItem → List ℕ
items_text script items = text_of (map (item_line script) items)

-- the items of a stretch of a frame
abbrev pub stretch_items : List DrawItem → ItemChunk → List DrawItem
stretch_items items stretch = take (stretch.end - stretch.start) (drop stretch.start items)

-- the text of stretches, one behind another
abbrev pub stretches_text : List ItemChunk → List ℕ
stretches_text = flat_map (λ stretch. arc_value stretch.lines)

-- Stretches have the lines of a frame's items: each those of its own, and all together those of all.
pub record HaveLines (script : Script) (items : List DrawItem) (stretches : List ItemChunk) : Type 0 where
  pub each : (k : ℕ) (stretch : ItemChunk) → slice_get stretches k ≡ Some stretch
      → arc_value stretch.lines ≡ items_text script (stretch_items items stretch)
  pub all : stretches_text stretches ≡ items_text script items

-- the draw items of a frame, if there is one
abbrev pub items_of : Option FrameOut → List DrawItem
items_of None = []
items_of (Some frame) = frame.items

-- these are the lines of the frame's items
abbrev pub AreLines : Script → ItemLines → Type 0
AreLines script lines = HaveLines script (items_of lines.frame) lines.stretches.items
