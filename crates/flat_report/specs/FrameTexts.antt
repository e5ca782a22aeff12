-- The texts of finished frames.
use Rattle.std.specs.Prelude.{◌≡◌, ◌++◌, ℕ, List, map}
use Rattle.flat_base.specs.Last.{last_item}
use Rattle.flat_base.specs.declared.ids.FrameNo.{FrameNo}
use Rattle.flat_scene.specs.declared.frames.FrameOut.{FrameOut}
use Rattle.flat_scene.specs.declared.frames.ViewTree.{ViewTree}
use Rattle.flat_places.specs.declared.script.Script.{Script}
use Rattle.flat_page.specs.Words.{text_of}
use Rattle.flat_report.specs.declared.frame_texts.FrameTexts.{FrameTexts}
use Rattle.flat_lines.specs.FrameLines.{apart_line, frame_lines, view_line}
use Rattle.flat_report.specs.ItemLines.{AreLines}

-- the text of a frame's own lines
abbrev pub frame_text : Script → FrameOut → List ℕ
frame_text script frame = text_of (frame_lines script frame)

-- the text of a view tree's lines
abbrev pub tree_text : Script → ViewTree → List ℕ
tree_text script tree = text_of (map (view_line script) tree.nodes ++ map (apart_line script) tree.apart)

-- the frame of a number and with a view tree that has the items of another
abbrev pub unchanged : FrameNo → ViewTree → FrameOut → FrameOut
unchanged number tree last = record last { frame = number; tree = tree }

-- Some frames were written: these are their texts; the last one is kept, and the lines of its items.
pub record AreTexts (script : Script) (frames : List FrameOut) (written : FrameTexts) : Type 0 where
  pub texts : written.texts.items ≡ map (frame_text script) frames
  pub last : written.last.frame ≡ last_item frames
  pub lines : AreLines script written.last
