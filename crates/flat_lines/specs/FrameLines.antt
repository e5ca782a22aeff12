-- The lines of a frame's parts, and of the displays that were lost at it.
use Rattle.std.specs.Prelude.{ℕ, ◌==◌, pos, cond, List, [], ◌∷◌, ◌++◌, map, filter, slice_index, Option, Some, None}
use Rattle.std.specs.Prelude.{codes}
use Rattle.flat_base.specs.declared.ids.SessionNo.{SessionNo}
use Rattle.flat_base.specs.declared.shapes.Rect.{Rect}
use Rattle.flat_scene.specs.declared.calls.BlendMode.{BlendMode}
use Rattle.flat_scene.specs.declared.calls.BlendMode.TheVariants.{Src, SrcOver}
use Rattle.flat_scene.specs.declared.frames.DrawItem.{DrawItem}
use Rattle.flat_scene.specs.declared.frames.FrameOut.{FrameOut}
use Rattle.flat_scene.specs.declared.frames.LostDisplay.{LostDisplay}
use Rattle.flat_scene.specs.declared.frames.Paint.{Paint}
use Rattle.flat_scene.specs.declared.frames.Paint.TheVariants.{Fill, Image}
use Rattle.flat_scene.specs.declared.frames.SceneMatrix.{SceneMatrix}
use Rattle.flat_scene.specs.declared.frames.ViewNode.{ViewNode}
use Rattle.flat_places.specs.declared.script.Script.{Script}
use Rattle.flat_page.specs.Words.{numbers, number, session_name}
use Rattle.flat_places.specs.Forms.{Word}
use Rattle.flat_print.specs.Choices.{flip_number}
use Rattle.flat_lines.specs.Names.{buffers_name}

abbrev pub rect_words : Rect → List Word
rect_words r = numbers (r.x0 ∷ r.y0 ∷ r.x1 ∷ r.y1 ∷ [])

abbrev pub blend_word : BlendMode → Word
blend_word Src = codes "src"
blend_word SrcOver = codes "over"

-- what is painted, at which size
abbrev pub paint_words : Script → ℕ → ℕ → Paint → List Word
paint_words script w h (Fill rgba) =
    codes "fill" ∷ numbers (pos (slice_index rgba 0) ∷ pos (slice_index rgba 1) ∷ pos (slice_index rgba 2)
    ∷ pos (slice_index rgba 3) ∷ pos w ∷ pos h ∷ [])
paint_words script w h (Image buffers index sample flip) =
    codes "image" ∷ buffers_name script buffers ∷ number index ∷ codes "sample"
    ∷ numbers (sample.x ∷ sample.y ∷ sample.w ∷ sample.h ∷ [])
    ++ codes "size" ∷ number w ∷ number h ∷ codes "flip" ∷ number (flip_number flip) ∷ []

abbrev pub matrix_words : SceneMatrix → List Word
matrix_words m = codes "m" ∷ numbers (pos (cond m.swap 1 0) ∷ m.a ∷ m.b ∷ m.x ∷ m.y ∷ [])

abbrev pub item_line : Script → DrawItem → List Word
item_line script item =
    codes "item" ∷ session_name script.sessions item.session ∷ number item.serial
    ∷ paint_words script item.w item.h item.paint ++ matrix_words item.matrix
    ++ (codes "v" ∷ rect_words item.visible) ++ (codes "o" ∷ number item.opacity ∷ blend_word item.blend ∷ [])

-- the name of a view's parent, or `-`
abbrev pub parent_word : Script → Option SessionNo → Word
parent_word script (Some s) = session_name script.sessions s
parent_word script None = codes "-"

abbrev pub view_line : Script → ViewNode → List Word
view_line script view =
    codes "view" ∷ session_name script.sessions view.session ∷ parent_word script view.parent ∷ rect_words view.bounds

abbrev pub apart_line : Script → SessionNo → List Word
apart_line script s = codes "apart" ∷ session_name script.sessions s ∷ []

abbrev pub lost_line : LostDisplay → List Word
lost_line lost =
    codes "display" ∷ number lost.display ∷ codes "lost" ∷ codes "at" ∷ codes "frame" ∷ number lost.frame.0 ∷ []

-- the displays that were lost at the frame of a number
abbrev pub lost_at : ℕ → List LostDisplay → List LostDisplay
lost_at n = filter (λ lost. lost.frame.0 == n)

-- the lines of a frame: its items, its views, the sessions apart
abbrev pub frame_lines : Script → FrameOut → List (List Word)
frame_lines script frame =
    map (item_line script) frame.items ++ map (view_line script) frame.tree.nodes
    ++ map (apart_line script) frame.tree.apart
