-- The streams of pointers: to which session each pointer's lines go, from a Down to the end.
use Rattle.std.specs.Prelude.{if◌then◌else◌, List, [], ◌∷◌, Option, Some, None}
use Rattle.std.specs.Option.{option_map_or, option_or}
use Rattle.flat_base.specs.declared.ids.SessionNo.{SessionNo}
use Rattle.flat_scene.specs.declared.frames.Hit.{Hit}
use Rattle.flat_scene.specs.declared.frames.ViewNode.{ViewNode}
use Rattle.flat_scene.specs.ViewTrees.{is_node}
use Rattle.flat_pointer.specs.declared.pointers.PointerAnswer.{PointerAnswer}
use Rattle.flat_pointer.specs.declared.pointers.PointerAnswer.TheVariants.{Down, Moved, Up, Nobody, Busy}

-- ---- one pointer

-- the session that is hit first
abbrev pub first_hit : List Hit → Option SessionNo
first_hit [] = None
first_hit (hit ∷ later) = Some hit.session

-- the answer to a Down, where this is the stream:
-- busy where there is one, else the session that is hit first, or nobody
abbrev pub down_answer : Option SessionNo → List Hit → PointerAnswer
down_answer (Some s) hits = Busy
down_answer None hits = option_map_or Down (first_hit hits) Nobody

-- the stream after it
abbrev pub after_down : Option SessionNo → List Hit → Option SessionNo
after_down stream hits = option_or stream (first_hit hits)

-- the answer to a Move, and to an Up, which ends the stream
abbrev pub move_answer : Option SessionNo → PointerAnswer
move_answer stream = option_map_or Moved stream Nobody

abbrev pub up_answer : Option SessionNo → PointerAnswer
up_answer stream = option_map_or Up stream Nobody

-- the stream after a frame with these nodes, and whose it was where the frame ended it
abbrev pub kept_in : List ViewNode → Option SessionNo → Option SessionNo
kept_in nodes None = None
kept_in nodes (Some s) = if is_node nodes s then Some s else None

abbrev pub cancelled_in : List ViewNode → Option SessionNo → Option SessionNo
cancelled_in nodes None = None
cancelled_in nodes (Some s) = if is_node nodes s then None else Some s

-- ---- all pointers
