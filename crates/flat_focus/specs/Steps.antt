-- How the focus goes on from what is kept of it.
use Rattle.std.specs.Prelude.{ℕ, ◌==◌, if◌then◌else◌, List, [], ◌∷◌, Option, Some, None}
use Rattle.flat_base.specs.declared.ids.SessionNo.{SessionNo}
use Rattle.flat_scene.specs.declared.frames.ViewNode.{ViewNode}
use Rattle.flat_focus.specs.Chains.{Focusing, chain_in, is_granted, path_to, answer_to}
use Rattle.flat_page.specs.Happenings.{Happening, finished, said}
use Rattle.flat_places.specs.Forms.{Word}
use Rattle.flat_focus.specs.declared.text.FocusLine.{FocusLine}
use Rattle.flat_focus.specs.Events.{frame}
use Rattle.flat_focus.specs.Text.{ask_line, frame_line}

-- on the way up to the root the next session is looked for:
-- the session of a node, if it is the next one, and who is the next one then
abbrev pub on_the_way : ViewNode → Option SessionNo → List SessionNo
on_the_way node None = []
on_the_way node (Some s) = if node.session.0 == s.0 then node.session ∷ [] else []

abbrev pub way_on : ViewNode → Option SessionNo → Option SessionNo
way_on node None = None
way_on node (Some s) = if node.session.0 == s.0 then node.parent else Some s

-- before the first frame
abbrev pub unfocused : ℕ → Focusing
unfocused sessions = record { sessions = sessions; nodes = []; chain = [] }

-- after a frame with these nodes
abbrev pub framed : List ViewNode → Focusing → Focusing
framed nodes focus = record focus { nodes = nodes; chain = chain_in nodes focus.chain }

-- after it asked
abbrev pub asked : SessionNo → SessionNo → Focusing → Focusing
asked by of focus = record focus {
  chain = if is_granted focus.nodes by of then path_to focus.nodes of else
      focus.chain;
}

-- what is kept after one thing more
abbrev pub after : Happening FocusLine → Focusing → Focusing
after (finished out) focus = framed out.tree.nodes focus
after (said line) focus = asked line.by line.of focus

-- what is written of it
abbrev pub lines_with : List Word → Focusing → Happening FocusLine → List (List Word)
lines_with names focus (finished out) = frame_line names out.frame.0 (framed out.tree.nodes focus).chain ∷ []
lines_with names focus (said line) = ask_line names line (answer_to focus.nodes line.by line.of)
    (asked line.by line.of focus).chain ∷ []
