-- What contracts see of a draft.
use Rattle.std.specs.Prelude.{Bool, true, false, List, Option, None}
use Rattle.flat_base.specs.declared.ids.PairNo.{PairNo}
use Rattle.flat_scene.specs.declared.setup.BufferDecl.{BufferDecl}
use Rattle.flat_graph.specs.State as graph
use Rattle.flat_graph.specs.State.{GraphState, empty_graph}
use Rattle.flat_content.specs.Table.{TableState, cleared, empty_table}

-- the transforms, the contents, the pair of the view, and whether a misuse closed it
pub record DraftState : Type 0 where
  pub graph : GraphState
  pub contents : TableState
  pub view : Option PairNo
  pub closed : Bool

-- the draft of a session that made no call and may make images of these collections
abbrev pub empty_state : List BufferDecl → DraftState
empty_state buffers = record { graph = empty_graph; contents = empty_table buffers; view = None; closed = false }

-- the same, closed by a misuse
abbrev pub closed : DraftState → DraftState
closed state = record state { closed = true }

-- the draft after a Clear: the contents and the counts stay
abbrev pub emptied : DraftState → DraftState
emptied state = record state { graph = graph.emptied state.graph; contents = cleared state.contents; view = None }
