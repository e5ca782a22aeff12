-- How a draft's parts stand for the draft of the rules.
use Rattle.std.specs.Prelude.{◌≡◌, false, List, Ok}
use Rattle.flat_scene.specs.declared.calls.Call.{Call}
use Rattle.flat_scene.specs.declared.setup.Setup.{Setup}
use Rattle.flat_scene.specs.Draft.{Draft}
use Rattle.flat_scene.specs.Effect.{draft_of}
use Rattle.flat_graph.specs.Stands as graph
use Rattle.flat_content.specs.Stands as content
use Rattle.flat_draft.specs.State.{DraftState}

-- the graph has its transforms, the table its contents, and the view is the same
pub record StandsFor (setup : Setup) (state : DraftState) (draft : Draft) : Type 0 where
  pub graph : graph.StandsFor state.graph draft
  pub contents : content.StandsFor setup state.contents draft
  pub view : state.view ≡ draft.view

-- Calls made a draft, for which the state stands, and none was a misuse.
pub record IsAfter (setup : Setup) (calls : List Call) (state : DraftState) : Type 0 where
  pub draft : Draft
  pub made : draft_of setup calls ≡ Ok draft
  pub stands : StandsFor setup state draft
  pub still_open : state.closed ≡ false
