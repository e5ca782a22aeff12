-- What a race publishes to its probes.
use Rattle.std.specs.Prelude.{◌≡◌, ◌⊎◌, ℕ, ℤ, suc, ◌<◌, ◌≤◌, ◌==◌, cond, List, [], ◌∷◌, ◌++◌}
use Rattle.flat_scene.specs.declared.frames.Hit.{Hit}
use Rattle.flat_scene.specs.declared.journal.Entry.{Entry}
use Rattle.flat_scene.specs.declared.setup.Setup.{Setup}
use Rattle.flat_scene.specs.Frames.{setup_at}
use Rattle.flat_scene.specs.History.{◌▹◌, is_finish}
use Rattle.flat_scene.specs.Setups.{at_ratio}
use Rattle.flat_rules.specs.Ends.{to_begin, to_finished}
use Rattle.flat_rules.specs.Legal.{frames}
use Rattle.flat_rules.specs.Shown.{shown_states}
use Rattle.flat_topology.specs.Connected.{joined_lists}
use Rattle.flat_topology.specs.Hits.{hits_among}
use Rattle.flat_places.specs.declared.script.Script.{Script}
use Rattle.flat_publish.specs.declared.frame.Frame.{Frame}
use Rattle.flat_publish.specs.Frames.{frame}
use Rattle.flat_publish.specs.State as publish
use Rattle.flat_publish.specs.State.{Publishes}
use Rattle.flat_play.specs.declared.frame.LastFrame.{LastFrame}

-- ---- frames

-- the frame of a number, which joins what is shown at a begin, at the pixel ratio by then
abbrev pub shown_frame : Setup → ℕ → List Entry → Frame
shown_frame setup n begun = frame n (joined_lists (setup_at setup begun) (shown_states setup begun))

-- all finished frames, in order, as they are published
abbrev pub published_frames : Setup → List Entry → List Frame
published_frames setup [] = []
published_frames setup (before ▹ entry) =
    published_frames setup before ++ cond (is_finish entry.kind)
    (shown_frame setup (suc (frames before)) (to_begin before) ∷ []) []

-- who is hit at a point in the frame of a number among these; nobody where there is none of it
abbrev pub hits_of : List Frame → ℕ → ℤ → ℤ → List Hit
hits_of [] n x y = []
hits_of (one ∷ later) n x y = cond (one.number.0 == n) (hits_among one.joined.nodes x y) (hits_of later n x y)

-- ---- what is published

-- All finished frames of a history are published, where the script has probes; and no frame is on its way.
pub record PublishedStand (script : Script) (history : List Entry) (published : publish.Publishing) : Type 0 where
  pub given : published.given ≤ frames history
  pub none_refused : published.refused ≡ []
  pub are : 0 < script.setup.probes → published.frames ≡ published_frames script.setup history

-- A line of the display leaves the finished frames as they were, or the one that is finished last comes behind them.
abbrev pub FinishesOne : Setup → List Entry → List Entry → Type 0
FinishesOne setup before after =
    ((frames after ≡ frames before) × (published_frames setup after ≡ published_frames setup before))
    ⊎ ((frames after ≡ suc (frames before))
    × (published_frames setup after ≡ published_frames setup before
    ++ shown_frame setup (frames after) (to_finished after) ∷ []))

-- The last frame is published where it is a later one than that of this number and there are probes; else all stays.
abbrev pub PublishesLast : Setup → ℕ → LastFrame → publish.Publishing → publish.Publishing → Type 0
PublishesLast setup before last old new =
    ((new ≡ old) × ((setup.probes ≡ 0) ⊎ (last.frame.0 ≤ before)))
    ⊎ ((before < last.frame.0) × (new.given ≡ last.frame.0)
    × Publishes old (frame last.frame.0 (joined_lists (at_ratio last.ratio setup) last.reuse)) new)
