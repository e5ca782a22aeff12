-- The views of each finished frame are a tree, and no more than there are sessions.
use Rattle.std.proofs.Common.{◌≡◌, ℕ, suc, ◌≤◌, Bool, true, false, cond, List, [], ◌∷◌, length, refl, subst, arith}
use Rattle.std.specs.Prelude.{IsTrue, nat_le}
use Rattle.std.specs.List.{list_all}
use Rattle.std.proofs.lemmas.Bool.Decides.{nat_tests}
use Rattle.flat_base.proofs.lemmas.Tests.{and-true}
use Rattle.flat_scene.specs.declared.frames.FrameOut.{FrameOut}
use Rattle.flat_scene.specs.declared.journal.Entry.{Entry}
use Rattle.flat_scene.specs.declared.setup.Setup.{Setup}
use Rattle.flat_scene.specs.History.{◌▹◌, is_finish}
use Rattle.flat_scene.specs.ViewShapes.{is_tree}
use Rattle.flat_core.specs.Machines.{Machine}
use Rattle.flat_rules.specs.Ends.{to_begin}
use Rattle.flat_rules.specs.Laws.{BegunStatesFit, EachSessionHasOneState}
use Rattle.flat_rules.specs.Legal.{Legal, frames}
use Rattle.flat_scene.specs.Frames.{ratio, setup_at}
use Rattle.flat_rules.specs.Shown.{shown_states}
use Rattle.flat_topology.proofs.lemmas.Ratios.{fits-at}
use Rattle.flat_rules.proofs.lemmas.AllOrSome.{all-append}
use Rattle.flat_places.specs.declared.script.Script.{Script}
use Rattle.flat_report.specs.declared.report.HitAnswer.{HitAnswer}
use Rattle.flat_report.specs.Report.{finished, frame_at}
use Rattle.flat_topology.specs.Shown.{Shown}
use Rattle.flat_topology.specs.Views.{view_nodes}
use Rattle.flat_tree.specs.Laws.{ViewsAreATree, ViewsAreFew}
use Rattle.flat_play.specs.declared.kept_frames.KeptFrames.{KeptFrames}
use Rattle.flat_play.specs.Playing.{HasPlayed}

-- ---- all finished frames of a legal history

-- a test that the frame of each begin passes
module _ (setup : Setup) (test : FrameOut → Bool) (passes : (n : ℕ) (before : List Entry) → Legal setup before
    → test (frame_at setup n (to_begin before)) ≡ true) where
  one-frame : (finish : Bool) (n : ℕ) (before : List Entry) → Legal setup before
      → list_all test (cond finish (frame_at setup n (to_begin before) ∷ []) []) ≡ true
  one-frame true n before legal = and-true (passes n before legal) refl
  one-frame false n before legal = refl

  pub all-finished : (history : List Entry) → Legal setup history → list_all test (finished setup history) ≡ true
  all-finished [] legal = refl
  all-finished (before ▹ entry) legal =
      all-append test (finished setup before) (cond (is_finish entry.kind) (frame_at setup (suc (frames before)) (to_begin before) ∷ []) [])
      (all-finished before legal.0) (one-frame (is_finish entry.kind) (suc (frames before)) before legal.0)

within : (views states sessions : ℕ) → views ≤ states → states ≡ sessions → nat_le views sessions ≡ true
within views states sessions below each = grind (arith, nat_tests)

-- the views are a tree
pub trees-finished : ViewsAreATree → BegunStatesFit → (setup : Setup) (history : List Entry) → Legal setup history
    → IsTrue (list_all (λ out. is_tree out.tree.nodes) (finished setup history))
trees-finished tree begun setup history legal =
    all-finished setup (λ (out : FrameOut). is_tree out.tree.nodes)
    (λ n before before_legal. tree (setup_at setup (to_begin before)) (shown_states setup (to_begin before))
    (fits-at (ratio setup (to_begin before)) setup (shown_states setup (to_begin before)) (begun setup before before_legal))) history legal

-- and no more than there are sessions
pub few-finished : ViewsAreFew → BegunStatesFit → EachSessionHasOneState → (setup : Setup) (history : List Entry) → Legal setup history
    → IsTrue (list_all (λ out. nat_le (length out.tree.nodes) setup.sessions) (finished setup history))
few-finished few begun each setup history legal =
    all-finished setup (λ (out : FrameOut). nat_le (length out.tree.nodes) setup.sessions)
    (λ n before before_legal.
    let shown : Shown = shown_states setup (to_begin before) in
    let there : Setup = setup_at setup (to_begin before) in
    within (length (view_nodes there shown)) (length shown) setup.sessions
    (few there shown (fits-at (ratio setup (to_begin before)) setup shown (begun setup before before_legal))) (each setup (to_begin before)))
    history legal

-- ---- the frames of a script that was played

module _ (script : Script) (board : Machine) (kept : KeptFrames) (answers : List HitAnswer) (played : HasPlayed script board kept answers)
    (legal : Legal board.setup board.history) where
  legal_here : Legal script.setup board.history
  legal_here = let L : Setup → Type 0 = λ setup. Legal setup board.history in subst L played.setup legal

  pub trees-played : ViewsAreATree → BegunStatesFit → IsTrue (list_all (λ out. is_tree out.tree.nodes) (finished script.setup board.history))
  trees-played tree begun = trees-finished tree begun script.setup board.history legal_here

  pub few-played : ViewsAreFew → BegunStatesFit → EachSessionHasOneState
      → IsTrue (list_all (λ out. nat_le (length out.tree.nodes) script.setup.sessions) (finished script.setup board.history))
  few-played few begun each = few-finished few begun each script.setup board.history legal_here
