-- What the compositor knows stands, whatever others entered.
use Rattle.std.proofs.Common.{ℕ, List, drop, sym, ap, ◌∙◌, subst}
use Rattle.flat_scene.specs.declared.journal.Entry.{Entry}
use Rattle.flat_scene.specs.Interleave.{display_lines, unread_lines, FollowsDisplay}
use Rattle.flat_rules.specs.Legal.{is_frame_open, begin_time}
use Rattle.flat_places.specs.declared.script.Script.{Script}
use Rattle.flat_playable.specs.Playable.{frames_close}
use Rattle.flat_core.specs.declared.start.FrameStart.{FrameStart}
use Rattle.flat_play.specs.Playing.{DisplayStands}
use Rattle.flat_play.specs.Storing.{FramesStand, StoreStands}
use Rattle.flat_play.specs.declared.store.FrameStore.{FrameStore}
use Rattle.flat_play.proofs.lemmas.Storing.{FinishTheSame, frames_on, stored_on}
use Rattle.flat_race.proofs.lemmas.Beside.{IsBeside}

module _ (script : Script) (before after : List Entry) (same : IsBeside script.setup before after) where
  pub display_same : (place : ℕ) → DisplayStands script place before → DisplayStands script place after
  display_same place stands =
      let F : List Entry → Type 0 = FollowsDisplay (display_lines script.lines) in
      record {
        follows = subst F (sym same.display) stands.follows;
        left = ap (λ es. unread_lines es (display_lines script.lines)) same.display ∙ stands.left;
        closing = ap (λ o. frames_close o (begin_time after) (drop place script.lines)) same.is_open
            ∙ ap (λ t. frames_close (is_frame_open before) t (drop place script.lines)) same.time ∙ stands.closing;
      }

  finish_same : FinishTheSame script.setup before after
  finish_same = record { finishing = same.finishing; number = same.number; ended = same.ended; answering = same.answering }

  pub stored_same : (store : FrameStore) → StoreStands script before store → StoreStands script after store
  stored_same store stands = stored_on script before after store finish_same stands

  pub frames_same : (start : FrameStart) (store : FrameStore) → FramesStand script before start store → FramesStand script after start store
  frames_same start store stands = frames_on script before after start store same.begun finish_same stands
