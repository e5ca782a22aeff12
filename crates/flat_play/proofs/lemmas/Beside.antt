-- Lines of the display that begin no frame and end none.
use Rattle.std.proofs.Common.{◌≡◌, ℕ, Bool, true, false, [], refl}
use Rattle.flat_base.specs.declared.ids.Actor.TheVariants.{Display}
use Rattle.flat_scene.specs.declared.script.LineBody.TheVariants as body
use Rattle.flat_scene.specs.declared.script.DisplayLine.{DisplayLine}
use Rattle.flat_scene.specs.declared.script.DisplayLine.TheVariants as display
use Rattle.flat_scene.specs.History.{is_begin, is_end, is_finish}
use Rattle.flat_scene.specs.Interleave.{entry_of_display}
use Rattle.flat_core.specs.Machines.{Machine, MayCall, HasShare}
use Rattle.flat_core.proofs.lemmas.Starts.{begins-none, ends-none, no-end}
use Rattle.flat_core.specs.Starts.{is_beside}
use Rattle.flat_rules.specs.Owned.{is_played_display}
use Rattle.flat_playable.specs.Playable.{keeps_frames}
use Rattle.flat_play.proofs.lemmas.DisplaySteps.{may_dpr, may_hit, may_signal_fence, may_wait_for}

-- What such a line is.
pub record LeavesFrames (text : DisplayLine) : Type 0 where
  pub no_begin : is_begin (entry_of_display text) ≡ false
  pub no_finish : is_finish (entry_of_display text) ≡ false
  pub no_end : is_end (entry_of_display text) ≡ false
  pub keeps : (is_open : Bool) (time : ℕ) (follows : Bool → ℕ → Bool) → keeps_frames is_open time (body.Display text) follows ≡ follows is_open time

keeps_beside : (text : DisplayLine) → is_beside text ≡ true → (is_open : Bool) (time : ℕ) (follows : Bool → ℕ → Bool)
    → keeps_frames is_open time (body.Display text) follows ≡ follows is_open time
keeps_beside (display.Begin time) beside = absurd (cc)
keeps_beside display.Done beside = absurd (cc)
keeps_beside (display.Signal f) beside = λ is_open time follows. refl
keeps_beside (display.Wait c) beside = λ is_open time follows. refl
keeps_beside (display.Hit x y) beside = λ is_open time follows. refl
keeps_beside (display.Dpr ratio) beside = λ is_open time follows. refl

pub leaves_frames : (text : DisplayLine) → is_beside text ≡ true → LeavesFrames text
leaves_frames text beside = record {
  no_begin = begins-none text beside;
  no_finish = ends-none text beside;
  no_end = no-end text beside;
  keeps = keeps_beside text beside;
}

pub may_beside : (m : Machine) (text : DisplayLine) → is_beside text ≡ true → HasShare m Display → is_played_display m.setup text ≡ true
    → MayCall m Display [] (entry_of_display text)
may_beside m (display.Begin time) beside share played = absurd (cc)
may_beside m display.Done beside share played = absurd (cc)
may_beside m (display.Signal f) beside share played = may_signal_fence m f share played
may_beside m (display.Wait c) beside share played = may_wait_for m c share played
may_beside m (display.Hit x y) beside share played = may_hit m x y share
may_beside m (display.Dpr ratio) beside share played = may_dpr m ratio share played
