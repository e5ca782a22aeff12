-- What a frame starts with hangs on the last begin alone, and lines beside frames leave it.
use Rattle.std.proofs.Common.{◌≡◌, ◌∙◌, true, false, List, refl, ap, subst}
use Rattle.flat_scene.specs.declared.journal.Entry.{Entry}
use Rattle.flat_scene.specs.declared.script.DisplayLine.{DisplayLine}
use Rattle.flat_scene.specs.declared.script.DisplayLine.TheVariants as display
use Rattle.flat_scene.specs.declared.setup.Setup.{Setup}
use Rattle.flat_scene.specs.Frames.{ratio}
use Rattle.flat_scene.specs.History.{is_begin, is_end, is_finish}
use Rattle.flat_scene.specs.Interleave.{entry_of_display}
use Rattle.flat_rules.specs.Ends.{to_begin}
use Rattle.flat_rules.specs.Shown.{shown_states}
use Rattle.flat_core.specs.declared.start.FrameStart.{FrameStart}
use Rattle.flat_core.specs.Starts.{IsStart, is_beside}
use Rattle.flat_core.specs.Views.{AreViewed}

-- what a frame starts with is that of the last begin, whatever came after it
pub start-same : (setup setup' : Setup) (history history' : List Entry) (start : FrameStart) → setup ≡ setup' → to_begin history ≡ to_begin history'
    → IsStart setup history start → IsStart setup' history' start
start-same setup setup' history history' start same_setup same_begin is =
    let S : Setup → Type 0 = λ s. AreViewed s (to_begin history) start.with_view in
    let H : List Entry → Type 0 = λ h. AreViewed setup' h start.with_view in
    record {
      shows = is.shows ∙ ap (λ s. shown_states s (to_begin history)) same_setup ∙ ap (shown_states setup') same_begin;
      scales = is.scales ∙ ap (λ s. ratio s (to_begin history)) same_setup ∙ ap (ratio setup') same_begin;
      views = subst H same_begin (subst S same_setup is.views);
    }

-- a line beside frames begins none
pub begins-none : (text : DisplayLine) → is_beside text ≡ true → is_begin (entry_of_display text) ≡ false
begins-none (display.Begin time) beside = absurd (cc)
begins-none display.Done beside = refl
begins-none (display.Signal f) beside = refl
begins-none (display.Wait c) beside = refl
begins-none (display.Hit x y) beside = refl
begins-none (display.Dpr ratio) beside = refl

-- ends none
pub ends-none : (text : DisplayLine) → is_beside text ≡ true → is_finish (entry_of_display text) ≡ false
ends-none (display.Begin time) beside = refl
ends-none display.Done beside = absurd (cc)
ends-none (display.Signal f) beside = refl
ends-none (display.Wait c) beside = refl
ends-none (display.Hit x y) beside = refl
ends-none (display.Dpr ratio) beside = refl

-- and ends no session
pub no-end : (text : DisplayLine) → is_beside text ≡ true → is_end (entry_of_display text) ≡ false
no-end (display.Begin time) beside = refl
no-end display.Done beside = refl
no-end (display.Signal f) beside = refl
no-end (display.Wait c) beside = refl
no-end (display.Hit x y) beside = refl
no-end (display.Dpr ratio) beside = refl
