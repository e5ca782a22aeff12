-- Lines of the display that begin no frame and end none.
use Rattle.std.proofs.Common.{◌≡◌, true, refl, sym, ap, ◌∙◌, subst}
use Rattle.flat_base.specs.declared.ids.Actor.TheVariants.{Display}
use Rattle.flat_scene.specs.declared.journal.EntryKind.{EntryKind}
use Rattle.flat_scene.specs.declared.journal.EntryKind.TheVariants.{Wait}
use Rattle.flat_scene.specs.declared.script.WaitCondition.{WaitCondition}
use Rattle.flat_scene.specs.declared.script.WaitCondition.TheVariants as asks
use Rattle.flat_scene.specs.declared.script.DisplayLine.{DisplayLine}
use Rattle.flat_scene.specs.declared.script.DisplayLine.TheVariants as display
use Rattle.flat_scene.specs.declared.setup.Setup.{Setup}
use Rattle.flat_scene.specs.Interleave.{entry_of_display}
use Rattle.flat_core.specs.Machines.{MayLook}
use Rattle.flat_rules.specs.Legal.{display_may, names_declared}
use Rattle.flat_rules.specs.Owned.{is_played_display}
use Rattle.flat_stage.specs.Displays.{DisplaySees, DisplayView, HasDisplayRoom}
use Rattle.flat_stage.specs.Seats.{StageView, setup_of}
use Rattle.flat_core.specs.Starts.{is_beside}

-- what the display may wait for
wait_fits : (setup : Setup) (c : WaitCondition) → is_played_display setup (display.Wait c) ≡ true
    → (display_may (Wait c) ≡ true) × (names_declared setup (Wait c) ≡ true)
wait_fits setup (asks.Presents s n) played = (refl, played)
wait_fits setup (asks.Fence f) played = (refl, played)
wait_fits setup (asks.Frames n) played = absurd (cc)
wait_fits setup (asks.Credits n) played = absurd (cc)
wait_fits setup (asks.Taken n) played = absurd (cc)
wait_fits setup (asks.Answers n) played = absurd (cc)

-- and what it may enter
pub beside_fits : (setup : Setup) (text : DisplayLine) → is_beside text ≡ true → is_played_display setup text ≡ true
    → (display_may (entry_of_display text) ≡ true) × (names_declared setup (entry_of_display text) ≡ true)
beside_fits setup (display.Begin time) beside played = absurd (cc)
beside_fits setup display.Done beside played = absurd (cc)
beside_fits setup (display.Signal f) beside played = (refl, played)
beside_fits setup (display.Wait c) beside played = wait_fits setup c played
beside_fits setup (display.Hit x y) beside played = (refl, refl)
beside_fits setup (display.Dpr ratio) beside played = (refl, played)

-- where it may enter a wait, it may look
pub may_wait : (setup : Setup) (text : DisplayLine) (c : WaitCondition) → text ≡ display.Wait c → display_may (entry_of_display text) ≡ true
    → names_declared setup (entry_of_display text) ≡ true → MayLook setup Display c
may_wait setup text c is acts named =
    let A : DisplayLine → Type 0 = λ t. display_may (entry_of_display t) ≡ true in
    let N : DisplayLine → Type 0 = λ t. names_declared setup (entry_of_display t) ≡ true in
    record { acts = subst A is acts; named = subst N is named }

-- a seat that has seen more has the same room, and is of the same stage
pub room_there : (old new : DisplayView) → DisplaySees old new → HasDisplayRoom old → HasDisplayRoom new
room_there old new sees room = let R : DisplayView → Type 0 = HasDisplayRoom in subst R (sym sees.rest) room

pub named_there : (view : StageView) (kind : EntryKind) (old new : DisplayView) → DisplaySees old new → old.stage ≡ view
    → names_declared (setup_of view) kind ≡ true
    → names_declared (setup_of new.stage) kind ≡ true
named_there view kind old new sees own named =
    let N : StageView → Type 0 = λ v. names_declared (setup_of v) kind ≡ true in
    subst N (sym own ∙ sym (ap (λ (d : DisplayView). d.stage) sees.rest)) named
