-- The compositor's seat after one more line of the script.
use Rattle.std.proofs.Common.{◌≡◌, ℕ, ◌+◌, Bool, false, List, [], ◌∷◌, length, length-append, drop, refl, sym, ap, ◌∙◌, subst, arith}
use Rattle.std.proofs.lemmas.Grind.{common_steps}
use Rattle.flat_base.specs.declared.ids.Actor.TheVariants.{Display}
use Rattle.flat_scene.specs.declared.journal.Entry.{Entry}
use Rattle.flat_scene.specs.declared.journal.EntryKind.{EntryKind}
use Rattle.flat_scene.specs.declared.journal.EntryKind.TheVariants.{Begin, Finish}
use Rattle.flat_scene.specs.declared.journal.Reply.{Reply}
use Rattle.flat_scene.specs.declared.journal.Reply.TheVariants.{Done}
use Rattle.flat_scene.specs.declared.script.LineBody.TheVariants as body
use Rattle.flat_scene.specs.declared.script.DisplayLine.{DisplayLine}
use Rattle.flat_scene.specs.declared.script.DisplayLine.TheVariants as display
use Rattle.flat_scene.specs.declared.script.ScriptLine.{ScriptLine}
use Rattle.flat_scene.specs.declared.setup.Setup.{Setup}
use Rattle.flat_scene.specs.History.{◌▹◌, is_begin, is_finish}
use Rattle.flat_scene.specs.Journals.{history_of}
use Rattle.flat_scene.specs.Interleave.{entry_of_display}
use Rattle.flat_core.specs.Machines.{entry_of}
use Rattle.flat_places.specs.declared.script.Script.{Script}
use Rattle.flat_playable.specs.Playable.{keeps_frames}
use Rattle.flat_stage.specs.Displays.{DisplayEnters, DisplayView}
use Rattle.flat_stage.specs.Seats.{MakesOne, StageView, setup_of}
use Rattle.flat_play.specs.Playing.{DisplayStands, lines_by}
use Rattle.flat_play.proofs.lemmas.DisplaySteps.{display_begin, display_done, display_beside}
use Rattle.flat_play.proofs.lemmas.Steps.{At}
use Rattle.flat_race.specs.Directing.{SeatStands}
use Rattle.flat_race.proofs.lemmas.Beside.{IsBeside, has_entered}
use Rattle.flat_race.proofs.lemmas.StillStands.{display_same}

-- A seat entered a line: what it has seen ends with the entry, and what came before it is as the seat knew it, but for others' entries.
pub record Enters (script : Script) (place : ℕ) (seat : DisplayView) (entry : Entry) (seat' : DisplayView) : Type 0 where
  pub middle : List Entry
  pub grown : history_of seat'.seen ≡ (middle ▹ entry)
  pub beside : IsBeside script.setup (history_of seat.seen) middle
  pub stood : DisplayStands script place middle

module _ (script : Script) (view : StageView) (place : ℕ) (x : ScriptLine) (at : At script place x) (is_setup : setup_of view ≡ script.setup)
    (seat seat' : DisplayView) (stands : SeatStands script view place seat) where
  one_of : (kind : EntryKind) (reply : Reply) → DisplayEnters x.number kind reply seat seat'
      → MakesOne script.setup 0 seat.seen seat.mine (entry_of Display x.number [] kind reply) seat'.seen seat'.mine
  one_of kind reply enters =
      let M : Setup → Type 0 = λ s. MakesOne s 0 seat.seen seat.mine (entry_of Display x.number [] kind reply) seat'.seen seat'.mine in
      subst M (ap setup_of stands.own ∙ is_setup) enters.one

  pub enters_as : (kind : EntryKind) (reply : Reply) → DisplayEnters x.number kind reply seat seat'
      → Enters script place seat (entry_of Display x.number [] kind reply) seat'
  enters_as kind reply enters =
      let e : Entry = entry_of Display x.number [] kind reply in
      let h = has_entered script.setup seat.seen seat.mine e seat'.seen seat'.mine refl stands.mine (one_of kind reply enters) in
      record {
        middle = h.middle;
        grown = h.grown;
        beside = h.beside;
        stood = display_same script (history_of seat.seen) h.middle h.beside place stands.display;
      }

  lines_left : x.actor ≡ Display → lines_by 0 (drop place script.lines) ≡ lines_by 0 (drop (place + 1) script.lines) + 1
  lines_left actor = ap (lines_by 0) at.left ∙ ap (λ a. lines_by 0 ((record x { actor = a }) ∷ drop (place + 1) script.lines)) actor
      ∙ grind (arith, common_steps)

  seat_more : (kind : EntryKind) (reply : Reply) → x.actor ≡ Display → (enters : DisplayEnters x.number kind reply seat seat')
      → DisplayStands script (place + 1) ((enters_as kind reply enters).middle ▹ entry_of Display x.number [] kind reply)
      → SeatStands script view (place + 1) seat'
  seat_more kind reply actor enters display_then =
      let e : Entry = entry_of Display x.number [] kind reply in
      let one = one_of kind reply enters in
      let D : List Entry → Type 0 = DisplayStands script (place + 1) in
      let longer : length seat'.mine ≡ length seat.mine + 1 = ap length one.one_more ∙ length-append seat.mine (e ∷ []) in
      let left = lines_left actor in
      record {
        own = ap (λ (d : DisplayView). d.stage) enters.rest ∙ stands.own;
        mine = one.whole;
        legal = one.legal;
        display = subst D (sym (enters_as kind reply enters).grown) display_then;
        spent = let was = stands.spent in omega (arith, was, longer, left);
      }

  pub seat_begins : (time : ℕ) → x.actor ≡ Display → x.body ≡ body.Display (display.Begin time) → DisplayEnters x.number (Begin time) Done seat seat'
      → SeatStands script view (place + 1) seat'
  seat_begins time actor is enters = seat_more (Begin time) Done actor enters
      (display_begin script place x at time is (enters_as (Begin time) Done enters).middle (enters_as (Begin time) Done enters).stood)

  pub seat_finishes : x.actor ≡ Display → x.body ≡ body.Display display.Done → DisplayEnters x.number Finish Done seat seat'
      → SeatStands script view (place + 1) seat'
  seat_finishes actor is enters = seat_more Finish Done actor enters
      (display_done script place x at is (enters_as Finish Done enters).middle (enters_as Finish Done enters).stood)

  pub seat_beside : (text : DisplayLine) (kind : EntryKind) (reply : Reply) → x.actor ≡ Display → x.body ≡ body.Display text → entry_of_display text ≡ kind
      → is_begin kind ≡ false → is_finish kind ≡ false
      → ((o : Bool) (t : ℕ) (follows : Bool → ℕ → Bool) → keeps_frames o t (body.Display text) follows ≡ follows o t)
      → DisplayEnters x.number kind reply seat seat' → SeatStands script view (place + 1) seat'
  seat_beside text kind reply actor is makes no_begin no_finish keeps enters =
      seat_more kind reply actor enters (display_beside script place x at text kind reply is makes no_begin no_finish keeps (enters_as kind reply enters).middle
      (enters_as kind reply enters).stood)
