-- The whole compositor after one more line of the script.
use Rattle.std.proofs.Common.{◌≡◌, ℕ, ◌+◌, ◌<◌, ◌≤◌, Bool, true, false, cond, not, nat_le, ◌==◌, List, [], ◌∷◌, ◌++◌, length, drop, slice_get, slice_index}
use Rattle.std.proofs.Common.{Option, Some, suc, refl, sym, ap, ◌∙◌, subst, arith}
use Rattle.std.proofs.lemmas.Bool.Decides.{nat_tests}
use Rattle.std.proofs.lemmas.Grind.{common_steps}
use Rattle.std.proofs.lemmas.List.{length-reverse}
use Rattle.std.proofs.lemmas.List.Sums.{length-filter}
use Rattle.flat_base.specs.declared.ids.Actor.{Actor}
use Rattle.flat_base.specs.declared.ids.Actor.TheVariants.{Display, Session, Probe}
use Rattle.flat_base.specs.declared.limits.TheConstants.{SESSIONS_MAX}
use Rattle.flat_scene.specs.declared.frames.FrameOut.{FrameOut}
use Rattle.flat_scene.specs.declared.frames.LostDisplay.{LostDisplay}
use Rattle.flat_scene.specs.declared.journal.Entry.{Entry}
use Rattle.flat_scene.specs.declared.journal.EntryKind.{EntryKind}
use Rattle.flat_scene.specs.declared.journal.EntryKind.TheVariants.{Begin, Finish}
use Rattle.flat_scene.specs.declared.journal.Reply.{Reply}
use Rattle.flat_scene.specs.declared.journal.Reply.TheVariants.{Done}
use Rattle.flat_scene.specs.declared.script.LineBody.{LineBody}
use Rattle.flat_scene.specs.declared.script.LineBody.TheVariants as body
use Rattle.flat_scene.specs.declared.script.DisplayLine.{DisplayLine}
use Rattle.flat_scene.specs.declared.script.DisplayLine.TheVariants as display
use Rattle.flat_scene.specs.declared.script.ScriptLine.{ScriptLine}
use Rattle.flat_scene.specs.declared.setup.Setup.{Setup}
use Rattle.flat_scene.specs.History.{◌▹◌, is_finish}
use Rattle.flat_scene.specs.Journals.{history_of, seat_number}
use Rattle.flat_scene.specs.Interleave.{entry_of_display}
use Rattle.flat_core.specs.Machines.{entry_of, made}
use Rattle.flat_core.specs.Starts.{IsStart, StartsFrame, is_beside}
use Rattle.flat_core.specs.declared.start.FrameStart.{FrameStart}
use Rattle.flat_rules.specs.Ends.{to_begin}
use Rattle.flat_rules.specs.Legal.{Legal, is_frame_open, begin_time, frames}
use Rattle.flat_rules.specs.Seats.{DisplayKnowsFrames, JournalsKeepSeats, SeatsTellActors, of_seat}
use Rattle.flat_report.specs.Report.{finished, frame_at}
use Rattle.flat_places.specs.declared.script.Script.{Script}
use Rattle.flat_playable.specs.Playable.{is_playable, is_played}
use Rattle.flat_stage.specs.Displays.{CompositorView, DisplayEnters, DisplayView, EndsFrame, HasDisplayRoom, IsNewCompositor, KeepsStart}
use Rattle.flat_stage.specs.Seats.{StageView, setup_of, entries_of_seat}
use Rattle.flat_stage.specs.Seats as stage
use Rattle.flat_play.specs.Keeping.{KeepsMore}
use Rattle.flat_play.specs.Last.{StaysLast}
use Rattle.flat_play.specs.Playing.{DisplayStands, lines_by}
use Rattle.flat_play.specs.Storing.{AnswersLine, FinishesNext, FramesStand}
use Rattle.flat_play.specs.declared.store.FrameStore.{FrameStore}
use Rattle.flat_play.proofs.lemmas.Beside.{leaves_frames}
use Rattle.flat_play.proofs.lemmas.DisplaySteps.{begin_time_ok, display_probe, display_session, done_ok, finished-beside}
use Rattle.flat_play.proofs.lemmas.DisplaySteps as quiet
use Rattle.flat_play.proofs.lemmas.FramesShown.{few_frames}
use Rattle.flat_play.proofs.lemmas.Storing.{frames_begin, frames_done, frames_line, frames_none, frames_stay, stays_stored}
use Rattle.flat_display.specs.Lost.{Driven}
use Rattle.flat_play.specs.Showing.{HaveSeen, IsShown}
use Rattle.flat_play.proofs.lemmas.Starting.{by_at_most, few, first_display}
use Rattle.flat_play.proofs.lemmas.Steps.{At}
use Rattle.flat_race.specs.declared.race_frames.RaceFrames.{RaceFrames}
use Rattle.flat_race.specs.Directing.{CompositorStands, FilmStands, HasLooked, SeatStands}
use Rattle.flat_race.specs.Sessions.{IsStageOf}
use Rattle.flat_base.proofs.lemmas.Tests.{and-left, and-right}
use Rattle.flat_race.proofs.lemmas.Beside.{IsBeside, seen_beside}
use Rattle.flat_race.specs.Publishing.{FinishesOne}
use Rattle.flat_race.proofs.Finishing.{finishes_one}
use Rattle.flat_race.proofs.lemmas.StillStands.{display_same, frames_same}
use Rattle.flat_race.proofs.DirectSteps.{Enters, enters_as, seat_begins, seat_beside, seat_finishes}

closed_then : (b : Bool) → not b ≡ true → b ≡ false
closed_then true closed = absurd (let wrong : false ≡ true = closed in cc)
closed_then false closed = refl

-- the frame that an open one becomes is the next finished one, whatever sessions entered in between
next_number : (setup : Setup) (before middle : List Entry) → IsBeside setup before middle
    → frame_at setup (frames middle + 1) (to_begin middle) ≡ frame_at setup (frames before + 1) (to_begin before)
next_number setup before middle same = ap (λ (n : ℕ). frame_at setup (n + 1) (to_begin middle)) same.number
    ∙ ap (λ (h : List Entry). frame_at setup (frames before + 1) h) same.begun

next_frame : (setup : Setup) (before middle : List Entry) → IsBeside setup before middle
    → finished setup (middle ▹ entry_of Display 0 [] Finish Done) ≡ finished setup before ++ frame_at setup (frames before + 1) (to_begin before) ∷ []
next_frame setup before middle same =
    let many : suc (frames middle) ≡ frames middle + 1 = omega arith in
    ap (λ (n : ℕ). finished setup middle ++ frame_at setup n (to_begin middle) ∷ []) many
    ∙ ap (λ (f : FrameOut). finished setup middle ++ f ∷ []) (next_number setup before middle same)
    ∙ ap (λ (fs : List FrameOut). fs ++ frame_at setup (frames before + 1) (to_begin before) ∷ []) same.finishing

next_there : (script : Script) (before middle : List Entry) → IsBeside script.setup before middle → (start : FrameStart) (old new : FrameStore)
    → FinishesNext script before start old new → FinishesNext script middle start old new
next_there script before middle same start old new finishes =
    let K : FrameOut → Type 0 = λ f. KeepsMore script f old.kept new.kept in
    record {
      kept = subst K (sym (next_number script.setup before middle same)) finishes.kept;
      number = finishes.number ∙ ap (λ (n : ℕ). n + 1) (sym same.number);
      last = finishes.last;
      points = finishes.points;
    }

module _ (script : Script) (view : StageView) (place : ℕ) where
  -- the compositor looked
  pub looked_beside : (old new : CompositorView) (film : RaceFrames) → HasLooked script.setup old new → CompositorStands script view place old film
      → IsBeside script.setup (history_of old.display.seen) (history_of new.display.seen)
  looked_beside old new film looks stands =
      let seen : List Entry = old.display.seen in
      let more : List Entry = looks.sees.longer.0 in
      let L : List Entry → Type 0 = λ es. Legal script.setup (history_of es) in
      let B : List Entry → Type 0 = λ es. IsBeside script.setup (history_of seen) (history_of es) in
      let mine : new.display.mine ≡ old.display.mine = ap (λ (d : DisplayView). d.mine) looks.sees.rest in
      let own : entries_of_seat 0 (seen ++ more) ≡ entries_of_seat 0 seen =
      ap (entries_of_seat 0) (sym looks.sees.longer.1) ∙ sym looks.whole ∙ mine ∙ stands.seat.mine in
      subst B (sym looks.sees.longer.1) (seen_beside script.setup seen more (subst L looks.sees.longer.1 looks.legal) own)

  pub compositor_looks : (old new : CompositorView) (film : RaceFrames) → HasLooked script.setup old new → CompositorStands script view place old film
      → CompositorStands script view place new film
  compositor_looks old new film looks stands =
      let mine : new.display.mine ≡ old.display.mine = ap (λ (d : DisplayView). d.mine) looks.sees.rest in
      let before : List Entry = history_of old.display.seen in
      let after : List Entry = history_of new.display.seen in
      let same : IsBeside script.setup before after = looked_beside old new film looks stands in
      record {
        seat = record {
          own = ap (λ (d : DisplayView). d.stage) looks.sees.rest ∙ stands.seat.own;
          mine = looks.whole;
          legal = looks.legal;
          display = display_same script before after same place stands.seat.display;
          spent = let was = stands.seat.spent in let long = ap (length {A = Entry}) mine in omega (arith, was, long);
        };
        opened = same.is_open ∙ stands.opened ∙ sym looks.keeps.is_open;
        frames = subst (λ (s : FrameStart). FramesStand script after s film.store) (sym looks.keeps.start)
            (frames_same script before after same old.start film.store stands.frames);
      }

  module _ (x : ScriptLine) (at : At script place x) (actor : x.actor ≡ Display) (of : IsStageOf view script) where
    -- there is room for the entry of a line
    pub seat_room : (seat : DisplayView) → SeatStands script view place seat → HasDisplayRoom seat
    seat_room seat stands =
        let left : lines_by 0 (drop place script.lines) ≡ lines_by 0 (drop (place + 1) script.lines) + 1 =
        ap (lines_by 0) at.left ∙ ap (λ a. lines_by 0 ((record x { actor = a }) ∷ drop (place + 1) script.lines)) actor ∙ grind (arith, common_steps) in
        let V : StageView → Type 0 = λ v. length seat.mine < slice_index (stage.shares_of v) 0 in
        let S : List ℕ → Type 0 = λ xs. length seat.mine < slice_index xs 0 in
        let was = stands.spent in
        subst V (sym stands.own) (subst S (sym of.shares) (omega (arith, was, left)))

    module _ (old new : CompositorView) (film : RaceFrames) (stands : CompositorStands script view place old film) where
      abbrev entered : (kind : EntryKind) (reply : Reply) → DisplayEnters x.number kind reply old.display new.display
          → Enters script place old.display (entry_of Display x.number [] kind reply) new.display
      entered kind reply enters = enters_as script view place x at of.setup old.display new.display stands.seat kind reply enters

      -- a frame begins
      pub line_begins : (time : ℕ) → x.body ≡ body.Display (display.Begin time) → DisplayEnters x.number (Begin time) Done old.display new.display
          → StartsFrame (setup_of old.display.stage) (history_of new.display.seen) old.start new.start → old.is_open ≡ false → new.is_open ≡ true
          → CompositorStands script view (place + 1) new film
      line_begins time is enters starts closed opened =
          let e : Entry = entry_of Display x.number [] (Begin time) Done in
          let en = entered (Begin time) Done enters in
          let S : Setup → Type 0 = λ s. StartsFrame s (history_of new.display.seen) old.start new.start in
          let H : List Entry → Type 0 = λ h. StartsFrame script.setup h old.start new.start in
          let F : List Entry → Type 0 = λ h. FramesStand script h new.start film.store in
          let there : FramesStand script en.middle old.start film.store =
          frames_same script (history_of old.display.seen) en.middle en.beside old.start film.store stands.frames in
          record {
            seat = seat_begins script view place x at of.setup old.display new.display stands.seat time actor is enters;
            opened = ap is_frame_open en.grown ∙ sym opened;
            frames = subst F (sym en.grown) (frames_begin script en.middle old.start film.store there x.number time new.start
                (en.beside.is_open ∙ stands.opened ∙ closed) (subst H en.grown (subst S (ap setup_of stands.seat.own ∙ of.setup) starts)));
          }

      -- what another line of the display leaves finished
      pub finished_still : (kind : EntryKind) (reply : Reply) → is_finish kind ≡ false → DisplayEnters x.number kind reply old.display new.display
          → (finished script.setup (history_of new.display.seen) ≡ finished script.setup (history_of old.display.seen))
          × FinishesOne script.setup (history_of old.display.seen) (history_of new.display.seen)
      finished_still kind reply no_finish enters =
          let en = entered kind reply enters in
          let e : Entry = entry_of Display x.number [] kind reply in (
            ap (finished script.setup) en.grown ∙ finished-beside script.setup en.middle e no_finish ∙ en.beside.finishing,
            finishes_one script.setup (history_of old.display.seen) en.middle (history_of new.display.seen) e en.beside en.grown false no_finish,
          )

      -- a frame is finished
      pub line_finishes : x.body ≡ body.Display display.Done → EndsFrame x.number old new → (film' : RaceFrames)
          → FinishesNext script (history_of old.display.seen) old.start film.store film'.store → CompositorStands script view (place + 1) new film'
      line_finishes is ends film' finishes =
          let en = entered Finish Done ends.enters in
          let F : List Entry → Type 0 = λ h. FramesStand script h old.start film'.store in
          let there : FramesStand script en.middle old.start film.store =
          frames_same script (history_of old.display.seen) en.middle en.beside old.start film.store stands.frames in
          record {
            seat = seat_finishes script view place x at of.setup old.display new.display stands.seat actor is ends.enters;
            opened = ap is_frame_open en.grown ∙ sym ends.closed;
            frames = subst (λ (s : FrameStart). FramesStand script (history_of new.display.seen) s film'.store) (sym ends.start)
                (subst F (sym en.grown) (frames_done script en.middle old.start film.store there x.number film'.store
                (next_there script (history_of old.display.seen) en.middle en.beside old.start film.store film'.store finishes)));
          }

      pub finished_then : EndsFrame x.number old new
          → (finished script.setup (history_of new.display.seen) ≡ finished script.setup (history_of old.display.seen)
          ++ frame_at script.setup (frames (history_of old.display.seen) + 1) (to_begin (history_of old.display.seen)) ∷ [])
          × FinishesOne script.setup (history_of old.display.seen) (history_of new.display.seen)
      finished_then ends =
          let en = entered Finish Done ends.enters in (
            ap (finished script.setup) en.grown ∙ next_frame script.setup (history_of old.display.seen) en.middle en.beside,
            finishes_one script.setup (history_of old.display.seen) en.middle (history_of new.display.seen) (entry_of Display x.number [] Finish Done) en.beside
                en.grown true refl,
          )

      -- a line that begins no frame and ends none
      pub line_beside : (text : DisplayLine) → is_beside text ≡ true → x.body ≡ body.Display text → (reply : Reply) (film' : RaceFrames)
          → DisplayEnters x.number (entry_of_display text) reply old.display new.display → KeepsStart old new
          → AnswersLine script.setup x.number text film.store film'.store → CompositorStands script view (place + 1) new film'
      line_beside text beside is reply film' enters keeps answers =
          let e : Entry = entry_of Display x.number [] (entry_of_display text) reply in
          let leaves = leaves_frames text beside in
          let en = entered (entry_of_display text) reply enters in
          let F : List Entry → Type 0 = λ h. FramesStand script h old.start film'.store in
          let there : FramesStand script en.middle old.start film.store =
          frames_same script (history_of old.display.seen) en.middle en.beside old.start film.store stands.frames in
          let shut : is_frame_open (en.middle ▹ e) ≡ is_frame_open en.middle = rw (leaves.no_begin, leaves.no_finish) refl in
          record {
            seat = seat_beside script view place x at of.setup old.display new.display stands.seat text (entry_of_display text) reply actor is refl
                leaves.no_begin
                leaves.no_finish leaves.keeps enters;
            opened = ap is_frame_open en.grown ∙ shut ∙ en.beside.is_open ∙ stands.opened ∙ sym keeps.is_open;
            frames = subst (λ (s : FrameStart). FramesStand script (history_of new.display.seen) s film'.store) (sym keeps.start)
                (subst F (sym en.grown) (frames_line script en.middle old.start film.store there x.number text reply film'.store beside answers));
          }

    -- ---- what a line asks for

    pub time_fits : DisplayKnowsFrames → SeatsTellActors → JournalsKeepSeats → script.setup.sessions ≤ SESSIONS_MAX → (time : ℕ)
        → x.body ≡ body.Display (display.Begin time) → (seat : DisplayView) → SeatStands script view place seat → begin_time (history_of seat.mine) ≤ time
    time_fits knows tell keep few time is seat stands =
        let h : List Entry = history_of seat.seen in
        let told : begin_time h ≡ begin_time (history_of seat.mine) =
        (knows script.setup h stands.legal).time ∙ ap begin_time
        ((tell script.setup few h stands.legal).display ∙ keep 0 seat.seen ∙ ap history_of (sym stands.mine)) in
        let fits : nat_le (begin_time h) time ≡ true = and-right (not (is_frame_open h)) _ (begin_time_ok script place x at time is h stands.display) in
        let le : begin_time h ≤ time = grind (arith, nat_tests) in
        omega (arith, le, told)

    pub begins_closed : (time : ℕ) → x.body ≡ body.Display (display.Begin time) → (c : CompositorView) (film : RaceFrames)
        → CompositorStands script view place c film → c.is_open ≡ false
    begins_closed time is c film stands =
        let h : List Entry = history_of c.display.seen in
        sym stands.opened ∙ closed_then (is_frame_open h) (and-left _ _ (begin_time_ok script place x at time is h stands.seat.display))

    pub finishes_open : x.body ≡ body.Display display.Done → (c : CompositorView) (film : RaceFrames) → CompositorStands script view place c film
        → c.is_open ≡ true
    finishes_open is c film stands = sym stands.opened ∙ done_ok script place x at is (history_of c.display.seen) stands.seat.display

  -- the frames are no more than the display has lines
  pub frames_few : JournalsKeepSeats → is_playable script ≡ true → (seat : DisplayView) → SeatStands script view place seat
      → frames (history_of seat.seen) + 1 < 4294967296
  frames_few keep playable seat stands =
      let made_is : made 0 (history_of seat.seen) ≡ length seat.mine =
      sym (length-filter (λ (e : Entry). seat_number e.actor == 0) (history_of seat.seen)) ∙ ap length (keep 0 seat.seen) ∙ length-reverse (of_seat 0 seat.seen)
      ∙ ap length (sym stands.mine) in
      let most = few_frames script.setup (history_of seat.seen) stands.legal in
      let spent = stands.spent in
      let lines = by_at_most 0 script.lines in
      let all : length script.lines ≤ 16777216 = few script playable in
      omega (arith, made_is, most, spent, lines, all)

  -- a line of another actor leaves the compositor as it is
  pub line_other : (x : ScriptLine) → At script place x → ((text : DisplayLine) → x.body ≡ body.Display text → ⊥) → (c : CompositorView) (film : RaceFrames)
      → CompositorStands script view place c film → CompositorStands script view (place + 1) c film
  line_other x at other c film stands = by_body x.body refl
    where
      spent : length c.display.mine + lines_by 0 (drop (place + 1) script.lines) ≤ lines_by 0 script.lines
      spent = let was = stands.seat.spent in let left = ap (lines_by 0) at.left in
          let more : lines_by 0 (x ∷ drop (place + 1) script.lines) ≡ lines_by 0 (drop (place + 1) script.lines) + cond (seat_number x.actor == 0) 1 0 =
          grind (arith, common_steps) in omega (arith, was, left, more)

      with_display : DisplayStands script (place + 1) (history_of c.display.seen) → CompositorStands script view (place + 1) c film
      with_display display = record {
        seat = record {
          own = stands.seat.own;
          mine = stands.seat.mine;
          legal = stands.seat.legal;
          display = display;
          spent = spent;
        };
        opened = stands.opened;
        frames = stands.frames;
      }

      by_body : (b : LineBody) → x.body ≡ b → CompositorStands script view (place + 1) c film
      by_body (body.Display text) is = absurd (other text is)
      by_body (body.Session text) is = with_display (display_session script place x at text is _ _ (quiet.same refl) stands.seat.display)
      by_body (body.Probe text) is = with_display (display_probe script place x at text is _ stands.seat.display)

-- ---- a line of the display

actor_of : (setup : Setup) (who : Actor) (text : DisplayLine) → is_played setup who (body.Display text) ≡ true → who ≡ Display
actor_of setup Display text played = refl
actor_of setup (Session s) text played = absurd (cc)
actor_of setup (Probe p) text played = absurd (cc)

pub display_line_at : (script : Script) (place : ℕ) (x : ScriptLine) → At script place x → slice_get script.lines place ≡ Some x → (text : DisplayLine)
    → x.body ≡ body.Display text
    → slice_get script.lines place ≡ Some (record { number = x.number; actor = Display; body = body.Display text })
display_line_at script place x at here text is =
    let who : x.actor ≡ Display = actor_of script.setup x.actor text (ap (is_played script.setup x.actor) (sym is) ∙ at.played) in
    here ∙ ap (λ (a : Actor). let l : ScriptLine = record { number = x.number; actor = a; body = x.body } in Some l) who
    ∙ ap (λ (b : LineBody). let l : ScriptLine = record { number = x.number; actor = Display; body = b } in Some l) is

-- ---- before the first line, and behind the last

pub stands_first : (script : Script) (view : StageView) (c : CompositorView) (film : RaceFrames) → is_playable script ≡ true → setup_of view ≡ script.setup
    → IsNewCompositor view c → FilmStands script [] film → CompositorStands script view 0 c film
stands_first script view c film playable setup new kept =
    let H : DisplayView → List Entry = λ d. history_of d.seen in
    let S : DisplayView → Type 0 = SeatStands script view 0 in
    let F : List Entry → Type 0 = λ h. FramesStand script h c.start film.store in
    let I : Setup → Type 0 = λ s. IsStart s [] c.start in
    record {
      seat = subst S (sym new.display) (record { own = refl; mine = refl; legal = tt; display = first_display script playable; spent = omega arith });
      opened = ap (λ d. is_frame_open (H d)) new.display ∙ sym new.closed;
      frames = subst F (sym (ap H new.display)) (frames_none script c.start film.store (subst I setup new.start) kept);
    }

pub seen_there : {D : Type 0} (told : D → Option (List FrameOut)) (count : D → ℕ) (setup : Setup) (h h' : List Entry) (lost : List LostDisplay)
    (olds news : List D)
    → h ≡ h' → HaveSeen told count (finished setup h) h lost olds news → HaveSeen told count (finished setup h') h' lost olds news
seen_there told count setup h h' lost olds news same seen = let P : List Entry → Type 0 =
    λ es. HaveSeen told count (finished setup es) es lost olds news in subst P same seen

-- what was shown, by other names of the frames before and after
pub shown_as : {D : Type 0} (told : D → Option (List FrameOut)) (count : D → ℕ) (old old' new new' : List FrameOut) (set set' : Driven) (olds news : List D)
    → old' ≡ old → new' ≡ new → IsShown told count old new set set' olds news → IsShown told count old' new' set set' olds news
shown_as told count old old' new new' set set' olds news old_is new_is shown =
    let P : List FrameOut → Type 0 = λ fs. IsShown told count fs new set set' olds news in
    let Q : List FrameOut → Type 0 = λ fs. IsShown told count old' fs set set' olds news in
    subst Q (sym new_is) (subst P (sym old_is) shown)

-- ---- once the last frame is published

-- whatever was joined of the last frame
pub stands_published : (script : Script) (view : StageView) (place : ℕ) (c : CompositorView) (film film' : RaceFrames)
    → film' ≡ record film { store = record film.store { last = film'.store.last } }
    → StaysLast script.setup film.store.last film'.store.last → CompositorStands script view place c film → CompositorStands script view place c film'
stands_published script view place c film film' rest stays stands =
    let F : RaceFrames → Type 0 = CompositorStands script view place c in
    subst F (sym rest) (record {
      seat = stands.seat;
      opened = stands.opened;
      frames = frames_stay script (history_of c.display.seen) c.start film.store stands.frames (record film.store { last = film'.store.last })
          (stays_stored script.setup film.store film'.store.last stays);
    })
