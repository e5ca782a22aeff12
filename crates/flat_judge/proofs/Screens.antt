-- What is shown and kept, after one entry more.
use Rattle.std.proofs.Common.{◌≡◌, ℕ, ℤ, Bool, true, false, not, nat_le, List, [], refl, sym, ap, ◌∙◌, subst}
use Rattle.std.specs.Prelude.{IsTrue}
use Rattle.flat_base.specs.declared.ids.Actor.{Actor}
use Rattle.flat_base.specs.declared.ids.Actor.TheVariants.{Display}
use Rattle.flat_scene.specs.declared.calls.Call.{Call}
use Rattle.flat_scene.specs.declared.frames.Hit as point
use Rattle.flat_scene.specs.declared.journal.Entry.{Entry}
use Rattle.flat_scene.specs.declared.journal.EntryKind.{EntryKind}
use Rattle.flat_scene.specs.declared.journal.EntryKind.TheVariants.{Begin, Finish, Hit}
use Rattle.flat_scene.specs.declared.journal.Reply.{Reply}
use Rattle.flat_scene.specs.declared.journal.Reply.TheVariants.{Done}
use Rattle.flat_scene.specs.declared.script.DisplayLine.{DisplayLine}
use Rattle.flat_scene.specs.declared.script.DisplayLine.TheVariants as display
use Rattle.flat_scene.specs.declared.setup.Setup.{Setup}
use Rattle.flat_scene.specs.History.{◌▹◌, is_begin, is_finish}
use Rattle.flat_scene.specs.Interleave.{entry_of_display}
use Rattle.flat_core.specs.declared.start.FrameStart.{FrameStart}
use Rattle.flat_core.specs.Machines.{Machine, entered, entry_of}
use Rattle.flat_core.specs.Starts.{IsStart, StartsFrame, is_beside}
use Rattle.flat_rules.specs.Ends.{to_finished}
use Rattle.flat_rules.specs.Legal.{frames, is_frame_open, keeps_time, begin_time}
use Rattle.flat_places.specs.declared.script.Script.{Script}
use Rattle.flat_report.specs.Handed.{answer_to}
use Rattle.flat_report.specs.Report.{hits_at}
use Rattle.flat_play.specs.declared.frame.LastFrame.{LastFrame}
use Rattle.flat_play.specs.declared.kept_frames.FramesToKeep.TheVariants as keeping
use Rattle.flat_play.specs.declared.store.FrameStore.{FrameStore}
use Rattle.flat_play.specs.Keeping.{keeping_of}
use Rattle.flat_play.specs.Last.{StaysLast}
use Rattle.flat_play.specs.Playing.{shares_of}
use Rattle.flat_play.specs.Storing.{AnswersLine, FinishesNext, FramesStand, StoreStands}
use Rattle.flat_play.proofs.lemmas.Storing.{frames_begin, frames_beside, frames_done, frames_line, frames_none, frames_stay, stays_stored}
use Rattle.flat_base.proofs.lemmas.Tests.{and-left}
use Rattle.flat_judge.specs.declared.replay_screen.ReplayScreen.{ReplayScreen}
use Rattle.flat_judge.specs.GuidedRuns.{ScreenStands, is_aside}

-- ---- kinds of entries that leave frames and points alone

pub aside_begin : (kind : EntryKind) → is_aside kind ≡ true → is_begin kind ≡ false
aside_begin (Begin time) aside = absurd (cc)
aside_begin _ aside = refl

pub aside_finish : (kind : EntryKind) → is_aside kind ≡ true → is_finish kind ≡ false
aside_finish Finish aside = absurd (cc)
aside_finish _ aside = refl

aside_answers : (entry : Entry) (n : ℕ) (hits : ℤ → ℤ → List point.Hit) (kind : EntryKind) → is_aside kind ≡ true → answer_to entry n hits kind ≡ []
aside_answers entry n hits (Hit x y) aside = absurd (cc)
aside_answers entry n hits _ aside = refl

shut : (is_open : Bool) → not is_open ≡ true → is_open ≡ false
shut true is = absurd (let wrong : false ≡ true = is in cc)
shut false is = refl

-- a frame begins only where none is open
pub may_shut : (history : List Entry) (time : ℕ) → IsTrue (keeps_time history (Begin time)) → is_frame_open history ≡ false
may_shut history time times = shut (is_frame_open history) (and-left (not (is_frame_open history)) (nat_le (begin_time history) time) times)

-- ---- before any entry

pub screen_first : (script : Script) (screen : ReplayScreen) → screen.board ≡ record { setup = script.setup; shares = shares_of script; history = [] }
    → IsStart script.setup [] screen.start → StoreStands script [] screen.store → keeping_of screen.store.kept ≡ keeping.Texts → ScreenStands script screen
screen_first script screen board starts stored texts = record {
  setup = ap (λ (m : Machine). m.setup) board;
  shares = ap (λ (m : Machine). m.shares) board;
  frames = subst (λ (h : List Entry). FramesStand script h screen.start screen.store) (sym (ap (λ (m : Machine). m.history) board))
      (frames_none script screen.start screen.store starts stored);
  texts = texts;
}

-- ---- what is joined of the last frame

pub screen_stays : (script : Script) (screen : ReplayScreen) (last : LastFrame) → StaysLast script.setup screen.store.last last → ScreenStands script screen
    → ScreenStands script (record screen { store = record screen.store { last = last } })
screen_stays script screen last stays stands = record {
  setup = stands.setup;
  shares = stands.shares;
  frames = frames_stay script screen.board.history screen.start screen.store stands.frames (record screen.store { last = last })
      (stays_stored script.setup screen.store last stays);
  texts = stands.texts;
}

-- ---- an entry

-- by what becomes of the frames
screen_entered : (script : Script) (old : ReplayScreen) (who : Actor) (number : ℕ) (carries : List Call) (kind : EntryKind) (reply : Reply) (board : Machine)
    (start : FrameStart) (store : FrameStore) → board ≡ entered old.board who number carries kind reply
    → FramesStand script (old.board.history ▹ entry_of who number carries kind reply) start store → keeping_of store.kept ≡ keeping_of old.store.kept
    → ScreenStands script old → ScreenStands script (record { board = board; start = start; store = store })
screen_entered script old who number carries kind reply board start store is now same stands = record {
  setup = ap (λ (m : Machine). m.setup) is ∙ stands.setup;
  shares = ap (λ (m : Machine). m.shares) is ∙ stands.shares;
  frames = subst (λ (h : List Entry). FramesStand script h start store) (sym (ap (λ (m : Machine). m.history) is)) now;
  texts = same ∙ stands.texts;
}

-- one that leaves frames and points alone
pub screen_aside : (script : Script) (screen : ReplayScreen) (board : Machine) (who : Actor) (number : ℕ) (carries : List Call) (kind : EntryKind)
    (reply : Reply)
    → is_aside kind ≡ true → board ≡ entered screen.board who number carries kind reply
    → ScreenStands script screen → ScreenStands script (record screen { board = board })
screen_aside script screen board who number carries kind reply aside is stands =
    let h : List Entry = screen.board.history in
    let e : Entry = entry_of who number carries kind reply in
    screen_entered script screen who number carries kind reply board screen.start screen.store is
    (frames_beside script h screen.start screen.store e (aside_begin kind aside) (aside_finish kind aside)
    (aside_answers e (frames h) (hits_at script.setup (to_finished h)) kind aside) stands.frames) refl stands

module _ (script : Script) (old : ReplayScreen) (number : ℕ) (board : Machine) (stands : ScreenStands script old) where
  -- a frame begins
  pub screen_begin : (time : ℕ) (start : FrameStart) → is_frame_open old.board.history ≡ false → board ≡ entered old.board Display number [] (Begin time) Done
      → StartsFrame board.setup board.history old.start start → ScreenStands script (record old { board = board; start = start })
  screen_begin time start closed is begins =
      let e : Entry = entry_of Display number [] (Begin time) Done in
      let setup : board.setup ≡ script.setup = ap (λ (m : Machine). m.setup) is ∙ stands.setup in
      let S : Setup → Type 0 = λ st. StartsFrame st board.history old.start start in
      let G : List Entry → Type 0 = λ h. StartsFrame script.setup h old.start start in
      screen_entered script old Display number [] (Begin time) Done board start old.store is
      (frames_begin script old.board.history old.start old.store stands.frames number time start closed
      (subst G (ap (λ (m : Machine). m.history) is) (subst S setup begins)))
      refl stands

  -- a frame ends
  pub screen_finish : (store : FrameStore) → board ≡ entered old.board Display number [] Finish Done
      → FinishesNext script old.board.history old.start old.store store → ScreenStands script (record old { board = board; store = store })
  screen_finish store is finishes =
      screen_entered script old Display number [] Finish Done board old.start store is
      (frames_done script old.board.history old.start old.store stands.frames number store finishes) finishes.kept.same stands

  keeps_line : (text : DisplayLine) (store : FrameStore) → AnswersLine script.setup number text old.store store
      → is_beside text ≡ true → keeping_of store.kept ≡ keeping_of old.store.kept
  keeps_line (display.Begin time) store answers beside = absurd (cc)
  keeps_line display.Done store answers beside = absurd (cc)
  keeps_line (display.Hit x y) store answers beside = ap keeping_of answers.kept
  keeps_line (display.Signal f) store answers beside = ap (λ (s : FrameStore). keeping_of s.kept) answers
  keeps_line (display.Wait c) store answers beside = ap (λ (s : FrameStore). keeping_of s.kept) answers
  keeps_line (display.Dpr ratio) store answers beside = ap (λ (s : FrameStore). keeping_of s.kept) answers

  -- any other line of the display
  pub screen_line : (text : DisplayLine) (reply : Reply) (store : FrameStore) → is_beside text ≡ true
      → board ≡ entered old.board Display number [] (entry_of_display text) reply → AnswersLine script.setup number text old.store store
      → ScreenStands script (record old { board = board; store = store })
  screen_line text reply store beside is answers =
      screen_entered script old Display number [] (entry_of_display text) reply board old.start store is
      (frames_line script old.board.history old.start old.store stands.frames number text reply store beside answers) (keeps_line text store answers beside)
      stands
