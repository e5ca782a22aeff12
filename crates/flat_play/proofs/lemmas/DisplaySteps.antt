-- What the display reads and shows, after one more line of the script.
use Rattle.std.proofs.Common.{◌≡◌, ℕ, ℤ, suc, ◌+◌, Bool, true, false, cond, ◌&&◌, not, nat_lt, nat_le, List, [], ◌∷◌, ◌++◌, filter, take, drop, refl, sym, ap}
use Rattle.std.proofs.Common.{◌∙◌, subst, arith, append-nil}
use Rattle.std.proofs.lemmas.Grind.{common_steps}
use Rattle.flat_base.specs.declared.ids.Actor.TheVariants.{Display}
use Rattle.flat_base.specs.declared.ids.FenceNo.{FenceNo}
use Rattle.flat_scene.specs.declared.frames.Hit as point
use Rattle.flat_scene.specs.declared.journal.Entry.{Entry}
use Rattle.flat_scene.specs.declared.journal.EntryKind.{EntryKind}
use Rattle.flat_scene.specs.declared.journal.EntryKind.TheVariants.{Begin, Dpr, Finish, End, Hit, Signal, Wait}
use Rattle.flat_scene.specs.declared.journal.Reply.{Reply}
use Rattle.flat_scene.specs.declared.journal.Reply.TheVariants.{Done}
use Rattle.flat_scene.specs.declared.script.WaitCondition.{WaitCondition}
use Rattle.flat_scene.specs.declared.script.WaitCondition.TheVariants as asks
use Rattle.flat_scene.specs.declared.script.LineBody.{LineBody}
use Rattle.flat_scene.specs.declared.script.LineBody.TheVariants as body
use Rattle.flat_scene.specs.declared.script.DisplayLine.{DisplayLine}
use Rattle.flat_scene.specs.declared.script.DisplayLine.TheVariants as display
use Rattle.flat_scene.specs.declared.script.SessionLine.{SessionLine}
use Rattle.flat_scene.specs.declared.script.ProbeLine.{ProbeLine}
use Rattle.flat_scene.specs.declared.script.ScriptLine.{ScriptLine}
use Rattle.flat_scene.specs.declared.setup.Setup.{Setup}
use Rattle.flat_scene.specs.History.{◌▹◌, is_display, is_begin, is_finish, is_end}
use Rattle.flat_scene.specs.Interleave.{display_lines, display_line, by_display, unread_lines, entry_of_display, FollowsDisplay}
use Rattle.flat_scene.specs.Setups.{is_ratio}
use Rattle.flat_core.specs.Machines.{Machine, MayCall, HasShare, entry_of}
use Rattle.flat_rules.specs.Ends.{to_begin, to_finished}
use Rattle.flat_rules.specs.Legal.{is_frame_open, begin_time, frames, display_owns, names_declared, display_may}
use Rattle.flat_report.specs.Handed.{answer_to}
use Rattle.flat_report.specs.Report.{finished, frame_at, hits_at}
use Rattle.flat_places.specs.declared.script.Script.{Script}
use Rattle.flat_playable.specs.Playable.{frames_close, keeps_frames}
use Rattle.flat_rules.specs.Owned.{is_played_display}
use Rattle.flat_play.specs.Playing.{DisplayStands, IsSpent, lines_by, rest_shares}
use Rattle.flat_play.specs.Storing.{FramesStand}
use Rattle.flat_play.specs.declared.store.FrameStore.{FrameStore}
use Rattle.flat_play.proofs.lemmas.Storing.{frames_beside}
use Rattle.flat_core.specs.declared.start.FrameStart.{FrameStart}
use Rattle.flat_play.proofs.Displayed.{display_more}
use Rattle.flat_play.proofs.lemmas.Growing.{is_quiet}
use Rattle.flat_play.proofs.lemmas.Steps.{At}
use Rattle.flat_base.proofs.lemmas.Tests.{and-left, and-right}
use Rattle.flat_play.proofs.lemmas.Unread.{unread_after, Numbered}

-- ---- kinds that are quiet

pub quiet_begin : (kind : EntryKind) → is_quiet kind ≡ true → is_begin kind ≡ false
quiet_begin (Begin time) quiet = absurd (cc)
quiet_begin _ quiet = refl

pub quiet_finish : (kind : EntryKind) → is_quiet kind ≡ true → is_finish kind ≡ false
quiet_finish Finish quiet = absurd (cc)
quiet_finish _ quiet = refl

pub quiet_end : (kind : EntryKind) → is_quiet kind ≡ true → is_end kind ≡ false
quiet_end (End n) quiet = absurd (cc)
quiet_end _ quiet = refl

pub quiet_answers : (entry : Entry) (n : ℕ) (hits : ℤ → ℤ → List point.Hit) (kind : EntryKind) → is_quiet kind ≡ true → answer_to entry n hits kind ≡ []
quiet_answers entry n hits (Hit x y) quiet = absurd (cc)
quiet_answers entry n hits _ quiet = refl

-- A history stays, or has one quiet entry more, which isn't the display's.
pub data QuietStep (old new : List Entry) : Type 0 where
  same : new ≡ old → QuietStep old new
  more : (e : Entry) → is_display e.actor ≡ false → is_quiet e.kind ≡ true → new ≡ (old ▹ e) → QuietStep old new

pub display_numbered : (next : ScriptLine) → Numbered next.number (display_line next.number next.body)
display_numbered next = by_body next.body
  where
    by_body : (text : LineBody) → Numbered next.number (display_line next.number text)
    by_body (body.Display text) = (refl, tt)
    by_body _ = tt

module _ (script : Script) (place : ℕ) (x : ScriptLine) (at : At script place x) where
  -- a line of a probe, which makes no entry
  pub display_probe : (asked : ProbeLine) → x.body ≡ body.Probe asked → (history : List Entry) → DisplayStands script place history
      → DisplayStands script (place + 1) history
  display_probe asked is history stands = record {
    follows = stands.follows;
    left = stands.left ∙ ap display_lines at.left ∙ ap (λ b. display_line x.number b ++ display_lines (drop (place + 1) script.lines)) is;
    closing = sym (ap (frames_close (is_frame_open history) (begin_time history)) at.left
        ∙ ap (λ b. keeps_frames (is_frame_open history) (begin_time history) b (λ o t. frames_close o t (drop (place + 1) script.lines))) is) ∙ stands.closing;
  }

  -- a line of a session
  pub display_session : (text : SessionLine) → x.body ≡ body.Session text → (old new : List Entry) → QuietStep old new → DisplayStands script place old
      → DisplayStands script (place + 1) new
  display_session text is old new step stands = by_step step
    where
      left : display_lines (drop place script.lines) ≡ display_lines (drop (place + 1) script.lines)
      left = ap display_lines at.left ∙ ap (λ b. display_line x.number b ++ display_lines (drop (place + 1) script.lines)) is

      close : frames_close (is_frame_open old) (begin_time old) (drop (place + 1) script.lines) ≡ true
      close = sym (ap (frames_close (is_frame_open old) (begin_time old)) at.left
          ∙ ap (λ b. keeps_frames (is_frame_open old) (begin_time old) b (λ o t. frames_close o t (drop (place + 1) script.lines))) is) ∙ stands.closing

      by_step : QuietStep old new → DisplayStands script (place + 1) new
      by_step (same now) =
          let P : List Entry → Type 0 = DisplayStands script (place + 1) in
          subst P (sym now) (record { follows = stands.follows; left = stands.left ∙ left; closing = close })
      by_step (more e other quiet now) =
          let P : List Entry → Type 0 = DisplayStands script (place + 1) in
          let F : List Entry → Type 0 = FollowsDisplay (display_lines script.lines) in
          let mine : by_display (old ▹ e) ≡ by_display old = rw other refl in
          let is_open : is_frame_open (old ▹ e) ≡ is_frame_open old = rw (quiet_begin e.kind quiet, quiet_finish e.kind quiet) refl in
          let time : begin_time (old ▹ e) ≡ begin_time old = rw (quiet_begin e.kind quiet) refl in
          subst P (sym now) (record {
            follows = subst F (sym mine) stands.follows;
            left = ap (λ es. unread_lines es (display_lines script.lines)) mine ∙ stands.left ∙ left;
            closing = ap (λ o. frames_close o (begin_time (old ▹ e)) (drop (place + 1) script.lines)) is_open
                ∙ ap (λ t. frames_close (is_frame_open old) t (drop (place + 1) script.lines)) time ∙ close;
          })

  -- what is left is this line of the display, and what comes after
  next_is : (text : DisplayLine) → x.body ≡ body.Display text
      → display_lines (drop place script.lines) ≡ (x.number, text) ∷ display_lines (drop (place + 1) script.lines)
  next_is text is = ap display_lines at.left ∙ ap (λ b. display_line x.number b ++ display_lines (drop (place + 1) script.lines)) is

  later_is : (entries : List Entry) (e : Entry) → e.line ≡ x.number
      → unread_lines (entries ▹ e) (display_lines script.lines) ≡ display_lines (drop (place + 1) script.lines)
  later_is entries e line =
      ap (λ n. filter (λ one. nat_lt n one.0) (display_lines script.lines)) line
      ∙ ap (λ ls. filter (λ one. nat_lt x.number one.0) (display_lines ls)) at.split
      ∙ unread_after (λ one. display_line one.number one.body) display_numbered 0 (take place script.lines) x (drop (place + 1) script.lines) at.rise

  closing : (text : DisplayLine) → x.body ≡ body.Display text → (old : List Entry) → DisplayStands script place old
      → keeps_frames (is_frame_open old) (begin_time old) (body.Display text) (λ o t. frames_close o t (drop (place + 1) script.lines)) ≡ true
  closing text is old stands = sym (ap (frames_close (is_frame_open old) (begin_time old)) at.left
      ∙ ap (λ b. keeps_frames (is_frame_open old) (begin_time old) b (λ o t. frames_close o t (drop (place + 1) script.lines))) is) ∙ stands.closing

  -- a begin
  pub begin_time_ok : (time : ℕ) → x.body ≡ body.Display (display.Begin time) → (old : List Entry) → DisplayStands script place old
      → (not (is_frame_open old) && nat_le (begin_time old) time) ≡ true
  begin_time_ok time is old stands = and-left _ _ (closing (display.Begin time) is old stands)

  pub display_begin : (time : ℕ) → x.body ≡ body.Display (display.Begin time) → (old : List Entry) → DisplayStands script place old
      → DisplayStands script (place + 1) (old ▹ entry_of Display x.number [] (Begin time) Done)
  display_begin time is old stands =
      let e : Entry = entry_of Display x.number [] (Begin time) Done in
      record {
        follows = display_more (display_lines script.lines) (by_display old) e x.number (display.Begin time) (display_lines (drop (place + 1) script.lines))
            stands.follows
            (stands.left ∙ next_is (display.Begin time) is) (record { line = refl; carried = refl; kind = refl });
        left = later_is (by_display old) e refl;
        closing = and-right _ _ (closing (display.Begin time) is old stands);
      }

  -- a done
  pub done_ok : x.body ≡ body.Display display.Done → (old : List Entry) → DisplayStands script place old → is_frame_open old ≡ true
  done_ok is old stands = and-left _ _ (closing display.Done is old stands)

  pub display_done : x.body ≡ body.Display display.Done → (old : List Entry) → DisplayStands script place old
      → DisplayStands script (place + 1) (old ▹ entry_of Display x.number [] Finish Done)
  display_done is old stands =
      let e : Entry = entry_of Display x.number [] Finish Done in
      record {
        follows = display_more (display_lines script.lines) (by_display old) e x.number display.Done (display_lines (drop (place + 1) script.lines))
            stands.follows
            (stands.left ∙ next_is display.Done is) (record { line = refl; carried = refl; kind = refl });
        left = later_is (by_display old) e refl;
        closing = and-right _ _ (closing display.Done is old stands);
      }

  -- a line that begins no frame and ends none
  pub display_beside : (text : DisplayLine) (kind : EntryKind) (reply : Reply) → x.body ≡ body.Display text → entry_of_display text ≡ kind
      → is_begin kind ≡ false
      → is_finish kind ≡ false
      → ((o : Bool) (t : ℕ) (follows : Bool → ℕ → Bool) → keeps_frames o t (body.Display text) follows ≡ follows o t)
      → (old : List Entry) → DisplayStands script place old → DisplayStands script (place + 1) (old ▹ entry_of Display x.number [] kind reply)
  display_beside text kind reply is makes no_begin no_finish keeps old stands =
      let e : Entry = entry_of Display x.number [] kind reply in
      let rest : List ScriptLine = drop (place + 1) script.lines in
      let is_open : is_frame_open (old ▹ e) ≡ is_frame_open old = rw (no_begin, no_finish) refl in
      let time : begin_time (old ▹ e) ≡ begin_time old = rw no_begin refl in
      record {
        follows = display_more (display_lines script.lines) (by_display old) e x.number text (display_lines rest) stands.follows (stands.left ∙ next_is text is)
            (record { line = refl; carried = refl; kind = sym makes });
        left = later_is (by_display old) e refl;
        closing = ap (λ o. frames_close o (begin_time (old ▹ e)) rest) is_open ∙ ap (λ t. frames_close (is_frame_open old) t rest) time
            ∙ sym (keeps (is_frame_open old) (begin_time old) (λ o t. frames_close o t rest)) ∙ closing text is old stands;
      }

  -- ---- room

  pub display_share : (m : Machine) → m.shares ≡ lines_by 0 script.lines ∷ rest_shares script → x.actor ≡ Display → IsSpent script place m.history
      → HasShare m Display
  display_share m shares actor spent =
      let s = spent.spent 0 in
      let l : lines_by 0 (drop place script.lines) ≡ lines_by 0 (drop (place + 1) script.lines) + 1 =
      ap (lines_by 0) at.left ∙ ap (λ a. lines_by 0 ((record x { actor = a }) ∷ drop (place + 1) script.lines)) actor ∙ grind (arith, common_steps) in
      rw shares (omega arith)

-- a begin may be entered, and a done
pub may_begin : (m : Machine) (time : ℕ) → HasShare m Display → (not (is_frame_open m.history) && nat_le (begin_time m.history) time) ≡ true
    → MayCall m Display [] (Begin time)
may_begin m time share times = record {
  may = record {
    acts = refl;
    lasts = refl;
    times = times;
    drafted = refl;
    calls = refl;
    links = refl;
    owned = refl;
    named = refl;
    tree = refl;
    watcher = refl;
  };
  share = share;
}

pub may_finish : (m : Machine) → HasShare m Display → is_frame_open m.history ≡ true → MayCall m Display [] Finish
may_finish m share times = record {
  may = record {
    acts = refl;
    lasts = refl;
    times = times;
    drafted = refl;
    calls = refl;
    links = refl;
    owned = refl;
    named = refl;
    tree = refl;
    watcher = refl;
  };
  share = share;
}

pub may_signal_fence : (m : Machine) (f : FenceNo) → HasShare m Display → display_owns m.setup f ≡ true → MayCall m Display [] (Signal f)
may_signal_fence m f share named = record {
  may = record {
    acts = refl;
    lasts = refl;
    times = refl;
    drafted = refl;
    calls = refl;
    links = refl;
    owned = refl;
    named = named;
    tree = refl;
    watcher = refl;
  };
  share = share;
}

-- so may a pixel ratio that a display may have
pub may_dpr : (m : Machine) (to : ℕ) → HasShare m Display → is_ratio to ≡ true → MayCall m Display [] (Dpr to)
may_dpr m to share named = record {
  may = record {
    acts = refl;
    lasts = refl;
    times = refl;
    drafted = refl;
    calls = refl;
    links = refl;
    owned = refl;
    named = named;
    tree = refl;
    watcher = refl;
  };
  share = share;
}

waits_for : (m : Machine) (c : WaitCondition) → HasShare m Display → display_may (Wait c) ≡ true → names_declared m.setup (Wait c) ≡ true
    → MayCall m Display [] (Wait c)
waits_for m c share acts named = record {
  may = record {
    acts = acts;
    lasts = refl;
    times = refl;
    drafted = refl;
    calls = refl;
    links = refl;
    owned = refl;
    named = named;
    tree = refl;
    watcher = refl;
  };
  share = share;
}

pub may_wait_for : (m : Machine) (c : WaitCondition) → HasShare m Display → is_played_display m.setup (display.Wait c) ≡ true → MayCall m Display [] (Wait c)
may_wait_for m (asks.Presents s n) share played = waits_for m (asks.Presents s n) share refl played
may_wait_for m (asks.Fence f) share played = waits_for m (asks.Fence f) share refl played
may_wait_for m (asks.Frames n) share played = absurd (cc)
may_wait_for m (asks.Credits n) share played = absurd (cc)
may_wait_for m (asks.Taken n) share played = absurd (cc)
may_wait_for m (asks.Answers n) share played = absurd (cc)

-- ---- frames

-- an entry that ends no frame leaves the finished ones
pub finished-beside : (setup : Setup) (old : List Entry) (e : Entry) → is_finish e.kind ≡ false → finished setup (old ▹ e) ≡ finished setup old
finished-beside setup old e no_finish = ap (λ b. finished setup old ++ cond b (frame_at setup (suc (frames old)) (to_begin old) ∷ []) []) no_finish
    ∙ append-nil (finished setup old)

-- so does what a session enters
pub finished-session : (setup : Setup) (old new : List Entry) → QuietStep old new → finished setup new ≡ finished setup old
finished-session setup old new (same now) = ap (finished setup) now
finished-session setup old new (more e other quiet now) = ap (finished setup) now ∙ finished-beside setup old e (quiet_finish e.kind quiet)

-- what a session enters leaves what is shown and kept of frames
pub frames_session : (script : Script) (old new : List Entry) (start : FrameStart) (store : FrameStore) → QuietStep old new
    → FramesStand script old start store → FramesStand script new start store
frames_session script old new start store (same now) stands = subst (λ (h : List Entry). FramesStand script h start store) (sym now) stands
frames_session script old new start store (more e other quiet now) stands =
    subst (λ (h : List Entry). FramesStand script h start store) (sym now)
    (frames_beside script old start store e (quiet_begin e.kind quiet) (quiet_finish e.kind quiet)
    (quiet_answers e (frames old) (hits_at script.setup (to_finished old)) e.kind quiet) stands)

pub may_hit : (m : Machine) (x y : ℤ) → HasShare m Display → MayCall m Display [] (Hit x y)
may_hit m x y share = record {
  may = record { acts = refl; lasts = refl; times = refl; drafted = refl; calls = refl; links = refl; owned = refl; named = refl; tree = refl; watcher = refl };
  share = share;
}
