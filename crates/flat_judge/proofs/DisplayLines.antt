-- The display's next line: that it may be entered, and what it leaves.
use Rattle.std.proofs.Common.{◌≡◌, ℕ, ◌+◌, ◌<◌, ◌≤◌, ◌^◌, true, false, cond, ◌==◌, List, [], length, drop, refl, sym, ap, ◌∙◌, subst, arith}
use Rattle.std.proofs.Common.{Some, None}
use Rattle.flat_base.specs.declared.ids.Actor.{Actor}
use Rattle.flat_base.specs.declared.ids.Actor.TheVariants.{Display, Session, Probe}
use Rattle.flat_scene.specs.declared.journal.Entry.{Entry}
use Rattle.flat_scene.specs.declared.script.LineBody.{LineBody}
use Rattle.flat_scene.specs.declared.script.LineBody.TheVariants as body
use Rattle.flat_scene.specs.declared.script.DisplayLine.{DisplayLine}
use Rattle.flat_scene.specs.declared.script.DisplayLine.TheVariants as display
use Rattle.flat_scene.specs.declared.script.ScriptLine.{ScriptLine}
use Rattle.flat_scene.specs.declared.setup.Setup.{Setup}
use Rattle.flat_scene.specs.Journals.{seat_number}
use Rattle.flat_scene.specs.Interleave.{entry_of_display}
use Rattle.flat_core.specs.Machines.{Machine, HasShare, MayCall, entry_of, made}
use Rattle.flat_rules.specs.Legal.{Legal, frames, reply_to}
use Rattle.flat_rules.specs.Owned.{is_played_display}
use Rattle.flat_places.specs.declared.script.Script.{Script}
use Rattle.flat_playable.specs.Playable.{is_playable, is_played}
use Rattle.flat_play.specs.Playing.{DisplayStands, display_text, lines_by, shares_of}
use Rattle.flat_play.proofs.lemmas.Beside.{LeavesFrames, leaves_frames, may_beside}
use Rattle.flat_play.proofs.lemmas.DisplaySteps.{QuietStep, begin_time_ok, display_begin, display_beside, display_done, display_probe, display_session, done_ok}
use Rattle.flat_play.proofs.lemmas.DisplaySteps.{may_begin, may_finish}
use Rattle.flat_play.proofs.lemmas.FramesShown.{few_frames}
use Rattle.flat_play.proofs.lemmas.Starting.{by_at_most, few}
use Rattle.flat_play.proofs.lemmas.Steps.{At}
use Rattle.flat_judge.specs.GuidedRuns.{HasEntered}
use Rattle.flat_judge.proofs.Seats.{lines_left, made_one}

-- What is known of a line that is one of the display.
pub record IsDisplays (x : ScriptLine) (text : DisplayLine) : Type 0 where
  pub who : x.actor ≡ Display
  pub what : x.body ≡ body.Display text

of_display : (setup : Setup) (who : Actor) (what : LineBody) (text : DisplayLine) → is_played setup who what ≡ true → display_text what ≡ Some text
    → (who ≡ Display) × (what ≡ body.Display text)
of_display setup Display (body.Display said) text played is = let same : said ≡ text = cc in (refl, ap body.Display same)
of_display setup (Session s) (body.Display said) text played is = absurd (let wrong : false ≡ true = played in cc)
of_display setup (Probe p) (body.Display said) text played is = absurd (let wrong : false ≡ true = played in cc)
of_display setup who (body.Session said) text played is = absurd (let wrong : None ≡ Some text = is in cc)
of_display setup who (body.Probe asked) text played is = absurd (let wrong : None ≡ Some text = is in cc)

module _ (script : Script) (place : ℕ) (x : ScriptLine) (at : At script place x) where
  pub displays : (text : DisplayLine) → display_text x.body ≡ Some text → IsDisplays x text
  displays text is = let both = of_display script.setup x.actor x.body text at.played is in record { who = both.0; what = both.1 }

  -- a line of another actor
  pub display_passes : display_text x.body ≡ None → (history : List Entry) → DisplayStands script place history → DisplayStands script (place + 1) history
  display_passes none history stands = by x.body refl
    where
      by : (what : LineBody) → x.body ≡ what → DisplayStands script (place + 1) history
      by (body.Session text) is = display_session script place x at text is history history (QuietStep.same refl) stands
      by (body.Probe asked) is = display_probe script place x at asked is history stands
      by (body.Display text) is = absurd (let wrong : Some text ≡ None = sym (ap display_text is) ∙ none in cc)

  pub passes_spent : (history : List Entry) → made 0 history + lines_by 0 (drop place script.lines) ≤ lines_by 0 script.lines
      → made 0 history + lines_by 0 (drop (place + 1) script.lines) ≤ lines_by 0 script.lines
  passes_spent history spent = let left = lines_left script place x at 0 in omega (arith, left, spent)

  module _ (text : DisplayLine) (is : IsDisplays x text) where
    one_left : lines_by 0 (drop place script.lines) ≡ lines_by 0 (drop (place + 1) script.lines) + 1
    one_left = lines_left script place x at 0 ∙ ap (λ (a : Actor). lines_by 0 (drop (place + 1) script.lines) + cond (seat_number a == 0) 1 0) is.who

    pub display_room : (m : Machine) → m.shares ≡ shares_of script → made 0 m.history + lines_by 0 (drop place script.lines) ≤ lines_by 0 script.lines
        → HasShare m Display
    display_room m shares spent = let left = one_left in rw shares (omega (arith, left, spent))

    played_text : is_played_display script.setup text ≡ true
    played_text = sym (λ i. is_played script.setup (is.who i) (is.what i)) ∙ at.played

    -- it may be entered
    pub may_enter : (m : Machine) → m.setup ≡ script.setup → HasShare m Display → DisplayStands script place m.history
        → MayCall m Display [] (entry_of_display text)
    may_enter m setup share stands = by text is.what (let P : Setup → Type 0 = λ st. is_played_display st text ≡ true in subst P (sym setup) played_text)
      where
        by : (said : DisplayLine) → x.body ≡ body.Display said → is_played_display m.setup said ≡ true → MayCall m Display [] (entry_of_display said)
        by (display.Begin time) what played = may_begin m time share (begin_time_ok script place x at time what m.history stands)
        by display.Done what played = may_finish m share (done_ok script place x at what m.history stands)
        by (display.Hit px py) what played = may_beside m (display.Hit px py) refl share played
        by (display.Signal f) what played = may_beside m (display.Signal f) refl share played
        by (display.Wait c) what played = may_beside m (display.Wait c) refl share played
        by (display.Dpr q) what played = may_beside m (display.Dpr q) refl share played

    -- and the display stands behind it
    pub display_goes : (old new : Machine) → HasEntered x.number (entry_of_display text) old new → DisplayStands script place old.history
        → DisplayStands script (place + 1) new.history
    display_goes old new entered_is stands = by text is.what entered_is
      where
        D : Machine → Type 0
        D m = DisplayStands script (place + 1) m.history

        beside : (said : DisplayLine) → x.body ≡ body.Display said → HasEntered x.number (entry_of_display said) old new → LeavesFrames said → D new
        beside said what grown leaves =
            subst D (sym grown) (display_beside script place x at said (entry_of_display said) _ what refl leaves.no_begin leaves.no_finish leaves.keeps
            old.history stands)

        by : (said : DisplayLine) → x.body ≡ body.Display said → HasEntered x.number (entry_of_display said) old new → D new
        by (display.Begin time) what grown = subst D (sym grown) (display_begin script place x at time what old.history stands)
        by display.Done what grown = subst D (sym grown) (display_done script place x at what old.history stands)
        by (display.Hit px py) what grown = beside (display.Hit px py) what grown (leaves_frames (display.Hit px py) refl)
        by (display.Signal f) what grown = beside (display.Signal f) what grown (leaves_frames (display.Signal f) refl)
        by (display.Wait c) what grown = beside (display.Wait c) what grown (leaves_frames (display.Wait c) refl)
        by (display.Dpr q) what grown = beside (display.Dpr q) what grown (leaves_frames (display.Dpr q) refl)

    pub goes_spent : (old new : Machine) → HasEntered x.number (entry_of_display text) old new
        → made 0 old.history + lines_by 0 (drop place script.lines) ≤ lines_by 0 script.lines
        → made 0 new.history + lines_by 0 (drop (place + 1) script.lines) ≤ lines_by 0 script.lines
    goes_spent old new grown spent =
        let left = one_left in
        let e : Entry = entry_of Display x.number [] (entry_of_display text) (reply_to old.setup old.history Display [] (entry_of_display text)) in
        let more : made 0 new.history ≡ made 0 old.history + 1 = ap (λ (m : Machine). made 0 m.history) grown ∙ made_one 0 old.history e in
        omega (arith, left, more, spent)

-- few frames were finished
pub frames_below : (script : Script) → is_playable script ≡ true → (setup : Setup) (history : List Entry) (left : ℕ) → Legal setup history
    → made 0 history + left ≤ lines_by 0 script.lines → frames history + 1 < 2 ^ 32
frames_below script playable setup history left legal spent =
    let all : length script.lines ≤ 16777216 = few script playable in
    let most = by_at_most 0 script.lines in
    let frames_made = few_frames setup history legal in
    omega (arith, all, most, spent, frames_made)
