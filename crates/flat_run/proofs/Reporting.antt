-- What is said of a run that was played to its end.
use Rattle.std.proofs.Common.{◌≡◌, ◌≢◌, ℕ, true, false, List, [], ◌∷◌, Option, Result, Ok, Err, IfOk, refl, sym, ap, ◌∙◌, subst, map}
use Rattle.std.specs.List.{list_all}
use Rattle.flat_base.specs.declared.ids.Actor.{Actor}
use Rattle.flat_base.specs.declared.ids.Actor.TheVariants.{Display, Session, Probe}
use Rattle.flat_scene.specs.declared.frames.FrameOut.{FrameOut}
use Rattle.flat_scene.specs.declared.frames.LostDisplay.{LostDisplay}
use Rattle.flat_scene.specs.declared.journal.Entry.{Entry}
use Rattle.flat_scene.specs.declared.journal.PostedEvent.{PostedEvent}
use Rattle.flat_scene.specs.Journals.{history_of}
use Rattle.flat_scene.specs.declared.script.LineBody.{LineBody}
use Rattle.flat_scene.specs.declared.script.LineBody.TheVariants as body
use Rattle.flat_scene.specs.declared.script.ScriptLine.{ScriptLine}
use Rattle.flat_scene.specs.declared.setup.Setup.{Setup}
use Rattle.flat_scene.specs.Heads.{is_within_limits, owners_declared}
use Rattle.flat_rules.specs.Legal.{Legal, frames}
use Rattle.flat_report.specs.Laws.{DuePresentsAreTaken, HandedIsReport}
use Rattle.flat_rules.specs.Local.{FamiliesAreAlone}
use Rattle.flat_rules.specs.AllPosts.{posts}
use Rattle.flat_display.specs.Had.{AreDriven}
use Rattle.flat_report.specs.Handed.{answers_of, handed_report}
use Rattle.flat_report.specs.Probes.{ProbesAnswered, frames_seen, is_asking}
use Rattle.flat_report.specs.Report.{report, finished, is_seeing}
use Rattle.flat_places.specs.declared.script.Script.{Script}
use Rattle.flat_forms.specs.Body.{dones}
use Rattle.flat_playable.specs.Playable.{is_playable, is_played}
use Rattle.flat_core.specs.Machines.{Machine}
use Rattle.flat_report.specs.declared.probes.ProbeAnswer.{ProbeAnswer}
use Rattle.flat_report.specs.declared.report.HitAnswer.{HitAnswer}
use Rattle.flat_scene.specs.Interleave.{IsWritten}
use Rattle.flat_report.specs.declared.frame_texts.FrameTexts.{FrameTexts}
use Rattle.flat_report.specs.FrameTexts.{frame_text, AreTexts}
use Rattle.flat_play.specs.InTurn.{seen_in_turn}
use Rattle.flat_play.specs.declared.kept_frames.KeptFrames.{KeptFrames}
use Rattle.flat_play.specs.declared.kept_frames.KeptFrames.TheVariants as kept
use Rattle.flat_play.specs.Keeping.{Keeps}
use Rattle.flat_play.specs.Playing.{HasPlayed}
use Rattle.flat_words.specs.declared.service_word.ServiceWord.{ServiceWord}
use Rattle.flat_words.specs.declared.service_word.ServiceWord.TheVariants.{Play, Race, Stress, Render, Damage, Focus, Pointer, Judge, Why, Film}
use Rattle.flat_run.specs.declared.reading.ParsedText.{ParsedText}
use Rattle.flat_run.specs.Answering.{ran_of}
use Rattle.flat_run.specs.Forms.{AreAsked, Fits, is_read}
use Rattle.flat_run.specs.Promise.{HasRun}
use Rattle.flat_play.specs.Showing.{HaveSeen}
use Rattle.flat_base.proofs.lemmas.Tests.{and-left, and-right}
use Rattle.flat_run.proofs.FramesDone.{frames-done}
use Rattle.flat_play.proofs.lemmas.Places.{setup_is, played_all}

-- what follows of each value follows of a result
pub if_ok : {A E : Type 0} (P Q : A → Type 0) (r : Result A E) → ((v : A) → P v → Q v) → IfOk r P → IfOk r Q
if_ok P Q (Ok v) also holds = also v holds
if_ok P Q (Err e) also holds = tt

owners_are : (script : Script) → is_playable script ≡ true → owners_declared script.setup ≡ true
owners_are script playable = and-right (is_within_limits script.setup) (owners_declared script.setup) (and-left _ _ (setup_is script playable))

-- each line of a probe asks, where each line is played
line_asks : (setup : Setup) (actor : Actor) (text : LineBody) → is_played setup actor text ≡ true → is_asking actor text ≡ true
line_asks setup (Probe p) (body.Probe asked) played = refl
line_asks setup (Probe p) (body.Session said) played = absurd (let wrong : false ≡ true = played in cc)
line_asks setup (Probe p) (body.Display said) played = absurd (let wrong : false ≡ true = played in cc)
line_asks setup Display text played = refl
line_asks setup (Session s) text played = refl

lines_ask : (setup : Setup) (lines : List ScriptLine) → list_all (λ (next : ScriptLine). is_played setup next.actor next.body) lines ≡ true
    → list_all (λ (line : ScriptLine). is_asking line.actor line.body) lines ≡ true
lines_ask setup [] played = refl
lines_ask setup (line ∷ lines) played =
    let here = line_asks setup line.actor line.body (and-left (is_played setup line.actor line.body) _ played) in
    let later = lines_ask setup lines (and-right (is_played setup line.actor line.body) _ played) in
    rw here later

-- a form whose script is read asks for no number of frames
pub none_asked : (form : ServiceWord) (n : ℕ) → is_read form ≡ true → AreAsked form n
none_asked (Stress asked) n read = absurd (let wrong : false ≡ true = read in cc)
none_asked Play n read = tt
none_asked Race n read = tt
none_asked Render n read = tt
none_asked Damage n read = tt
none_asked Focus n read = tt
none_asked Pointer n read = tt
none_asked Judge n read = tt
none_asked Why n read = tt
none_asked Film n read = tt

module _ (reading : ParsedText) (board : Machine) (kept_frames : KeptFrames) (answers : List HitAnswer) (playable : is_playable reading.script ≡ true)
    (played : HasPlayed reading.script board kept_frames answers) where
  abbrev script : Script
  script = reading.script

  legal_here : Legal board.setup board.history → Legal script.setup board.history
  legal_here legal = let L : Setup → Type 0 = λ st. Legal st board.history in subst L played.setup legal

  -- a run that came to its end, and what displays have had of it
  pub has_run : {D : Type 0} (shown : D → Option (List FrameOut)) (faults : D → ℕ) (form : ServiceWord) (lost : List LostDisplay) (seen : List ℕ)
      (olds news : List D)
      → (form ≢ Race → IsWritten script.setup board.history) → (form ≢ Race → seen ≡ seen_in_turn script board.history)
      → HaveSeen shown faults (finished script.setup board.history) board.history lost olds news → FamiliesAreAlone → DuePresentsAreTaken
      → Legal board.setup board.history → AreAsked form (frames board.history) → Fits form script → is_seeing script board.history seen ≡ true
      → HasRun form (ran_of reading board.history lost seen)
  has_run shown faults form lost seen olds news written in_turn had alone due legal asked fits seeing = record {
    run = record { legal = legal_here legal; interleaves = played.interleaves; loss = had.loss; numbered = had.numbered; seeing = seeing };
    written = written;
    in_turn = in_turn;
    asked = asked;
    fits = fits;
    families = λ s. alone script.setup (owners_are script playable) board.history (legal_here legal) s;
    due = due script.setup board.history;
  }

  -- the displays have had the frames of the history
  pub have_had : {D : Type 0} (told : D → Option (List FrameOut)) (count : D → ℕ) (lost : List LostDisplay) (olds news : List D)
      → HaveSeen told count (finished script.setup board.history) board.history lost olds news
      → AreDriven told count lost (finished script.setup board.history) olds news
  have_had told count lost olds news seen = seen.driven

  -- a load finishes as many frames as were asked for
  pub load_asked : (asked : ℕ) → Legal board.setup board.history → dones script ≡ asked → frames board.history ≡ asked
  load_asked asked legal many = frames-done script board.history playable (legal_here legal) played.interleaves ∙ many

  -- what a run hands to the report is written as its report
  pub handed_whole : HandedIsReport → (texts : FrameTexts) → kept.Texts texts ≡ kept_frames → (probes given : List (List ProbeAnswer))
      → ProbesAnswered script board.history probes → given ≡ probes
      → (lost handed : List LostDisplay) (entries : List Entry) (sent : List PostedEvent) → history_of entries ≡ board.history
      → sent ≡ posts board.setup board.history
      → handed ≡ lost → handed_report script entries sent texts.texts.items handed answers given ≡ report script board.history lost (frames_seen probes)
  handed_whole law texts texts_are probes given answered given_is lost handed entries sent entries_are sent_are lost_are =
      let K : KeptFrames → Type 0 = λ k. Keeps script k (finished script.setup board.history) in
      let A : List Entry → Type 0 = λ h. ProbesAnswered script h probes in
      let written : AreTexts script (finished script.setup board.history) texts = subst K (sym texts_are) played.keeps in
      ap (λ (ps : List (List ProbeAnswer)). handed_report script entries sent texts.texts.items handed answers ps) given_is
      ∙ law script entries sent texts.texts.items handed answers probes (subst A (sym entries_are) answered)
      (lines_ask script.setup script.lines (played_all script playable))
      (sent_are ∙ ap (λ (st : Setup). posts st board.history) played.setup ∙ ap (posts script.setup) (sym entries_are))
      (written.texts ∙ ap (λ (h : List Entry). map (frame_text script) (finished script.setup h)) (sym entries_are))
      (played.answering ∙ ap (answers_of script.setup) (sym entries_are))
      ∙ ap (λ (h : List Entry). report script h handed (frames_seen probes)) entries_are
      ∙ ap (λ (ls : List LostDisplay). report script board.history ls (frames_seen probes)) lost_are
