-- A run that was made by a guide to its end, and its report.
use Rattle.std.proofs.Common.{◌≡◌, ℕ, zero, suc, ◌+◌, ◌<◌, true, false, List, [], ◌∷◌, length, map, reverse, drop, get_or, refl, sym, ap, ◌∙◌}
use Rattle.std.proofs.Common.{subst, arith, Some, slice_get}
use Rattle.std.specs.List.{list_all}
use Rattle.std.proofs.lemmas.Option.{slice_get-get_or}
use Rattle.std.proofs.lemmas.Grind.{common_steps}
use Rattle.flat_base.specs.declared.ids.Actor.{Actor}
use Rattle.flat_base.specs.declared.ids.Actor.TheVariants.{Display, Session, Probe}
use Rattle.flat_scene.specs.declared.frames.LostDisplay.{LostDisplay}
use Rattle.flat_scene.specs.declared.journal.Entry.{Entry}
use Rattle.flat_scene.specs.declared.journal.PostedEvent.{PostedEvent}
use Rattle.flat_scene.specs.declared.script.LineBody.{LineBody}
use Rattle.flat_scene.specs.declared.script.LineBody.TheVariants as body
use Rattle.flat_scene.specs.declared.script.ScriptLine.{ScriptLine}
use Rattle.flat_scene.specs.declared.setup.Setup.{Setup}
use Rattle.flat_scene.specs.History.{own}
use Rattle.flat_scene.specs.Journals.{history_of}
use Rattle.flat_scene.specs.Interleave.{Interleaves, IsReading, display_lines, session_lines}
use Rattle.flat_rules.specs.Legal.{Legal}
use Rattle.flat_rules.specs.AllPosts.{posts}
use Rattle.flat_places.specs.declared.script.Script.{Script}
use Rattle.flat_playable.specs.Playable.{is_playable, is_played}
use Rattle.flat_report.specs.declared.frame_texts.FrameTexts.{FrameTexts}
use Rattle.flat_report.specs.declared.probes.ProbeAnswer.{ProbeAnswer}
use Rattle.flat_report.specs.FrameTexts.{AreTexts, frame_text}
use Rattle.flat_report.specs.Handed.{answers_of, handed_report}
use Rattle.flat_report.specs.Laws.{FramesAreSeen, HandedIsReport}
use Rattle.flat_report.specs.Probes.{ProbesAnswered, frames_seen, is_asking}
use Rattle.flat_report.specs.Report.{finished, is_loss, report}
use Rattle.flat_report.specs.Runs.{is_display_number}
use Rattle.flat_play.specs.declared.kept_frames.KeptFrames.{KeptFrames}
use Rattle.flat_play.specs.declared.kept_frames.KeptFrames.TheVariants as kept
use Rattle.flat_play.specs.Keeping.{Keeps}
use Rattle.flat_play.proofs.lemmas.Places.{all_to, drop_all, played_all, within}
use Rattle.flat_base.proofs.lemmas.Tests.{and-left, and-right}
use Rattle.flat_judge.specs.declared.guided_run.GuidedRun.{GuidedRun}
use Rattle.flat_judge.specs.declared.session_cursor.SessionCursor.{SessionCursor}
use Rattle.flat_judge.specs.GuidedRuns.{IsWhole, Sits, SitsBy}
use Rattle.flat_judge.specs.Verdicts.{Run}
use Rattle.flat_judge.proofs.ProbePlaces.{probes-whole}

-- what stands at a place within a list
pub record ItemAt {A : Type 0} (xs : List A) (k : ℕ) : Type 0 where
  pub item : A
  pub at : slice_get xs k ≡ Some item

pub item-at : {A : Type 0} (xs : List A) (k : ℕ) → k < length xs → ItemAt xs k
item-at [] k below = absurd (omega (arith, below))
item-at (x ∷ xs) zero below = record { item = x; at = refl }
item-at (x ∷ xs) (suc k) below = let later = item-at xs k (omega (arith, below)) in record { item = later.item; at = later.at }

pub item_is : {A : Type 0} (xs : List A) (i : ℕ) (x : A) → slice_get xs i ≡ Some x → get_or xs i x ≡ x
item_is xs i x at = let same : Some (get_or xs i x) ≡ Some x = sym (slice_get-get_or xs i x (within xs i x at)) ∙ at in cc

-- each line of a probe asks, where each line is played
line_asks : (setup : Setup) (actor : Actor) (text : LineBody) → is_played setup actor text ≡ true → is_asking actor text ≡ true
line_asks setup (Probe p) (body.Probe asked) played = refl
line_asks setup (Probe p) (body.Session said) played = absurd (let wrong : false ≡ true = played in cc)
line_asks setup (Probe p) (body.Display said) played = absurd (let wrong : false ≡ true = played in cc)
line_asks setup Display text played = refl
line_asks setup (Session s) text played = refl

lines_ask : (setup : Setup) (lines : List ScriptLine) → list_all (λ (next : ScriptLine). is_played setup next.actor next.body) lines ≡ true
    → list_all (λ (line : ScriptLine). is_asking line.actor line.body) lines ≡ true
lines_ask setup [] played = refl
lines_ask setup (line ∷ lines) played =
    let here = line_asks setup line.actor line.body (and-left (is_played setup line.actor line.body) _ played) in
    let later = lines_ask setup lines (and-right (is_played setup line.actor line.body) _ played) in
    rw here later

module _ (script : Script) (playable : is_playable script ≡ true) (guided : GuidedRun) (whole : IsWhole script guided) where
  abbrev history : List Entry
  history = guided.screen.board.history

  -- each session has read all its lines
  has_read : (k : ℕ) → k < script.setup.sessions → IsReading script.setup script.count (session_lines (record { 0 = k + 1 }) script.lines)
      (own (record { 0 = k + 1 }) history)
  has_read k below =
      let seats = whole.stands.seats in
      let many = seats.count in
      let there = item-at guided.seats.items k (omega (arith, below, many)) in
      let seat : SessionCursor = there.item in
      let sits = seats.each k seat (omega (arith, below, many)) in
      let S : SessionCursor → Type 0 = λ p. Sits script (record { 0 = k + 1 }) history p in
      subst (SitsBy script (record { 0 = k + 1 }) history seat) (whole.ended k seat below there.at) (subst S (item_is guided.seats.items k seat there.at) sits)

  pub interleaves : Interleaves script.setup script.count script.lines history
  interleaves =
      let display = whole.stands.display in
      record {
        sessions = all_to (λ s. IsReading script.setup script.count (session_lines s script.lines) (own s history)) script.setup.sessions has_read;
        display = display.follows;
        all_read = display.left ∙ ap (λ (n : ℕ). display_lines (drop n script.lines)) whole.display ∙ ap display_lines (drop_all script.lines);
      }

  pub answered : ProbesAnswered script history guided.answers.items
  answered =
      let probes = whole.stands.probes in
      probes-whole script history guided.places guided.answers.items whole.probes probes
      (λ n one got. let below = within guided.answers.items n one got in let a = probes.count in let b = probes.as_many in omega (arith, below, a, b))

  -- the run, with losses that fit it
  abbrev pub run : FramesAreSeen → Legal guided.screen.board.setup history → (lost : List LostDisplay) → is_loss history lost ≡ true
      → list_all (λ (one : LostDisplay). is_display_number one.display) lost ≡ true → Run script
  run seen legal lost loss numbered = record {
    history = history;
    lost = lost;
    seen = frames_seen guided.answers.items;
    is = record {
      legal = (let L : Setup → Type 0 = λ st. Legal st history in subst L whole.stands.screen.setup legal);
      interleaves = interleaves;
      loss = loss;
      numbered = numbered;
      seeing = seen script history guided.answers.items answered;
    };
  }

  -- what it hands to the report is written as its report
  pub handed : HandedIsReport → (texts : FrameTexts) → kept.Texts texts ≡ guided.screen.store.kept
      → (lost : List LostDisplay) (entries : List Entry) (sent : List PostedEvent) (probes : List (List ProbeAnswer)) → probes ≡ guided.answers.items
      → history_of entries ≡ history
      → sent ≡ posts guided.screen.board.setup history → handed_report script entries sent texts.texts.items lost guided.screen.store.answers probes
      ≡ report script history lost (frames_seen guided.answers.items)
  handed law texts texts_are lost entries sent probes probes_are entries_are sent_are =
      let show = whole.stands.screen in
      let K : KeptFrames → Type 0 = λ k. Keeps script k (finished script.setup history) in
      let A : List Entry → Type 0 = λ h. ProbesAnswered script h guided.answers.items in
      let written : AreTexts script (finished script.setup history) texts = subst K (sym texts_are) show.frames.stored.keeps in
      ap (λ (ps : List (List ProbeAnswer)). handed_report script entries sent texts.texts.items lost guided.screen.store.answers ps) probes_are
      ∙ law script entries sent texts.texts.items lost guided.screen.store.answers guided.answers.items (subst A (sym entries_are) answered)
      (lines_ask script.setup script.lines (played_all script playable))
      (sent_are ∙ ap (λ (st : Setup). posts st history) show.setup ∙ ap (posts script.setup) (sym entries_are))
      (written.texts ∙ ap (λ (h : List Entry). map (frame_text script) (finished script.setup h)) (sym entries_are))
      (show.frames.stored.points ∙ ap (answers_of script.setup) (sym entries_are))
      ∙ ap (λ (h : List Entry). report script h lost (frames_seen guided.answers.items)) entries_are

-- as many entries as the history has
pub entries-many : (entries history : List Entry) → history_of entries ≡ history → length entries ≡ length history
entries-many entries history is = reversed entries ∙ ap length is
  where
    reversed : (xs : List Entry) → length xs ≡ length (reverse xs)
    reversed xs = grind (arith, common_steps)
