-- A script that isn't raced has one history, and one text for each form.
use Rattle.std.proofs.Common.{◌≡◌, ◌≢◌, ℕ, List, [], ◌∷◌, map, reverse, refl, subst, sym, ap, ◌∙◌}
use Rattle.flat_scene.specs.declared.frames.LostDisplay.{LostDisplay}
use Rattle.flat_scene.specs.declared.journal.Entry.{Entry}
use Rattle.flat_words.specs.declared.service_word.ServiceWord.{ServiceWord}
use Rattle.flat_words.specs.declared.service_word.ServiceWord.TheVariants.{Play, Race, Stress, Render, Damage, Focus, Pointer, Judge, Why, Film}
use Rattle.flat_damage.specs.Unchanged.{DamageIsOne}
use Rattle.flat_focus.specs.Text.{focus_text}
use Rattle.flat_pointer.specs.Text.{pointer_text}
use Rattle.flat_report.specs.Report.{finished}
use Rattle.flat_scene.specs.declared.frames.DrawItem.{DrawItem}
use Rattle.flat_scene.specs.declared.frames.FrameOut.{FrameOut}
use Rattle.flat_stress.specs.Summary.{summary_line}
use Rattle.flat_texts.specs.declared.damage.FrameDamage.{FrameDamage}
use Rattle.flat_texts.specs.Damages.{AreDamaged, damaged_text}
use Rattle.flat_texts.specs.Lines.{finish_lines}
use Rattle.flat_texts.specs.Films.{film_text}
use Rattle.flat_texts.specs.Pictures.{picture_text}
use Rattle.flat_why.specs.Text.{why_text}
use Rattle.flat_play.specs.Touches.{touch_of}
use Rattle.flat_play.specs.InTurn.{seen_in_turn}
use Rattle.flat_report.specs.Laws.{WrittenHistoriesAreOne}
use Rattle.flat_run.specs.declared.reading.ParsedText.{ParsedText}
use Rattle.flat_run.specs.Answering.{ran_of}
use Rattle.flat_run.specs.Forms.{form_read, report_of, IsTextOf, Ran}
use Rattle.flat_run.specs.Totals.{totals_of}
use Rattle.flat_run.specs.Laws.{RunsAreOne, TextsAreOne}
use Rattle.flat_run.specs.Promise.{HasRun, Tells}
use Rattle.flat_run.proofs.OneHistory.{same-read}

module _ (law : WrittenHistoriesAreOne) where
  -- two runs of what was read
  history-one : (form : ServiceWord) → form ≢ Race → (reading reading' : ParsedText) (h h' : List Entry) (l l' : List LostDisplay) (n n' : List ℕ)
      → reading ≡ reading'
      → HasRun form (ran_of reading h l n) → HasRun form (ran_of reading' h' l' n') → h ≡ h'
  history-one form no_race reading reading' h h' l l' n n' same run run' =
      subst (λ (r : ParsedText). HasRun form (ran_of r h' l' n') → h ≡ h') same
      (λ run''. law reading.script.setup reading.script.count reading.script.lines h h' run.run.legal run''.run.legal run.run.interleaves run''.run.interleaves
      (run.written no_race) (run''.written no_race)) run'

  pub runs-are-one : RunsAreOne
  runs-are-one form no_race bytes text text' first second =
      let reading : first.ran.reading ≡ second.ran.reading = same-read (form_read form bytes) first.ran.reading second.ran.reading first.read second.read in
      let history : first.ran.history ≡ second.ran.history =
      history-one form no_race first.ran.reading second.ran.reading first.ran.history second.ran.history first.ran.lost second.ran.lost first.ran.seen
      second.ran.seen reading first.has_run second.has_run in
      (reading, history, first.has_run.in_turn no_race ∙ (λ i. seen_in_turn (reading i).script (history i)) ∙ sym (second.has_run.in_turn no_race))

same-damaged : (one one' : FrameDamage) (later later' : List FrameDamage) → one.frame ≡ one'.frame → one.rects ≡ one'.rects → later ≡ later'
    → one ∷ later ≡ one' ∷ later'
same-damaged one one' later later' frame rects rest = λ i. record { frame = frame i; rects = rects i } ∷ rest i

-- two runs have one damage
damaged-one : DamageIsOne → (before : List DrawItem) (frames : List FrameOut) (damaged others : List FrameDamage) → AreDamaged before frames damaged
    → AreDamaged before frames others → damaged ≡ others
damaged-one law before frames damaged others AreDamaged.none AreDamaged.none = refl
damaged-one law before (frame ∷ frames) (one ∷ later) [] (AreDamaged.next number is rest) other = elim other [ ]
damaged-one law before (frame ∷ frames) (one ∷ later) (one' ∷ later') (AreDamaged.next number is rest) (AreDamaged.next number' is' rest') =
    same-damaged one one' later later' (number ∙ sym number') (law before frame.items one.rects one'.rects is is')
    (damaged-one law frame.items frames later later' rest rest')

-- what a form writes hangs on the run alone
text-one : DamageIsOne → (form : ServiceWord) → form ≢ Race → (ran ran' : Ran) → ran.reading ≡ ran'.reading → ran.history ≡ ran'.history → ran.seen ≡ ran'.seen
    → (form ≡ Play → ran.lost ≡ ran'.lost) → (text text' : List ℕ) → IsTextOf form ran text → IsTextOf form ran' text' → text ≡ text'
text-one damage Play no_race ran ran' reading history seen lost text text' is is' =
    is ∙ (λ i. report_of (ran_of (reading i) (history i) (lost refl i) (seen i))) ∙ sym is'
text-one damage Race no_race ran ran' reading history seen lost text text' is is' = absurd (no_race refl)
text-one damage (Stress asked) no_race ran ran' reading history seen lost text text' is is' =
    is ∙ (λ i. summary_line (totals_of asked (reading i).script.setup (history i))) ∙ sym is'
text-one damage Render no_race ran ran' reading history seen lost text text' is is' =
    is ∙ (λ i. picture_text (reading i).script.setup (finished (reading i).script.setup (history i))) ∙ sym is'
text-one damage Damage no_race ran ran' reading history seen lost text text' is is' =
    let frames : finished ran.reading.script.setup ran.history ≡ finished ran'.reading.script.setup ran'.history =
    (λ i. finished (reading i).script.setup (history i)) in
    let P : List FrameOut → Type 0 = λ fs. AreDamaged [] fs is.damaged in
    is.is ∙ ap damaged_text (damaged-one damage [] (finished ran'.reading.script.setup ran'.history) is.damaged is'.damaged (subst P frames is.are) is'.are)
    ∙ sym is'.is
text-one damage Focus no_race ran ran' reading history seen lost text text' is is' =
    is ∙ (λ i. focus_text (reading i).script.sessions (finish_lines (reverse (history i))) (finished (reading i).script.setup (history i)) (reading i).focus)
    ∙ sym is'
text-one damage Pointer no_race ran ran' reading history seen lost text text' is is' =
    is ∙ (λ i. pointer_text (reading i).script.sessions (finish_lines (reverse (history i))) (finished (reading i).script.setup (history i))
    (map (touch_of (reading i).script.setup (history i)) (reading i).pointers)) ∙ sym is'
text-one damage Judge no_race ran ran' reading history seen lost text text' is is' = absurd is
text-one damage Why no_race ran ran' reading history seen lost text text' is is' = is ∙ (λ i. why_text (reading i).script (history i)) ∙ sym is'
text-one damage Film no_race ran ran' reading history seen lost text text' is is' =
    is ∙ (λ i. film_text (reading i).script.setup (finished (reading i).script.setup (history i))) ∙ sym is'

pub texts-are-one : WrittenHistoriesAreOne → DamageIsOne → TextsAreOne
texts-are-one law damage form no_race bytes text text' first second lost =
    let one = runs-are-one law form no_race bytes text text' first second in
    text-one damage form no_race first.ran second.ran one.0 one.1 one.2 lost text text' first.is second.is
