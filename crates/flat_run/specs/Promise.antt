-- What a call of the service answers, writes and shows.
use Rattle.std.specs.Prelude.{◌≡◌, ◌≢◌, ◌⊎◌, ⊤, ℕ, ◌*◌, ◌<◌, Bool, ◌||◌, true, false, List, [], ◌∷◌, ◌++◌, length}
use Rattle.std.specs.Prelude.{Option, Some, Ok, Err, codes}
use Rattle.flat_io.specs.Counts.{has_risen}
use Rattle.flat_io.specs.Told.{WhereTold, Appends}
use Rattle.flat_io.specs.Whole.{AppendsPrefix}
use Rattle.flat_base.specs.declared.ids.SessionNo.{SessionNo}
use Rattle.flat_base.specs.declared.limits.TheConstants.{SCRIPT_BYTES_MAX}
use Rattle.flat_scene.specs.declared.frames.FrameOut.{FrameOut}
use Rattle.flat_scene.specs.Interleave.{IsWritten}
use Rattle.flat_scene.specs.Family.{family}
use Rattle.flat_report.specs.Due.{TakesDue}
use Rattle.flat_rules.specs.FamilyLaw.{IsFamilyLaw}
use Rattle.flat_rules.specs.Legal.{frames}
use Rattle.flat_script.specs.declared.script.ScriptFault.{ScriptFault}
use Rattle.flat_display.specs.Had.{AreDriven}
use Rattle.flat_report.specs.Report.{finished}
use Rattle.flat_play.specs.Beginning.{AreBegun}
use Rattle.flat_play.specs.InTurn.{seen_in_turn}
use Rattle.flat_report.specs.Runs.{IsRun}
use Rattle.flat_stress.specs.Load.{load_text}
use Rattle.flat_words.specs.declared.service_word.ServiceWord.{ServiceWord}
use Rattle.flat_words.specs.declared.service_word.ServiceWord.TheVariants.{Race, Stress, Render, Judge, Film}
use Rattle.flat_words.specs.Forms.{CallFor}
use Rattle.flat_render.specs.declared.tile_grid.TheConstants.{PIXELS_MAX}
use Rattle.flat_places.specs.declared.script.Script.{Script}
use Rattle.flat_forms.specs.Body.{dones}
use Rattle.flat_run.specs.declared.given.TheConstants.{FILM_PIXELS_MAX}
use Rattle.flat_run.specs.declared.reading.ParsedText.{ParsedText}
use Rattle.flat_run.specs.Judging.{IsJudged, fault_line}
use Rattle.flat_run.specs.Forms.{is_read, form_read, pixels, Fits, Ran, AreAsked, IsTextOf}

-- ---- the words

-- The words call for no form.
abbrev pub CallForNothing : List (List ℕ) → Type 0
CallForNothing words = (form : ServiceWord) → CallFor words form → ⊥

-- what is written where the words call for no form
abbrev pub usage_line : List ℕ
usage_line =
    codes "usage: flatland play | race | stress N | render | damage | focus | pointer | judge | why | film" ++ 10 ∷ []

-- ---- the bytes

-- These bytes are what a source lost from its front, where it tells its bytes.
abbrev pub AreGiven : List ℕ → Option (List ℕ) → Option (List ℕ) → Type 0
AreGiven given left left' = WhereTold left left' (λ before after. before ≡ given ++ after)

-- These bytes are all that it had left, and it has nothing left.
abbrev pub AreAll : List ℕ → Option (List ℕ) → Option (List ℕ) → Type 0
AreAll given left left' = WhereTold left left' (λ before after. (before ≡ given) × (after ≡ []))

-- These bytes are the text of a form's script.
abbrev pub AreTextOf : ServiceWord → Option (List ℕ) → Option (List ℕ) → List ℕ → Type 0
AreTextOf (Stress asked) left left' bytes = bytes ≡ load_text asked
AreTextOf _ left left' bytes = AreAll bytes left left'

-- A form can't read these bytes, and the text says where and why.
pub record Refuses (form : ServiceWord) (bytes text : List ℕ) : Type 0 where
  pub fault : ScriptFault
  pub read : form_read form bytes ≡ Err fault
  pub is : text ≡ fault_line fault

-- What the source gave is refused: all that it had left, or more than a script may have.
pub record IsRefused (form : ServiceWord) (left left' : Option (List ℕ)) (text : List ℕ) : Type 0 where
  pub bytes : List ℕ
  pub given : AreAll bytes left left' ⊎ ((SCRIPT_BYTES_MAX < length bytes) × AreGiven bytes left left')
  pub refuses : Refuses form bytes text

-- ---- pictures

-- A script's display has more pixels than a picture may have, or the pictures of all its frames have too many.
abbrev pub IsTooLarge : ServiceWord → Script → Type 0
IsTooLarge Render script = PIXELS_MAX < pixels script
IsTooLarge Film script = (PIXELS_MAX < pixels script) ⊎ (FILM_PIXELS_MAX < dones script * pixels script)
IsTooLarge _ script = ⊥

-- what is written where a picture is asked for of such a display
abbrev pub large_line : List ℕ
large_line = codes "picture too large" ++ 10 ∷ []

-- These bytes are a script of which a form would write too large a picture.
pub record AreTooLarge (form : ServiceWord) (bytes : List ℕ) : Type 0 where
  pub reading : ParsedText
  pub read : form_read form bytes ≡ Ok reading
  pub large : IsTooLarge form reading.script

-- ---- what ran

-- The script ran for a form. The history is legal and interleaves the script's actors, in written order
-- unless it is a race. A load's history has as many frames as were asked for. Unless it is a race, each line of
-- a probe saw the last frame that was finished before it. The display isn't too large for the form. The entries
-- of each session's family and the frames alone are legal too, with the same replies. They send the family the
-- same events at the same entries; no other entry sends the family an event. Each frame takes at its begin
-- every present that is due.
pub record HasRun (form : ServiceWord) (ran : Ran) : Type 0 where
  pub run : IsRun ran.reading.script ran.history ran.lost ran.seen
  pub written : form ≢ Race → IsWritten ran.reading.script.setup ran.history
  pub in_turn : form ≢ Race → ran.seen ≡ seen_in_turn ran.reading.script ran.history
  pub asked : AreAsked form (frames ran.history)
  pub fits : Fits form ran.reading.script
  pub families : (s : SessionNo) → IsFamilyLaw ran.reading.script.setup (family ran.reading.script.setup s) ran.history
  pub due : TakesDue ran.reading.script.setup ran.history

-- These bytes are a script, which ran for the form, and the text is what is written of it.
pub record Tells (form : ServiceWord) (bytes text : List ℕ) : Type 0 where
  pub ran : Ran
  pub read : form_read form bytes ≡ Ok ran.reading
  pub has_run : HasRun form ran
  pub is : IsTextOf form ran text

-- ---- the answer

-- Displays of a type tell these frames, and have these counts of faults; a call found them so, and left them so.
module _ {D : Type 0} (shown : D → Option (List FrameOut)) (faults : D → ℕ) (olds news : List D) where
  -- The displays have had the frames of what is told, but for those of them that were lost.
  abbrev pub IsTold : ServiceWord → List ℕ → List ℕ → Type 0
  IsTold form bytes text =
      (tells : Tells form bytes text)
      × AreDriven shown faults tells.ran.lost (finished tells.ran.reading.script.setup tells.ran.history) olds news

  -- What is to be written of the words, with a status: the usage, a refusal, that a picture would be too
  -- large, what is said of a script with a report behind it, or what their form tells of what ran.
  pub data IsAnswer (words : List (List ℕ)) (left left' : Option (List ℕ)) : ℕ → List ℕ → Type 0 where
    usage : CallForNothing words → news ≡ olds → IsAnswer words left left' 2 usage_line
    refusal : (form : ServiceWord) {text : List ℕ} → CallFor words form → is_read form ≡ true
        → IsRefused form left left' text
        → news ≡ olds → IsAnswer words left left' 3 text
    too_large : (form : ServiceWord) (bytes : List ℕ) → CallFor words form → AreAll bytes left left'
        → AreTooLarge form bytes
        → news ≡ olds → IsAnswer words left left' 7 large_line
    judged : (bytes : List ℕ) {status : ℕ} {text : List ℕ} → CallFor words Judge → AreAll bytes left left'
        → IsJudged bytes status text → news ≡ olds → IsAnswer words left left' status text
    told : (form : ServiceWord) (bytes : List ℕ) {text : List ℕ} → CallFor words form → AreTextOf form left left' bytes
        → IsTold form bytes text → IsAnswer words left left' 0 text

  -- The whole text of a status was written.
  pub record IsWhole (words : List (List ℕ)) (left left' held held' : Option (List ℕ)) (status : ℕ) : Type 0 where
    pub text : List ℕ
    pub is : IsAnswer words left left' status text
    pub whole : Appends text held held'

  -- The first bytes of a text were written, and a write failed or took nothing.
  pub record IsCutOff (words : List (List ℕ)) (left left' held held' : Option (List ℕ)) : Type 0 where
    pub status : ℕ
    pub text : List ℕ
    pub is : IsAnswer words left left' status text
    pub part : AppendsPrefix text held held'

-- ---- what displays were shown, however far a run came

-- These are the frames of a run of a form's script as far as it came; where nothing ran there are none.
pub data AreFramesOf (form : ServiceWord) (bytes : List ℕ) : List FrameOut → Type 0 where
  none : AreFramesOf form bytes []
  some : (reading : ParsedText) {frames : List FrameOut} → form_read form bytes ≡ Ok reading
      → AreBegun reading.script frames → AreFramesOf form bytes frames

-- They are those of a form that the words call for, and the bytes are the text of its script.
pub data AreFramesFor (words : List (List ℕ)) (left left' : Option (List ℕ)) : List FrameOut → Type 0 where
  none : AreFramesFor words left left' []
  some : (form : ServiceWord) (bytes : List ℕ) {frames : List FrameOut} → CallFor words form
      → AreTextOf form left left' bytes
      → AreFramesOf form bytes frames → AreFramesFor words left left' frames

-- whether a sink's count of faults rose, or its count of stalls
abbrev pub either_rose : ℕ → ℕ → ℕ → ℕ → Bool
either_rose failed failed' stalled stalled' = has_risen failed failed' || has_risen stalled stalled'

-- ---- where a script is given

-- The source tells its bytes, what it gave is a script for the form, of this sort, and no read of it failed.
pub record Gives (form : ServiceWord) (IsOfSort : Script → Type 0) (left left' : Option (List ℕ))
    (failed failed' : ℕ) : Type 0 where
  pub given : List ℕ
  pub after : List ℕ
  pub reading : ParsedText
  pub before_is : left ≡ Some (given ++ after)
  pub after_is : left' ≡ Some after
  pub read : form_read form given ≡ Ok reading
  pub sort : IsOfSort reading.script
  pub steady : has_risen failed failed' ≡ false

-- The script of a form is there, and its display isn't too large: that of a load always is. A judge is promised
-- no status 0, whatever it reads.
abbrev pub IsThere : ServiceWord → Option (List ℕ) → Option (List ℕ) → ℕ → ℕ → Type 0
IsThere (Stress asked) left left' failed failed' = ⊤
IsThere Judge left left' failed failed' = ⊥
IsThere form left left' failed failed' = Gives form (Fits form) left left' failed failed'
