-- What is made of what a source gives, before anything is written.
use Rattle.std.specs.Prelude.{◌≡◌, ◌≢◌, ℕ, ◌≤◌, ◌||◌, ◌==◌, true, nat_lt, List, Option, Result, Ok, Err, IfOk, IsTrue}
use Rattle.std.specs.List.{list_all}
use Rattle.flat_io.specs.Counts.{has_risen}
use Rattle.flat_display.specs.Had.{AreKept}
use Rattle.flat_scene.specs.declared.frames.FrameOut.{FrameOut}
use Rattle.flat_scene.specs.declared.frames.LostDisplay.{LostDisplay}
use Rattle.flat_scene.specs.declared.journal.Entry.{Entry}
use Rattle.flat_words.specs.declared.service_word.ServiceWord.{ServiceWord}
use Rattle.flat_words.specs.Forms.{CallFor}
use Rattle.flat_playable.specs.Playable.{is_playable}
use Rattle.flat_pointer.specs.declared.pointers.TheConstants.{POINTERS}
use Rattle.flat_pointer.specs.Lines.{rise_after}
use Rattle.flat_run.specs.declared.answers.ServiceAnswer.{ServiceAnswer}
use Rattle.flat_run.specs.declared.answers.NoAnswer.{NoAnswer}
use Rattle.flat_run.specs.declared.answers.NoAnswer.TheVariants.{Fault}
use Rattle.flat_run.specs.declared.given.Given.{Given}
use Rattle.flat_run.specs.declared.given.Given.TheVariants.{Script, Refused}
use Rattle.flat_run.specs.declared.reading.ParsedText.{ParsedText}
use Rattle.flat_run.specs.Forms.{Fits, Ran, form_read, is_read}
use Rattle.flat_run.specs.Promise.{AreAll, AreFramesFor, AreGiven, AreTooLarge, IsAnswer, IsRefused, Refuses}
use Rattle.flat_run.specs.Promise.{large_line}
use Rattle.flat_run.specs.Serving.{SourceState}

-- What was read can be run: its script is played, its pointers' lines rise, and each is of one of the sixteen.
pub record IsRunnable (reading : ParsedText) : Type 0 where
  pub playable : is_playable reading.script ≡ true
  pub rise : rise_after 0 reading.pointers ≡ true
  pub pointers : list_all (λ line. nat_lt line.pointer POINTERS) reading.pointers ≡ true

-- what ran of it, with the frames that its probes saw
abbrev pub ran_of : ParsedText → List Entry → List LostDisplay → List ℕ → Ran
ran_of reading history lost seen = record { reading = reading; history = history; lost = lost; seen = seen }

-- ---- what is read

-- These bytes are a script for the form, and it can be run.
pub record IsScriptFor (form : ServiceWord) (bytes : List ℕ) (reading : ParsedText) : Type 0 where
  pub read : form_read form bytes ≡ Ok reading
  pub runnable : IsRunnable reading
  pub fits : Fits form reading.script

-- They are none, and the text says where and why; or their script's display is too large for a picture. That
-- has a status.
pub data IsDenied (form : ServiceWord) (bytes : List ℕ) : ℕ → List ℕ → Type 0 where
  refusal : {text : List ℕ} → Refuses form bytes text → IsDenied form bytes 3 text
  too_large : AreTooLarge form bytes → IsDenied form bytes 7 large_line

abbrev pub IsRead : ServiceWord → List ℕ → Given → Type 0
IsRead form bytes (Script reading) = IsScriptFor form bytes reading
IsRead form bytes (Refused answer) = IsDenied form bytes answer.status answer.text

-- So it is with what a source gave. A refusal may be of a text that is too long.
pub data IsTurnedAway (form : ServiceWord) (left left' : Option (List ℕ)) : ℕ → List ℕ → Type 0 where
  refusal : {text : List ℕ} → IsRefused form left left' text → IsTurnedAway form left left' 3 text
  too_large : (bytes : List ℕ) → AreAll bytes left left' → AreTooLarge form bytes
      → IsTurnedAway form left left' 7 large_line

abbrev pub IsGiven : ServiceWord → Option (List ℕ) → Option (List ℕ) → Given → Type 0
IsGiven form left left' (Script reading) = (bytes : List ℕ) × AreAll bytes left left' × IsScriptFor form bytes reading
IsGiven form left left' (Refused answer) = IsTurnedAway form left left' answer.status answer.text

-- ---- what is answered

-- Displays of a type tell these frames, and have these counts of faults.
module _ {D : Type 0} (shown : D → Option (List FrameOut)) (faults : D → ℕ) {K : Type 0} (kind : D → K)
    (form : ServiceWord) where
  -- A source was read for a form, and what it gave was run: this is to be written. Nothing is where a read
  -- failed, or out of memory.
  pub record Answers (source source' : SourceState) (olds news : List D)
      (result : Result ServiceAnswer NoAnswer) : Type 0 where
    pub answer : (words : List (List ℕ)) → CallFor words form
        → IfOk result (λ a. IsAnswer shown faults olds news words source.left source'.left a.status a.text)
    pub statuses : IfOk result (λ a. IsTrue (a.status == 0 || a.status == 3 || a.status == 7 || a.status == 8))
    pub kept : (words : List (List ℕ)) → CallFor words form
        → AreKept shown faults (AreFramesFor words source.left source'.left) olds news kind
    pub given : (given : List ℕ) × AreGiven given source.left source'.left
    pub counts : source.faults ≤ source'.faults
    pub steady : result ≢ Err Fault → source'.faults ≡ source.faults
    pub fault : result ≡ Err Fault → IsTrue (has_risen source.faults source'.faults)
    pub reads : result ≡ Err Fault → is_read form ≡ true
