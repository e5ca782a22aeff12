-- What is promised of a call of the service, whatever its status.
use Rattle.std.specs.Prelude.{◌≡◌, ◌≢◌, ℕ, ◌≤◌, ◌||◌, ◌==◌, false, List, Option, IsTrue}
use Rattle.flat_io.specs.Counts.{has_risen}
use Rattle.flat_io.specs.Told.{Appends}
use Rattle.flat_display.specs.Had.{AreKept}
use Rattle.flat_scene.specs.declared.frames.FrameOut.{FrameOut}
use Rattle.flat_words.specs.declared.service_word.ServiceWord.{ServiceWord}
use Rattle.flat_words.specs.Forms.{CallFor}
use Rattle.flat_run.specs.Promise.{AreFramesFor, AreGiven, CallForNothing, Gives, IsCutOff, IsThere, IsTooLarge}
use Rattle.flat_run.specs.Promise.{IsWhole}
use Rattle.flat_run.specs.Promise.{either_rose}

-- What is known of a source: the bytes that it has left, where it tells them, and how many of its reads failed.
pub record SourceState : Type 0 where
  pub left : Option (List ℕ)
  pub faults : ℕ

-- What is known of a sink: the bytes that it holds, where it tells them, how many of its writes failed, and
-- how many took nothing.
pub record SinkState : Type 0 where
  pub held : Option (List ℕ)
  pub faults : ℕ
  pub stalls : ℕ

-- Displays of a type tell these frames, and have these counts of faults.
module _ {D : Type 0} (shown : D → Option (List FrameOut)) (faults : D → ℕ) {K : Type 0} (kind : D → K)
    (words : List (List ℕ)) where
  -- A call with these words left a source, a sink and displays so, and answered a status.
  --
  -- The whole text of the status was written (whole), or its first bytes (cut_off). As many displays stand
  -- there as before, and they have had frames of a run of the script, as far as it came (kept). The source
  -- lost bytes from its front alone (given), and the sink only gained some (gains).
  -- A read failed only with status 4 (read_fault, read), and a write failed or took nothing only with 5
  -- (write_fault, written). Where a script is there and no count rose, the status is 0 or 6 (complete), or 7
  -- or 6 for a picture of a display that is too large (too_large).
  pub record Serves (source source' : SourceState) (sink sink' : SinkState) (olds news : List D)
      (status : ℕ) : Type 0 where
    pub whole : status ≢ 4 → status ≢ 5 → status ≢ 6
        → IsWhole shown faults olds news words source.left source'.left sink.held sink'.held status
    pub cut_off : status ≡ 5 → IsCutOff shown faults olds news words source.left source'.left sink.held sink'.held
    pub kept : AreKept shown faults (AreFramesFor words source.left source'.left) olds news kind
    pub given : (given : List ℕ) × AreGiven given source.left source'.left
    pub gains : (more : List ℕ) × Appends more sink.held sink'.held
    pub read_fault : status ≡ 4 → IsTrue (has_risen source.faults source'.faults)
    pub read : status ≢ 4 → source'.faults ≡ source.faults
    pub write_fault : status ≡ 5 → IsTrue (either_rose sink.faults sink'.faults sink.stalls sink'.stalls)
    pub written : status ≢ 5 → (sink'.faults ≡ sink.faults) × (sink'.stalls ≡ sink.stalls)
    pub counts : (source.faults ≤ source'.faults) × (sink.faults ≤ sink'.faults) × (sink.stalls ≤ sink'.stalls)
    pub usage : CallForNothing words → IsTrue (status == 2 || status == 5 || status == 6)
    pub complete : (form : ServiceWord) → CallFor words form
        → IsThere form source.left source'.left source.faults source'.faults
        → either_rose sink.faults sink'.faults sink.stalls sink'.stalls ≡ false → IsTrue (status == 0 || status == 6)
    pub too_large : (form : ServiceWord) → CallFor words form
        → Gives form (IsTooLarge form) source.left source'.left source.faults source'.faults
        → either_rose sink.faults sink'.faults sink.stalls sink'.stalls ≡ false → IsTrue (status == 7 || status == 6)
    pub statuses : IsTrue
        (status == 0 || status == 2 || status == 3 || status == 4 || status == 5 || status == 6 || status == 7
        || status == 8)
