-- What is written of a script says what was done, and a script that isn't raced is done in one way.
use Rattle.std.specs.Prelude.{◌≡◌, ◌≢◌, ℕ, Bool, true, false, List}
use Rattle.flat_words.specs.declared.service_word.ServiceWord.{ServiceWord}
use Rattle.flat_words.specs.declared.service_word.ServiceWord.TheVariants.{Play, Race}
use Rattle.flat_run.specs.Promise.{Tells}

-- whether a form writes the report
abbrev pub writes_report : ServiceWord → Bool
writes_report Play = true
writes_report Race = true
writes_report _ = false

-- a report of a script, played or raced, has one run: one script, one history, one list of lost displays, and
-- one of frames seen
abbrev pub ReportsHaveOneRun : Type 0
ReportsHaveOneRun = (form : ServiceWord) → writes_report form ≡ true
    → (bytes text : List ℕ) (first second : Tells form bytes text) → first.ran ≡ second.ran

-- of all runs of some bytes for a form that isn't a race, whatever was written of them, there is one script,
-- one history, and one list of frames seen
abbrev pub RunsAreOne : Type 0
RunsAreOne = (form : ServiceWord) → form ≢ Race
    → (bytes text text' : List ℕ) (first : Tells form bytes text) (second : Tells form bytes text')
    → (first.ran.reading ≡ second.ran.reading) × (first.ran.history ≡ second.ran.history)
    × (first.ran.seen ≡ second.ran.seen)

-- so there is one text for each such form; a report also tells which displays were lost
abbrev pub TextsAreOne : Type 0
TextsAreOne = (form : ServiceWord) → form ≢ Race
    → (bytes text text' : List ℕ) (first : Tells form bytes text) (second : Tells form bytes text')
    → (form ≡ Play → first.ran.lost ≡ second.ran.lost) → text ≡ text'
