-- When a get is answered, and by which value.
use Rattle.std.specs.Prelude.{◌≡◌, ◌↔◌, Bool, true, false, List, ◌∷◌, find, Option, Some, None, is_some}
use Rattle.std.specs.List.{list_any, position_from}
use Rattle.flat_scene.specs.declared.calls.Watch.{Watch}
use Rattle.flat_scene.specs.declared.journal.WatcherValue.{WatcherValue}
use Rattle.flat_watch.specs.HangingGets.{after_all, after_get, answers}
use Rattle.flat_watch.specs.Told.{Watching, same_told, news, answer, settled}

-- the test for the same value is equality
abbrev pub SameIsEqual : Type 0
SameIsEqual = (a b : WatcherValue) → (same_told a b ≡ true) ↔ (a ≡ b)

-- whether a value is there and differs from the one answered last
abbrev pub is_news : Option WatcherValue → Option WatcherValue → Bool
is_news last now = is_some (news now last)

-- what a get answers at once, and what it answers at each of the values told later
abbrev pub answers_from : Watch → Option WatcherValue → List (Option WatcherValue) → Watching
    → List (Option WatcherValue)
answers_from get now later w = news now w.last ∷ answers (after_get get now w) later

-- A get is answered by the first value, from its own moment on, that is there and differs from the one answered last.
-- Until then nothing is said, and it is held.
pub record AnswersFirstNews (w : Watching) (get : Watch) (now : Option WatcherValue)
    (later : List (Option WatcherValue)) : Type 0 where
  pub value : find is_some (answers_from get now later w) ≡ find (is_news w.last) (now ∷ later)
  pub moment : position_from is_some 0 (answers_from get now later w) ≡ position_from (is_news w.last) 0 (now ∷ later)
  pub waits : list_any is_some (answers_from get now later w) ≡ false
      → (after_all (after_get get now w) later).waits ≡ Some get

abbrev pub FirstNewsIsAnswered : Type 0
FirstNewsIsAnswered = (w : Watching) → w.waits ≡ None → (get : Watch) (now : Option WatcherValue)
    (later : List (Option WatcherValue))
    → AnswersFirstNews w get now later

-- a value that answers leaves no get held, and is the one answered last
abbrev pub AnswersOnce : Type 0
AnswersOnce = (w : Watching) (now : Option WatcherValue) (value : WatcherValue) → answer now w ≡ Some value
    → settled true now w ≡ record { last = Some value; waits = None }

-- a value that answers nothing changes nothing
abbrev pub SilenceChangesNothing : Type 0
SilenceChangesNothing = (w : Watching) (now : Option WatcherValue) → answer now w ≡ None → settled true now w ≡ w

-- where no get is held, no value answers
abbrev pub SilentUnasked : Type 0
SilentUnasked = (w : Watching) → w.waits ≡ None → (now : Option WatcherValue) → answer now w ≡ None
