-- What a hanging get answers, and what its calls do to it.
use Rattle.std.specs.Prelude.{Bool, true, false, cond, List, [], ◌∷◌, Option, Some, None, is_some}
use Rattle.flat_scene.specs.declared.calls.Watch.{Watch}
use Rattle.flat_scene.specs.declared.journal.WatcherValue.{WatcherValue}
use Rattle.flat_watch.specs.declared.hanging_get.HeldAnswer.{HeldAnswer}
use Rattle.flat_watch.specs.declared.hanging_get.GetAnswer.{GetAnswer}
use Rattle.flat_watch.specs.declared.hanging_get.GetAnswer.TheVariants.{Now, Held, BadHangingGet}
use Rattle.flat_watch.specs.Told.{Watching, answer, asking, settled}

-- nothing was asked yet
abbrev pub new_hanging_get : Watching
new_hanging_get = record { last = None; waits = None }

-- the answer to a get, where one is held, or where there is news or none
abbrev pub got : Bool → Option WatcherValue → GetAnswer
got true value = BadHangingGet
got false (Some value) = Now value
got false None = Held

-- the hanging get after a get, where this is told now: it is held, and answered where that is news;
-- while one is held, another changes nothing
abbrev pub after_get : Watch → Option WatcherValue → Watching → Watching
after_get get now w = cond (is_some w.waits) w (settled true now (asking (Some get) w))

-- the answer to the get that is held, with its name
abbrev pub answered_get : Option Watch → Option WatcherValue → Option HeldAnswer
answered_get (Some get) (Some value) = Some (record { get = get; value = value })
answered_get _ _ = None

-- ---- one value told after another

-- what each of them answers, and the hanging get after them
abbrev pub answers : Watching → List (Option WatcherValue) → List (Option WatcherValue)
answers w [] = []
answers w (now ∷ later) = answer now w ∷ answers (settled true now w) later

abbrev pub after_all : Watching → List (Option WatcherValue) → Watching
after_all w [] = w
after_all w (now ∷ later) = after_all (settled true now w) later
