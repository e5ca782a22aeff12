-- Small lists of values, computed.
use Rattle.std.proofs.Common.{◌≡◌, ℕ, true, false, [], ◌∷◌, Some, None, refl}
use Rattle.std.specs.Prelude.{find}
use Rattle.std.specs.List.{position_from}
use Rattle.flat_scene.specs.declared.calls.Watch.TheVariants as watch
use Rattle.flat_scene.specs.declared.journal.WatcherValue.{WatcherValue}
use Rattle.flat_scene.specs.declared.journal.WatcherValue.TheVariants.{Layout, Connected, Disconnected, HasPresented, Gone}
use Rattle.flat_watch.specs.declared.hanging_get.GetAnswer.TheVariants.{Now, Held, BadHangingGet}
use Rattle.flat_watch.specs.Told.{same_told, news, asking, settled}
use Rattle.flat_watch.specs.HangingGets.{after_all, after_get, answers, answered_get, got, new_hanging_get}
use Rattle.flat_watch.specs.Laws.{answers_from, is_news}

abbrev sized : ℕ → WatcherValue
sized w = Layout (record { w = w; h = 1; inset = record { top = 0; right = 0; bottom = 0; left = 0 }; ratio = 65536 })

layouts_differ : same_told (sized 5) (sized 6) ≡ false
layouts_differ = refl

layouts_are_the_same : same_told (sized 5) (sized 5) ≡ true
layouts_are_the_same = refl

sorts_differ : same_told HasPresented Gone ≡ false
sorts_differ = refl

same_is_no_news : news (Some Gone) (Some Gone) ≡ None
same_is_no_news = refl

first_is_news : news (Some Gone) None ≡ Some Gone
first_is_news = refl

-- answered at once, and then held until the value changes; the same value answers nothing
at_once : after_get watch.Layout (Some (sized 5)) new_hanging_get ≡ record { last = Some (sized 5); waits = None }
at_once = refl

held_until_it_changes : answers_from watch.Layout (Some (sized 5)) (Some (sized 5) ∷ Some (sized 6) ∷ Some (sized 7) ∷ [])
    (record { last = Some (sized 5); waits = None }) ≡ None ∷ None ∷ Some (sized 6) ∷ None ∷ []
held_until_it_changes = refl

-- what changes and changes back is not told
changes_back : after_get watch.Status (Some Connected) (after_all (record { last = Some Connected; waits = None }) (Some Disconnected ∷ Some Connected ∷ []))
    ≡ record { last = Some Connected; waits = Some watch.Status }
changes_back = refl

-- a second get while one is held
second_get : got true (Some Gone) ≡ BadHangingGet
second_get = refl

second_changes_nothing : after_get watch.Status (Some Gone) (record { last = None; waits = Some watch.Layout })
    ≡ record { last = None; waits = Some watch.Layout }
second_changes_nothing = refl

first_get : got false (news None None) ≡ Held
first_get = refl

get_at_once : got false (news (Some Gone) (Some HasPresented)) ≡ Now Gone
get_at_once = refl

-- a value that is there no more answers nothing
gone_before_asked : answers (after_get watch.Layout None (after_all new_hanging_get (Some HasPresented ∷ None ∷ []))) (Some Gone ∷ []) ≡ Some Gone ∷ []
gone_before_asked = refl

-- an answer has the name of its get
named : answered_get (Some watch.Status) (Some Gone) ≡ Some (record { get = watch.Status; value = Gone })
named = refl

-- the first news from the get on, and its moment
first_news_from_a_get : find (is_news (Some Connected)) (Some Connected ∷ Some Connected ∷ Some Gone ∷ Some Connected ∷ []) ≡ Some (Some Gone)
first_news_from_a_get = refl

its_moment : position_from (is_news (Some Connected)) 0 (Some Connected ∷ Some Connected ∷ Some Gone ∷ Some Connected ∷ []) ≡ Some 2
its_moment = refl

-- a watcher answers its held get where its session listens
watcher_waits : settled true None (asking (Some watch.Status) (record { last = None; waits = None })) ≡ record { last = None; waits = Some watch.Status }
watcher_waits = refl

watcher_answers : settled true (Some Connected) (record { last = None; waits = Some watch.Status }) ≡ record { last = Some Connected; waits = None }
watcher_answers = refl

watcher_is_deaf : settled false (Some Connected) (record { last = None; waits = Some watch.Status }) ≡ record { last = None; waits = Some watch.Status }
watcher_is_deaf = refl
