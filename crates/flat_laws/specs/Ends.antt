-- What is over stays over: ends that are lost, watchers that told gone, tokens that were used, sessions that closed.
use Rattle.std.specs.Prelude.{ℕ, ◌≤◌, ◌≡◌, ◌+◌, Bool, false, true, cond, ◌&&◌, List, [], ◌++◌, length, Some, None}
use Rattle.std.specs.List.{list_any}
use Rattle.flat_base.specs.declared.ids.PairNo.{PairNo}
use Rattle.flat_base.specs.declared.ids.SessionNo.{SessionNo}
use Rattle.flat_scene.specs.declared.journal.Entry.{Entry}
use Rattle.flat_scene.specs.declared.journal.EntryKind.{EntryKind}
use Rattle.flat_scene.specs.declared.journal.EntryKind.TheVariants.{Viewport}
use Rattle.flat_scene.specs.declared.journal.WatcherValue.TheVariants as tell
use Rattle.flat_scene.specs.declared.setup.Setup.{Setup}
use Rattle.flat_scene.specs.History.{◌▹◌, is_begin, is_closed, is_finish}
use Rattle.flat_watch.specs.Told.{news}
use Rattle.flat_rules.specs.Ends.{is_done, is_view_lost, is_viewport_lost, view_uses, viewport_uses}
use Rattle.flat_rules.specs.Legal.{is_token_back, Legal}
use Rattle.flat_rules.specs.Posts.{events_to, posted, told_event}
use Rattle.flat_rules.specs.Watch.{Watcher, told, watching}

-- A view end that is lost stays lost.
abbrev pub LostViewsStayLost : Type 0
LostViewsStayLost = (setup : Setup) (before later : List Entry) (p : PairNo)
    → is_view_lost setup before p ≡ true → is_view_lost setup (later ++ before) p ≡ true

-- A viewport end that is lost stays lost.
abbrev pub LostViewportsStayLost : Type 0
LostViewportsStayLost = (setup : Setup) (before later : List Entry) (p : PairNo)
    → is_viewport_lost setup before p ≡ true → is_viewport_lost setup (later ++ before) p ≡ true

-- What tells gone goes on to tell gone.
abbrev pub GoneStaysGone : Type 0
GoneStaysGone = (setup : Setup) (before later : List Entry) (watcher : Watcher)
    → told setup before watcher ≡ Some tell.Gone → told setup (later ++ before) watcher ≡ Some tell.Gone

-- A watcher has no news for a get that comes after a history, and no next entry answers a get that it holds.
pub record IsSpent (setup : Setup) (watcher : Watcher) (history : List Entry) : Type 0 where
  pub no_news : news (told setup history watcher) (watching setup watcher history).last ≡ None
  pub no_event : (p : PairNo) (entry : Entry) → told_event setup p watcher history entry ≡ []

-- A watcher that answered gone answers nothing from then on.
abbrev pub GoneIsTheLastAnswer : Type 0
GoneIsTheLastAnswer = (setup : Setup) (before later : List Entry) (watcher : Watcher)
    → (watching setup watcher before).last ≡ Some tell.Gone → IsSpent setup watcher (later ++ before)

-- Each view end is used at most once.
abbrev pub ViewEndsAreUsedOnce : Type 0
ViewEndsAreUsedOnce = (setup : Setup) (history : List Entry) → Legal setup history
    → (p : PairNo) → length (view_uses p history) ≤ 1

-- whether an entry gives the token of a pair's viewport end back
abbrev pub gives_back : Setup → PairNo → List Entry → Entry → Bool
gives_back setup p before entry = list_any (λ sent. is_token_back p sent.event) (posted setup before entry)

-- how many entries of a history do so
abbrev pub times_back : Setup → PairNo → List Entry → ℕ
times_back setup p [] = 0
times_back setup p (before ▹ entry) = cond (gives_back setup p before entry) 1 0 + times_back setup p before

-- Each viewport end is used at most once, and once more each time that its token came back.
abbrev pub ViewportEndsAreUsedInTurn : Type 0
ViewportEndsAreUsedInTurn = (setup : Setup) (history : List Entry) → Legal setup history
    → (p : PairNo) → length (viewport_uses p history) ≤ 1 + times_back setup p history

-- ---- events

-- whether an entry is a CreateViewport that was done
abbrev pub is_viewport : EntryKind → Bool
is_viewport (Viewport p props) = true
is_viewport _ = false

abbrev pub is_done_viewport : Entry → Bool
is_done_viewport entry = is_viewport entry.kind && is_done entry.reply

-- Events are posted by three kinds of entries only: the begin of a frame, its end, and a CreateViewport that was done.
abbrev pub ThreeKindsPostEvents : Type 0
ThreeKindsPostEvents = (setup : Setup) (before : List Entry) (entry : Entry) → Legal setup (before ▹ entry)
    → is_begin entry.kind ≡ false → is_finish entry.kind ≡ false → is_done_viewport entry ≡ false
    → (s : SessionNo) → events_to setup before entry s ≡ []

-- A session that is closed stays closed.
abbrev pub ClosedStaysClosed : Type 0
ClosedStaysClosed = (before later : List Entry) (s : SessionNo)
    → is_closed s before ≡ true → is_closed s (later ++ before) ≡ true

-- A session is sent no event by the entry that closes it, nor by a later one.
abbrev pub ClosedHearNothing : Type 0
ClosedHearNothing = (setup : Setup) (before : List Entry) (entry : Entry) (s : SessionNo)
    → is_closed s (before ▹ entry) ≡ true → events_to setup before entry s ≡ []
