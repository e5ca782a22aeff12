-- When a get is answered: by the first value told from the get on that is there and differs from the watcher's last
-- answer.
use Rattle.std.specs.Prelude.{◌≡◌, Bool, true, false, cond, ◌||◌, List, [], ◌∷◌, ◌++◌, Option, Some, None, is_some}
use Rattle.std.specs.List.{Contains}
use Rattle.flat_base.specs.declared.errors.FlatlandError.TheVariants.{BadHangingGet}
use Rattle.flat_base.specs.declared.ids.Actor.TheVariants.{Session}
use Rattle.flat_base.specs.declared.ids.PairNo.{PairNo}
use Rattle.flat_base.specs.declared.ids.SessionNo.{SessionNo}
use Rattle.flat_scene.specs.declared.calls.Watch.{Watch}
use Rattle.flat_scene.specs.declared.journal.Entry.{Entry}
use Rattle.flat_scene.specs.declared.journal.Event.{Event}
use Rattle.flat_scene.specs.declared.journal.Reply.TheVariants.{Closed}
use Rattle.flat_scene.specs.declared.journal.WatcherValue.{WatcherValue}
use Rattle.flat_scene.specs.declared.setup.Setup.{Setup}
use Rattle.flat_scene.specs.History.{◌▹◌, is_closed}
use Rattle.flat_rules.specs.Legal.{Legal, got}
use Rattle.flat_rules.specs.Local.{pair_watched}
use Rattle.flat_rules.specs.Posts.{told_event, event_of, events_to}
use Rattle.flat_rules.specs.Watch.{Watcher, watching, told, asked, listener, is_open}
use Rattle.flat_watch.specs.Told.{news, answered_by}
use Rattle.std.specs.Option.{option_or}

module _ (setup : Setup) where
  -- the first value told that is there and differs from the last answer:
  -- after a history, or after one of the entries that are put onto it
  abbrev pub first_news : Watcher → Option WatcherValue → List Entry → List Entry → Option WatcherValue
  first_news watcher last from [] = news (told setup from watcher) last
  first_news watcher last from (later ▹ entry) =
      option_or (first_news watcher last from later) (news (told setup ((later ▹ entry) ++ from) watcher) last)

  -- whether one of the entries that are put onto a history is a get of the watcher
  abbrev pub is_asked : Watcher → List Entry → List Entry → Bool
  is_asked watcher from [] = false
  is_asked watcher from (later ▹ entry) =
      is_asked watcher from later || is_some (asked setup watcher (later ++ from) entry)

  -- the watcher's listener is a session that is open
  abbrev pub is_heard : Watcher → List Entry → Bool
  is_heard watcher history = is_open setup (listener setup watcher) history

  -- Where an entry is a get of a watcher that holds none, with this last answer, and no later entry is a get of it:
  -- as long as there is no such
  -- value the get is held, and once there is one it is answered with the first.
  pub record AnswersFirst (watcher : Watcher) (get : Watch) (last : Option WatcherValue) (before : List Entry)
      (entry : Entry) : Type 0 where
    -- at the get itself it is the reply
    pub reply : entry.reply ≡ got false (first_news watcher last (before ▹ entry) [])
    -- at a later entry it is an event, which comes once
    pub event : (later : List Entry) (next : Entry) (p : PairNo)
        → is_asked watcher (before ▹ entry) later ≡ false → is_heard watcher (later ++ (before ▹ entry)) ≡ true
        → told_event setup p watcher (later ++ (before ▹ entry)) next
        ≡ event_of p (Some get) (cond (is_some (first_news watcher last (before ▹ entry) later)) None
        (first_news watcher last (before ▹ entry) (later ▹ next)))
    -- after it the get is held no more, and the answer is the last one
    pub holds : (later : List Entry) → is_asked watcher (before ▹ entry) later ≡ false
        → is_heard watcher (later ++ (before ▹ entry)) ≡ true
        → watching setup watcher (later ++ (before ▹ entry))
        ≡ answered_by (first_news watcher last (before ▹ entry) later) (record { last = last; waits = Some get })

-- the first news answers a get of a watcher that holds none
abbrev pub FirstNewsAnswers : Type 0
FirstNewsAnswers = (setup : Setup) (before : List Entry) (entry : Entry) → Legal setup (before ▹ entry)
    → (watcher : Watcher) (get : Watch) → asked setup watcher before entry ≡ Some get
    → (watching setup watcher before).waits ≡ None
    → AnswersFirst setup watcher get (watching setup watcher before).last before entry

-- a get of a watcher that holds one is refused
abbrev pub SecondGetIsRefused : Type 0
SecondGetIsRefused = (setup : Setup) (before : List Entry) (entry : Entry) → Legal setup (before ▹ entry)
    → (watcher : Watcher) (get held : Watch) → asked setup watcher before entry ≡ Some get
    → (watching setup watcher before).waits ≡ Some held
    → entry.reply ≡ Closed (Some BadHangingGet) None

-- a watcher that holds no get stays as it is until there is one, and one that was never asked has answered nothing
abbrev pub UnaskedStays : Type 0
UnaskedStays = (setup : Setup) (watcher : Watcher) (from later : List Entry)
    → (watching setup watcher from).waits ≡ None → is_asked setup watcher from later ≡ false
    → watching setup watcher (later ++ from) ≡ watching setup watcher from

abbrev pub NothingIsAnsweredAtFirst : Type 0
NothingIsAnsweredAtFirst = (setup : Setup) (watcher : Watcher)
    → watching setup watcher [] ≡ record { last = None; waits = None }

-- what a watcher answers to a held get at an entry is one of the events that the entry posts to its listener, if that
-- is open then
abbrev pub AnswersArePosted : Type 0
AnswersArePosted = (setup : Setup) (before : List Entry) (entry : Entry) → Legal setup before
    → (watcher : Watcher) (s : SessionNo) → listener setup watcher ≡ Some (Session s)
    → is_closed s (before ▹ entry) ≡ false
    → (event : Event) → told_event setup (pair_watched watcher) watcher before entry ≡ event ∷ []
    → Contains (events_to setup before entry s) event
