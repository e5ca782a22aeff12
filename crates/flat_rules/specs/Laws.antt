-- What holds of a legal history: its credits, what its sessions show, and how it is seen by one session or one family.
use Rattle.std.specs.Prelude.{◌≡◌, ◌+◌, Bool, true, false, ◌||◌, List, [], ◌∷◌, filter, map, length, cond, ℕ, Option}
use Rattle.std.specs.Prelude.{None, All}
use Rattle.flat_base.specs.declared.ids.SessionNo.{SessionNo}
use Rattle.flat_scene.specs.declared.journal.Entry.{Entry}
use Rattle.flat_scene.specs.declared.journal.Event.{Event}
use Rattle.flat_scene.specs.declared.journal.Event.TheVariants as event
use Rattle.flat_scene.specs.declared.journal.EntryKind.{EntryKind}
use Rattle.flat_scene.specs.declared.journal.EntryKind.TheVariants.{View, Viewport, Present}
use Rattle.flat_scene.specs.declared.journal.Reply.{Reply}
use Rattle.flat_scene.specs.declared.journal.Reply.TheVariants.{Done}
use Rattle.flat_scene.specs.declared.setup.Setup.{Setup}
use Rattle.flat_scene.specs.History.{◌▹◌, is_begin, is_finish, is_session, presents}
use Rattle.flat_scene.specs.Frames.{is_signalled, waiting, credits, most_waiting, sessions_to}
use Rattle.flat_rules.specs.Legal.{Legal}
use Rattle.flat_rules.specs.Kinds.{is_get}
use Rattle.flat_rules.specs.Posts.{events_to}
use Rattle.flat_scene.specs.declared.trees.Tree.{Tree}
use Rattle.flat_topology.specs.Fit.{FitsSetup}
use Rattle.flat_rules.specs.Ends.{to_begin}
use Rattle.flat_rules.specs.Shown.{shown_states}

-- ---- credits

-- the presents that a session may make, and those that wait, are one together before a frame took one, and five from
-- then on
abbrev pub CreditsAddUp : Type 0
CreditsAddUp = (setup : Setup) (history : List Entry) → Legal setup history
    → (s : SessionNo) → credits setup history s + length (waiting setup history s) ≡ most_waiting setup history s

-- ---- what is shown

-- what the sessions show fits the setup: only ends that they own, each pair once, and trees that are small enough
abbrev pub ShownStatesFit : Type 0
ShownStatesFit = (setup : Setup) (history : List Entry) → Legal setup history
    → FitsSetup setup (shown_states setup history)

-- so does what the last frame that began shows of them
abbrev pub BegunStatesFit : Type 0
BegunStatesFit = (setup : Setup) (history : List Entry) → Legal setup history
    → FitsSetup setup (shown_states setup (to_begin history))

-- each session of the setup has one state
abbrev pub EachSessionHasOneState : Type 0
EachSessionHasOneState = (setup : Setup) (history : List Entry) → length (shown_states setup history) ≡ setup.sessions

-- before the first entry no session shows anything
abbrev pub NothingIsShownAtFirst : Type 0
NothingIsShownAtFirst = (setup : Setup) (states : List (Option Tree)) → length states ≡ setup.sessions
    → All (λ state. state ≡ None) states → states ≡ shown_states setup []

-- the sessions up to a number are so many
abbrev pub SessionsAreCounted : Type 0
SessionsAreCounted = (n : ℕ) → length (sessions_to n) ≡ n

-- ---- the family law

-- ---- the neighbour law

-- the entries of a session, and where frames begin and finish
abbrev pub is_beside : SessionNo → Entry → Bool
is_beside s entry = is_session s entry.actor || is_begin entry.kind || is_finish entry.kind

-- an entry without its line, and without its reply but for that of a get
abbrev pub but_answers : Entry → Entry
but_answers entry = record entry { line = 0; reply = cond (is_get entry.kind) entry.reply Done }

-- What the law asks of one entry: what it is, and at a Begin, of each present of the session, which of its acquire
-- fences are signalled.
pub record Glimpse : Type 0 where
  pub entry : Entry
  pub signalled : List (List Bool)

-- the glimpse of one entry, and of all that are beside a session
abbrev pub glimpse : Setup → SessionNo → List Entry → Entry → Glimpse
glimpse setup s before entry = record {
  entry = but_answers entry;
  signalled = cond (is_begin entry.kind) (map (λ present. map (is_signalled setup before) present.args.acquire)
      (presents s before)) [];
}

abbrev pub glimpses : Setup → SessionNo → List Entry → List Glimpse
glimpses setup s [] = []
glimpses setup s (before ▹ entry) = cond (is_beside s entry) (glimpse setup s before entry ∷ glimpses setup s before)
    (glimpses setup s before)

-- the events that tokens, queues and frames alone decide
abbrev pub is_own_event : Event → Bool
is_own_event (event.Told p get value) = false
is_own_event _ = true

-- the entries whose replies tokens, queues and frames alone decide
abbrev pub has_own_reply : EntryKind → Bool
has_own_reply (View p) = true
has_own_reply (Viewport p props) = true
has_own_reply (Present args) = true
has_own_reply _ = false

-- What the law says of one entry: its reply, where it is a View, a Viewport or a Present, and its events but for what
-- watchers tell.
pub record Outcome : Type 0 where
  pub reply : Reply
  pub events : List Event

-- the outcome of one entry, and of all that are beside a session
abbrev pub own_events : Setup → SessionNo → List Entry → Entry → List Event
own_events setup s before entry = filter is_own_event (events_to setup before entry s)

abbrev pub outcome : Setup → SessionNo → List Entry → Entry → Outcome
outcome setup s before entry = record {
  reply = cond (has_own_reply entry.kind) entry.reply Done;
  events = own_events setup s before entry;
}

abbrev pub outcomes : Setup → SessionNo → List Entry → List Outcome
outcomes setup s [] = []
outcomes setup s (before ▹ entry) = cond (is_beside s entry) (outcome setup s before entry ∷ outcomes setup s before)
    (outcomes setup s before)
