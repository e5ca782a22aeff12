-- What a history is, and what it says of one actor.
use Rattle.std.specs.Prelude.{Bool, true, false, ◌==◌, List, [], ◌∷◌, ◌++◌, filter}
use Rattle.std.specs.List.{list_any}
use Rattle.flat_base.specs.declared.ids.Actor.{Actor}
use Rattle.flat_base.specs.declared.ids.Actor.TheVariants.{Display, Session, Probe}
use Rattle.flat_base.specs.declared.ids.SessionNo.{SessionNo}
use Rattle.flat_scene.specs.declared.calls.Call.{Call}
use Rattle.flat_scene.specs.declared.calls.PresentArgs.{PresentArgs}
use Rattle.flat_scene.specs.declared.journal.Entry.{Entry}
use Rattle.flat_scene.specs.declared.journal.EntryKind.{EntryKind}
use Rattle.flat_scene.specs.declared.journal.EntryKind.TheVariants.{Present, Begin, Finish, End}
use Rattle.flat_scene.specs.declared.journal.Reply.{Reply}
use Rattle.flat_scene.specs.declared.journal.Reply.TheVariants.{Presented, Closed}

infixl 4 ◌▹◌
-- A history is the list of its entries, the newest first: `before ▹ entry` is `before`, and then `entry`.
pattern abbrev pub ◌▹◌ : List Entry → Entry → List Entry
before ▹ entry = entry ∷ before

-- the kinds of entry by which others are told apart
abbrev pub is_begin : EntryKind → Bool
is_begin (Begin time) = true
is_begin _ = false

abbrev pub is_finish : EntryKind → Bool
is_finish Finish = true
is_finish _ = false

abbrev pub is_end : EntryKind → Bool
is_end (End refused) = true
is_end _ = false

-- whether the actor is the compositor
abbrev pub is_display : Actor → Bool
is_display Display = true
is_display _ = false

-- whether the actor is this session
abbrev pub is_session : SessionNo → Actor → Bool
is_session s (Session t) = t.0 == s.0
is_session s Display = false
is_session s (Probe p) = false

-- the entries of a session
abbrev pub own : SessionNo → List Entry → List Entry
own s history = filter (λ entry. is_session s entry.actor) history

-- whether a reply closes its session
abbrev pub closes : Reply → Bool
closes (Closed error reason) = true
closes _ = false

-- whether a session was closed
abbrev pub is_closed : SessionNo → List Entry → Bool
is_closed s history = list_any (λ entry. closes entry.reply) (own s history)

-- the calls that a history's entries carry, in order
abbrev pub carried : List Entry → List Call
carried [] = []
carried (before ▹ entry) = carried before ++ entry.calls

-- the calls of a session
abbrev pub calls : SessionNo → List Entry → List Call
calls s history = carried (own s history)

-- A present that was accepted, with all calls of its session up to it.
pub record Published : Type 0 where
  pub args : PresentArgs
  pub made : List Call

-- what an entry publishes, once its session has made these calls
abbrev pub published : EntryKind → Reply → List Call → List Published
published (Present args) (Presented number credits) made = record { args = args; made = made } ∷ []
published _ _ _ = []

-- the presents of one session's entries, in order
abbrev pub published_all : List Entry → List Published
published_all [] = []
published_all (before ▹ entry) = published_all before ++ published entry.kind entry.reply (carried (before ▹ entry))

-- the presents of a session: the n-th is present n
abbrev pub presents : SessionNo → List Entry → List Published
presents s history = published_all (own s history)
