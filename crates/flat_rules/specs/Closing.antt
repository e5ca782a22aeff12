-- How a session closes.
use Rattle.std.specs.Prelude.{◌≡◌, ◌↔◌, ◌⊎◌, true, false, List, Some}
use Rattle.flat_base.specs.declared.errors.Reason.{Reason}
use Rattle.flat_base.specs.declared.ids.SessionNo.{SessionNo}
use Rattle.flat_scene.specs.declared.calls.PresentArgs.{PresentArgs}
use Rattle.flat_scene.specs.declared.calls.Watch.{Watch}
use Rattle.flat_scene.specs.declared.journal.Entry.{Entry}
use Rattle.flat_scene.specs.declared.setup.Setup.{Setup}
use Rattle.flat_scene.specs.History.{◌▹◌, is_closed, is_session, closes}
use Rattle.flat_scene.specs.Draft.{Draft}
use Rattle.flat_scene.specs.Interleave.{get_tests}
use Rattle.flat_scene.specs.Misuse.{first_reason}
use Rattle.flat_scene.specs.Tree.{present_tests}
use Rattle.flat_rules.specs.Legal.{Legal}
use Rattle.flat_rules.specs.Kinds.{is_close}
use Rattle.flat_rules.specs.Refusals.{may_refuse}

-- An entry closes the session that makes it, and leaves each other session as it was.
pub record ClosesItsSession (before : List Entry) (entry : Entry) : Type 0 where
  pub itself : (s : SessionNo) → is_session s entry.actor ≡ true → is_closed s (before ▹ entry) ≡ true
  pub others : (s : SessionNo) → is_session s entry.actor ≡ false → is_closed s (before ▹ entry) ≡ is_closed s before

-- an entry with the reply Closed does so
abbrev pub RefusalCloses : Type 0
RefusalCloses = (before : List Entry) (entry : Entry) → closes entry.reply ≡ true → ClosesItsSession before entry

-- and so does a Close of a legal history, which a misuse makes, or a session that leaves
abbrev pub CloseCloses : Type 0
CloseCloses = (setup : Setup) (before : List Entry) (entry : Entry) → Legal setup (before ▹ entry)
    → is_close entry.kind ≡ true → ClosesItsSession before entry

-- an entry with another reply closes none
abbrev pub OtherRepliesCloseNone : Type 0
OtherRepliesCloseNone = (before : List Entry) (entry : Entry) → closes entry.reply ≡ false → (s : SessionNo)
    → is_closed s (before ▹ entry) ≡ is_closed s before

-- a draft refuses some present, or some get, by a reason
abbrev pub RefusesSome : Draft → Reason → Type 0
RefusesSome draft reason =
    ((args : PresentArgs) × (first_reason (present_tests draft args) ≡ Some reason))
    ⊎ ((get : Watch) × (first_reason (get_tests draft get) ≡ Some reason))

-- it does so if and only if the test says that it may
abbrev pub RefusalsAreOfLines : Type 0
RefusalsAreOfLines = (draft : Draft) (reason : Reason) → (may_refuse draft reason ≡ true) ↔ RefusesSome draft reason
