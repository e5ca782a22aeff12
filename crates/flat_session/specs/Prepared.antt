-- What came of a line before its entry is made.
use Rattle.std.specs.Prelude.{◌≡◌, ◌+◌, true, false, List, Option, Some, None}
use Rattle.flat_scene.specs.declared.journal.Entry.{Entry}
use Rattle.flat_scene.specs.declared.journal.EntryKind.{EntryKind}
use Rattle.flat_scene.specs.declared.journal.Reply.{Reply}
use Rattle.flat_scene.specs.declared.journal.Reply.TheVariants.{Done, Closed}
use Rattle.flat_scene.specs.declared.script.SessionLine.{SessionLine}
use Rattle.flat_scene.specs.declared.setup.Setup.{Setup}
use Rattle.flat_scene.specs.Interleave.{entry_of_line}
use Rattle.flat_session.specs.declared.requested_entry.RequestedEntry.{RequestedEntry}
use Rattle.flat_session.specs.declared.session_reader.PreparedLine.{PreparedLine}
use Rattle.flat_session.specs.declared.session_reader.PreparedLine.TheVariants.{Refused, Waits, Enters}
use Rattle.flat_session.specs.declared.session_reader.SessionReader.{SessionReader}
use Rattle.flat_session.specs.Made.{kind_of, takes_memory}
use Rattle.flat_session.specs.Reads.{Stands, IsReady, draft_so_far, kept_calls, viewport_call, with_line}

-- a session stands behind some entries
abbrev pub HasStood : SessionReader → Type 0
HasStood reader = (setup : Setup) × ((mine : List Entry) × Stands setup mine reader)

module _ (setup : Setup) (mine : List Entry) (text : SessionLine) (old new : SessionReader) where
  -- the entry that a line makes of an open session, by the calls so far
  abbrev pub entry_now : Option EntryKind
  entry_now = entry_of_line setup (draft_so_far setup mine old.pending) text

  -- The line came after the one that closed the session, and is counted.
  pub record IsRefused (reply : Reply) : Type 0 where
    pub closed : old.closed ≡ true
    pub answer : reply ≡ Closed None None
    pub rest : new ≡ record old { refused = old.refused + 1 }
    pub stands : Stands setup mine new

  -- The line makes no entry, and its call waits.
  pub record IsWaiting (reply : Reply) : Type 0 where
    pub opened : old.closed ≡ false
    pub answer : reply ≡ Done
    pub rest : new ≡ with_line text old new.draft
    pub none : entry_now ≡ None
    pub stands : Stands setup mine new

  -- The line makes this entry, and the session is ready for it. An entry for which there is no memory leaves the calls
  -- that waited before.
  pub record IsPreparedFor (made : RequestedEntry) : Type 0 where
    pub opened : old.closed ≡ false
    pub rest : new ≡ with_line text old new.draft
    pub some : entry_now ≡ Some (kind_of made)
    pub ready : IsReady setup mine new made
    pub kept : takes_memory made ≡ true → kept_calls (viewport_call made) new.pending ≡ old.pending

  abbrev pub Prepares : PreparedLine → Type 0
  Prepares (Refused reply) = IsRefused reply
  Prepares (Waits reply) = IsWaiting reply
  Prepares (Enters made) = IsPreparedFor made
