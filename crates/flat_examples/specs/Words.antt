-- Short words for small histories.
use Rattle.std.specs.Prelude.{false, ℕ, List, [], ◌∷◌}
use Rattle.flat_base.specs.declared.ids.Actor.TheVariants.{Display, Session}
use Rattle.flat_base.specs.declared.ids.ContentId.{ContentId}
use Rattle.flat_base.specs.declared.ids.FenceNo.{FenceNo}
use Rattle.flat_base.specs.declared.ids.PairNo.{PairNo}
use Rattle.flat_base.specs.declared.ids.SessionNo.{SessionNo}
use Rattle.flat_base.specs.declared.ids.TransformId.{TransformId}
use Rattle.flat_scene.specs.declared.calls.Call.{Call}
use Rattle.flat_scene.specs.declared.calls.PresentArgs.{PresentArgs}
use Rattle.flat_scene.specs.declared.journal.Entry.{Entry}
use Rattle.flat_scene.specs.declared.journal.EntryKind.{EntryKind}
use Rattle.flat_scene.specs.declared.journal.Reply.{Reply}
use Rattle.flat_scene.specs.declared.journal.Reply.TheVariants.{Done}
use Rattle.flat_scene.specs.declared.setup.FenceDecl.{FenceDecl}
use Rattle.flat_scene.specs.declared.setup.PairDecl.{PairDecl}
use Rattle.flat_scene.specs.declared.setup.Setup.{Setup}

abbrev pub s : ℕ → SessionNo
s n = record { 0 = n }

abbrev pub f : ℕ → FenceNo
f n = record { 0 = n }

abbrev pub p : ℕ → PairNo
p n = record { 0 = n }

abbrev pub t : ℕ → TransformId
t n = record { 0 = n }

abbrev pub c : ℕ → ContentId
c n = record { 0 = n }

-- a pair whose viewport end is the display's, and one between two sessions
abbrev pub display_over : ℕ → PairDecl
display_over child = record { viewport = Display; view = s child }

abbrev pub over : ℕ → ℕ → PairDecl
over parent child = record { viewport = Session (s parent); view = s child }

-- a fence of one session
abbrev pub fence_of : ℕ → FenceDecl
fence_of owner = record { owners = Session (s owner) ∷ [] }

-- a fence of the display
abbrev pub display_fence : FenceDecl
display_fence = record { owners = Display ∷ [] }

-- a display of 100 by 100 units, with so many sessions
abbrev pub setup_of : ℕ → List PairDecl → List FenceDecl → Setup
setup_of sessions pairs fences = record {
  width = 100;
  height = 100;
  sessions = sessions;
  probes = 0;
  pairs = pairs;
  buffers = [];
  fences = fences;
  ratio = 65536;
}

-- an entry of a session, with the calls that it carries, and one of the display
abbrev pub by_session : ℕ → ℕ → List Call → EntryKind → Reply → Entry
by_session number line calls kind reply =
    record { actor = Session (s number); line = line; calls = calls; kind = kind; reply = reply }

abbrev pub by_display : ℕ → EntryKind → Entry
by_display line kind = record { actor = Display; line = line; calls = []; kind = kind; reply = Done }

-- a present at time 0 with these acquire and release fences
abbrev pub present : List FenceNo → List FenceNo → PresentArgs
present acquire release = record { time = 0; acquire = acquire; release = release; unsquashable = false }
