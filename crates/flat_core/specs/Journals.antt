-- What is local in the history of a board: to the family of a session, and to a session beside its neighbours.
use Rattle.std.specs.Prelude.{◌≡◌, true, false, List, []}
use Rattle.flat_base.specs.declared.ids.SessionNo.{SessionNo}
use Rattle.flat_scene.specs.declared.journal.Entry.{Entry}
use Rattle.flat_scene.specs.declared.setup.Setup.{Setup}
use Rattle.flat_scene.specs.Family.{family}
use Rattle.flat_scene.specs.History.{◌▹◌}
use Rattle.flat_scene.specs.Heads.{owners_declared}
use Rattle.flat_rules.specs.Laws.{is_beside, glimpses, own_events, outcomes}
use Rattle.flat_rules.specs.FamilyLaw.{IsFamilyLaw}
use Rattle.flat_rules.specs.Legal.{Legal}

-- Where all owners are declared, the family of each session is alone:
-- its entries with the frames are legal by themselves, with the
-- same events, and the others post it nothing.
abbrev pub FamiliesStandAlone : Setup → List Entry → Type 0
FamiliesStandAlone setup history = owners_declared setup ≡ true → (s : SessionNo)
    → IsFamilyLaw setup (family setup s) history

-- every other legal history that gives the same glimpses of a session gives it the same outcomes
abbrev pub IsDecidedByGlimpses : Setup → SessionNo → List Entry → Type 0
IsDecidedByGlimpses setup s history =
    (other : List Entry) → Legal setup other → glimpses setup s history ≡ glimpses setup s other
    → outcomes setup s history ≡ outcomes setup s other

-- no entry without a glimpse of the session posts it an event that tokens, queues and frames decide
abbrev pub IsQuietBeside : Setup → SessionNo → List Entry → Type 0
IsQuietBeside setup s [] = Unit {0}
IsQuietBeside setup s (before ▹ entry) =
    IsQuietBeside setup s before × (is_beside s entry ≡ false → own_events setup s before entry ≡ [])
