-- What is local to a family: what the definitions say of it depends on the family's entries and the compositor's
-- frames and signals alone.
use Rattle.std.specs.Prelude.{◌≡◌, ◌||◌, Bool, true, false, List, []}
use Rattle.flat_base.specs.declared.ids.FenceNo.{FenceNo}
use Rattle.flat_base.specs.declared.ids.PairNo.{PairNo}
use Rattle.flat_base.specs.declared.ids.SessionNo.{SessionNo}
use Rattle.flat_scene.specs.declared.journal.Entry.{Entry}
use Rattle.flat_scene.specs.declared.setup.Setup.{Setup}
use Rattle.flat_scene.specs.Family.{family, only}
use Rattle.flat_scene.specs.Frames.{is_signalled, taken, going, credits, ratio, is_among}
use Rattle.flat_scene.specs.Releases.{releases}
use Rattle.flat_scene.specs.History.{presents}
use Rattle.flat_scene.specs.Heads.{owners_declared}
use Rattle.flat_rules.specs.Laws.{is_beside, glimpses, own_events, outcomes}
use Rattle.flat_rules.specs.FamilyLaw.{IsFamilyLaw}
use Rattle.flat_rules.specs.Legal.{Legal, owns_fence, owns_view, owns_viewport, answers}
use Rattle.flat_rules.specs.Shown.{shown, is_connected}
use Rattle.flat_rules.specs.Watch.{Watcher, layout_of, status_of, child_of, told, watching}

-- A law of every legal history and the family of each session, where all owners are declared.
-- What stands before an entry of a legal
-- history is one too, so a law holds at each entry.
abbrev pub ForFamilies : (Setup → (SessionNo → Bool) → List Entry → Type 0) → Type 0
ForFamilies law = (setup : Setup) → owners_declared setup ≡ true → (history : List Entry) → Legal setup history
    → (s : SessionNo) → law setup (family setup s) history

-- the presents of each session of the family
abbrev pub PresentsAreLocal : Type 0
PresentsAreLocal = ForFamilies (λ setup of_family history.
    (t : SessionNo) → of_family t ≡ true → presents t (only of_family history) ≡ presents t history)

-- whether a fence is signalled, where one of the family owns it
abbrev pub SignalledIsLocal : Type 0
SignalledIsLocal = ForFamilies (λ setup of_family history.
    (t : SessionNo) (f : FenceNo) → of_family t ≡ true → owns_fence setup t f ≡ true
    → is_signalled setup (only of_family history) f ≡ is_signalled setup history f)

-- how many presents frames have taken
abbrev pub TakenIsLocal : Type 0
TakenIsLocal = ForFamilies (λ setup of_family history.
    (t : SessionNo) → of_family t ≡ true → taken setup (only of_family history) t ≡ taken setup history t)

-- how many presents may be made
abbrev pub CreditsAreLocal : Type 0
CreditsAreLocal = ForFamilies (λ setup of_family history.
    (t : SessionNo) → of_family t ≡ true → credits setup (only of_family history) t ≡ credits setup history t)

-- which presents the end of the frame begun last lets go
abbrev pub GoingIsLocal : Type 0
GoingIsLocal = ForFamilies (λ setup of_family history.
    (t : SessionNo) → of_family t ≡ true → going setup (only of_family history) t ≡ going setup history t)

-- whether that releases a fence, where one of the family owns it
abbrev pub ReleasedIsLocal : Type 0
ReleasedIsLocal = ForFamilies (λ setup of_family history.
    (t : SessionNo) (f : FenceNo) → of_family t ≡ true → owns_fence setup t f ≡ true
    → is_among (releases setup (only of_family history)) f ≡ is_among (releases setup history) f)

-- ---- what is shown

-- what is shown of each session of the family
abbrev pub ShownIsLocal : Type 0
ShownIsLocal = ForFamilies (λ setup of_family history.
    (t : SessionNo) → of_family t ≡ true → shown setup (only of_family history) t ≡ shown setup history t)

-- whether it is connected to the display
abbrev pub ConnectedIsLocal : Type 0
ConnectedIsLocal = ForFamilies (λ setup of_family history.
    (t : SessionNo) → of_family t ≡ true → is_connected setup (only of_family history) t ≡ is_connected setup history t)

-- the display's pixel ratio, which only the compositor sets
abbrev pub RatioIsLocal : Type 0
RatioIsLocal = ForFamilies (λ setup of_family history. ratio setup (only of_family history) ≡ ratio setup history)

-- ---- what watchers tell

-- the pair that a watcher is of
abbrev pub pair_watched : Watcher → PairNo
pair_watched (layout_of p) = p
pair_watched (status_of p) = p
pair_watched (child_of p n) = p

-- whether a session owns an end of the pair
abbrev pub owns_end : Setup → SessionNo → PairNo → Bool
owns_end setup t p = owns_view setup t p || owns_viewport setup t p

-- what a watcher tells, where one of the family owns an end of its pair
abbrev pub ToldIsLocal : Type 0
ToldIsLocal = ForFamilies (λ setup of_family history.
    (t : SessionNo) (w : Watcher) → of_family t ≡ true → owns_end setup t (pair_watched w) ≡ true
    → told setup (only of_family history) w ≡ told setup history w)

-- what it has answered last, and which get it holds
abbrev pub WatchingIsLocal : Type 0
WatchingIsLocal = ForFamilies (λ setup of_family history.
    (t : SessionNo) (w : Watcher) → of_family t ≡ true → owns_end setup t (pair_watched w) ≡ true
    → watching setup w (only of_family history) ≡ watching setup w history)

-- how many answers a session has had from its watchers
abbrev pub AnswersAreLocal : Type 0
AnswersAreLocal = ForFamilies (λ setup of_family history.
    (t : SessionNo) → of_family t ≡ true → answers setup t (only of_family history) ≡ answers setup t history)

-- ---- the family law

-- the entries of a family with the frames are legal by themselves, with the same events, and the others post it nothing
abbrev pub FamiliesAreAlone : Type 0
FamiliesAreAlone = ForFamilies IsFamilyLaw

-- ---- the neighbour law

-- what tokens, queues and frames decide of a session is the same in two legal histories that give the same glimpses
-- of it
abbrev pub GlimpsesDecideOutcomes : Type 0
GlimpsesDecideOutcomes = (setup : Setup) (history history' : List Entry) → Legal setup history → Legal setup history'
    → (s : SessionNo)
    → glimpses setup s history ≡ glimpses setup s history' → outcomes setup s history ≡ outcomes setup s history'

-- and an entry that has no glimpse there posts the session no such event
abbrev pub OthersPostNone : Type 0
OthersPostNone = (setup : Setup) (s : SessionNo) (before : List Entry) (entry : Entry) → is_beside s entry ≡ false
    → own_events setup s before entry ≡ []
