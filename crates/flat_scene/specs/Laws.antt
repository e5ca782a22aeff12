-- what holds of every history and of every draft, in the words of the rules
use Rattle.std.specs.Prelude.{◌≡◌, ◌↔◌, ℕ, ◌-◌, ◌≤◌, Bool, true, false, not, ◌&&◌, IfSome, List, [], ◌∷◌, ◌++◌, length}
use Rattle.std.specs.Prelude.{drop, slice_get, Some}
use Rattle.std.specs.List.{list_all, list_any}
use Rattle.std.specs.Option.{option_and_then}
use Rattle.flat_base.specs.declared.ids.FenceNo.{FenceNo}
use Rattle.flat_base.specs.declared.ids.SessionNo.{SessionNo}
use Rattle.flat_scene.specs.declared.journal.Entry.{Entry}
use Rattle.flat_scene.specs.declared.setup.Setup.{Setup}
use Rattle.flat_scene.specs.declared.trees.Node.{Node}
use Rattle.flat_scene.specs.Cycles.{HasCycle}
use Rattle.flat_scene.specs.Draft.{Draft}
use Rattle.flat_scene.specs.Family.{family, is_linked}
use Rattle.flat_scene.specs.Frames.{is_signalled, is_ready, is_unsquashable, ready_prefix, taken}
use Rattle.flat_scene.specs.History.{◌▹◌, is_session, is_closed, presents, Published}
use Rattle.flat_scene.specs.Paths.{led_to, node_at, stays}
use Rattle.flat_scene.specs.Heads.{owners_declared}
use Rattle.flat_scene.specs.Squashed as squashed
use Rattle.flat_scene.specs.Tree.{is_cyclic, children_at, node_within}

-- a fence that is signalled stays so
abbrev pub SignalledStays : Type 0
SignalledStays =
    (setup : Setup) (before : List Entry) (entry : Entry) (fence : FenceNo) →
    is_signalled setup before fence ≡ true → is_signalled setup (before ▹ entry) fence ≡ true

-- the presents that frames took are the first of those made, and one that is taken stays so
pub record TakesInOrder (setup : Setup) (before : List Entry) (entry : Entry) (s : SessionNo) : Type 0 where
  pub made : taken setup before s ≤ length (presents s before)
  pub stays : taken setup before s ≤ taken setup (before ▹ entry) s

abbrev pub TakenStays : Type 0
TakenStays = (setup : Setup) (before : List Entry) (entry : Entry) (s : SessionNo) → TakesInOrder setup before entry s

-- A list of presents begins with these, each of them is ready, and none but the last is unsquashable.
-- The next one isn't ready, or follows an unsquashable one.
pub record IsLongestReady (time : ℕ) (is_signalled : FenceNo → Bool) (waiting prefix : List Published) : Type 0 where
  pub begins : waiting ≡ prefix ++ drop (length prefix) waiting
  pub ready : list_all (λ present. is_ready time is_signalled present.args) prefix ≡ true
  pub last : (earlier : List Published) (present : Published) → prefix ≡ earlier ++ present ∷ []
      → list_any is_unsquashable earlier ≡ false
  pub longest : IfSome (slice_get waiting (length prefix))
      (λ (present : Published). (not (list_any is_unsquashable prefix) && is_ready time is_signalled present.args)
      ≡ false)

-- the ready prefix is the longest one
abbrev pub ReadyPrefixIsLongest : Type 0
ReadyPrefixIsLongest =
    (time : ℕ) (is_signalled : FenceNo → Bool) (waiting : List Published) →
    IsLongestReady time is_signalled waiting (ready_prefix time is_signalled waiting)

-- where no present of a history is unsquashable, its frames take all before the first one that isn't ready
abbrev pub OthersAreSquashed : Type 0
OthersAreSquashed =
    (setup : Setup) (history : List Entry) → ((s : SessionNo) → list_any is_unsquashable (presents s history) ≡ false) →
    (s : SessionNo) → taken setup history s ≡ squashed.taken setup history s

-- an entry closes its own session alone
abbrev pub ClosesItsOwn : Type 0
ClosesItsOwn =
    (before : List Entry) (entry : Entry) (s : SessionNo) → is_session s entry.actor ≡ false
    → is_closed s (before ▹ entry) ≡ is_closed s before

-- the test for a cycle says that a transform which is reached from the root reaches itself
abbrev pub CycleIsReached : Type 0
CycleIsReached =
    (draft : Draft) → (is_cyclic draft ≡ true) ↔
    ((root : ℕ) × (draft.root ≡ Some root) × HasCycle (children_at draft) root)

-- the tree of a transform has one node for each path from it: the path leads to a node of the tree if it leads to a
-- transform, and that node has all that the transform says, with the nodes below it
abbrev pub OneNodeAPath : Type 0
OneNodeAPath =
    (draft : Draft) (levels : ℕ) (is_root : Bool) (serial : ℕ) (root : Node)
    → node_within levels draft is_root serial ≡ Some root →
    (path : List ℕ) → node_at root path
    ≡ option_and_then (node_within (levels - length path) draft (stays path && is_root)) (led_to draft serial path)

-- a set of sessions that holds, with a session, each that is linked to it
pub record IsClosedFamily (setup : Setup) (of_family : SessionNo → Bool) : Type 0 where
  pub grows : (s t : SessionNo) → of_family s ≡ true → is_linked setup s t ≡ true → of_family t ≡ true

-- the family of a session is the least set that holds the session and is closed under links
pub record IsLeastFamily (setup : Setup) (s : SessionNo) : Type 0 where
  pub itself : family setup s s ≡ true
  pub closed : IsClosedFamily setup (family setup s)
  pub least : (holds : SessionNo → Bool) → holds s ≡ true → IsClosedFamily setup holds → (t : SessionNo)
      → family setup s t ≡ true → holds t ≡ true

abbrev pub FamilyIsLeast : Type 0
FamilyIsLeast = (setup : Setup) → owners_declared setup ≡ true → (s : SessionNo) → IsLeastFamily setup s
