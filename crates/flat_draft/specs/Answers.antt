-- What a call and a present answer, and what they leave.
use Rattle.std.specs.Prelude.{◌≡◌, Bool, true, false, Option, Some, None, Result, Ok, Err}
use Rattle.std.specs.Option.{option_and_then}
use Rattle.flat_scene.specs.declared.calls.Call.{Call}
use Rattle.flat_scene.specs.declared.calls.Call.TheVariants.{CreateView, CreateTransform, AddChild, ReplaceChildren}
use Rattle.flat_scene.specs.declared.calls.Call.TheVariants.{SetHitRegions, SetInfiniteHitRegion, CreateViewport}
use Rattle.flat_scene.specs.declared.calls.Call.TheVariants.{CreateImage, CreateFilledRect}
use Rattle.flat_base.specs.declared.ids.PairNo.{PairNo}
use Rattle.flat_scene.specs.declared.calls.PresentArgs.{PresentArgs}
use Rattle.flat_scene.specs.declared.calls.Watch.{Watch}
use Rattle.flat_scene.specs.declared.calls.Watch.TheVariants as watch
use Rattle.flat_scene.specs.Interleave.{get_tests}
use Rattle.flat_content.specs.Table.{pair_of}
use Rattle.flat_scene.specs.declared.setup.Setup.{Setup}
use Rattle.flat_scene.specs.declared.trees.GraphFault.{GraphFault}
use Rattle.flat_scene.specs.declared.trees.GraphFault.TheVariants as part
use Rattle.flat_scene.specs.declared.trees.Tree.{Tree}
use Rattle.flat_scene.specs.Draft.{Draft, made_of}
use Rattle.flat_scene.specs.Effect.{effect}
use Rattle.flat_scene.specs.Misuse.{first_reason, misuse}
use Rattle.flat_scene.specs.Tree.{present_tests, tree}
use Rattle.flat_collect.specs.Sweep.{IsSwept}
use Rattle.flat_draft.specs.declared.fault.DraftFault.{DraftFault}
use Rattle.flat_draft.specs.declared.fault.DraftFault.TheVariants.{Bad, Closed, Memory}
use Rattle.flat_draft.specs.State.{DraftState, closed}
use Rattle.flat_draft.specs.Stands.{StandsFor}

-- the calls that take memory
abbrev pub takes_memory : Call → Bool
takes_memory (CreateTransform t) = true
takes_memory (AddChild p k) = true
takes_memory (ReplaceChildren p ks) = true
takes_memory (SetHitRegions t regions) = true
takes_memory (SetInfiniteHitRegion t i) = true
takes_memory (CreateViewport c pair w h inset) = true
takes_memory (CreateImage c buffers i w h) = true
takes_memory (CreateFilledRect c) = true
takes_memory other = false

module _ (setup : Setup) (draft : Draft) (call : Call) (old new : DraftState) where
  -- A call's answer. A misuse closes the draft, and any other call is done, but where it takes memory and there is
  -- none. A closed draft does nothing.
  abbrev pub IsAnswer : Result Unit DraftFault → Type 0
  IsAnswer (Ok done) = (old.closed ≡ false) × (misuse setup draft call ≡ None) × StandsFor setup new (effect draft call)
      × (new.closed ≡ false)
  IsAnswer (Err (Bad reason)) = (old.closed ≡ false) × (misuse setup draft call ≡ Some reason) × (new ≡ closed old)
  IsAnswer (Err Closed) = (old.closed ≡ true) × (new ≡ old)
  IsAnswer (Err Memory) = (old.closed ≡ false) × (misuse setup draft call ≡ None) × (takes_memory call ≡ true)
      × (new ≡ old)

  -- The answer where a misuse leaves the draft as it was.
  abbrev pub IsTried : Result Unit DraftFault → Type 0
  IsTried (Err (Bad reason)) = (old.closed ≡ false) × (misuse setup draft call ≡ Some reason) × (new ≡ old)
  IsTried other = IsAnswer other

  -- What the parts of an open draft make of a call. A refusal leaves them as they were.
  abbrev pub IsApplied : Result Unit GraphFault → Type 0
  IsApplied (Ok done) = (misuse setup draft call ≡ None) × StandsFor setup new (effect draft call)
      × (new.closed ≡ old.closed)
  IsApplied (Err (part.Bad reason)) = (misuse setup draft call ≡ Some reason) × (new ≡ old)
  IsApplied (Err part.Memory) = (misuse setup draft call ≡ None) × (takes_memory call ≡ true) × (new ≡ old)

-- the calls that use an end of a pair
abbrev pub uses_an_end : Call → Bool
uses_an_end (CreateView pair) = true
uses_an_end (CreateViewport c pair w h inset) = true
uses_an_end other = false

-- whether a call that uses an end finds the memory that it takes
abbrev pub has_room_for : Call → DraftState → Bool
has_room_for (CreateView pair) state = true
has_room_for (CreateViewport c pair w h inset) state = state.contents.has_room
has_room_for other state = false

module _ (setup : Setup) (draft : Draft) (call : Call) (old new : DraftState) where
  -- What a call would be answered that uses an end.
  -- Where it would be done there is room for it, and the draft is what it was; a misuse doesn't close it.
  abbrev pub IsReadied : Result Unit DraftFault → Type 0
  IsReadied (Ok done) = (old.closed ≡ false) × (misuse setup draft call ≡ None) × StandsFor setup new draft
      × (new.closed ≡ false) × (has_room_for call new ≡ true)
  IsReadied (Err (Bad reason)) = (old.closed ≡ false) × (misuse setup draft call ≡ Some reason) × (new ≡ old)
  IsReadied (Err Closed) = (old.closed ≡ true) × (new ≡ old)
  IsReadied (Err Memory) = (old.closed ≡ false) × (misuse setup draft call ≡ None) × (takes_memory call ≡ true)
      × (new ≡ old)

  -- the same of the parts of an open draft
  abbrev pub IsTested : Result Unit GraphFault → Type 0
  IsTested (Ok done) = (misuse setup draft call ≡ None) × StandsFor setup new draft × (new.closed ≡ old.closed)
      × (has_room_for call new ≡ true)
  IsTested (Err (part.Bad reason)) = (misuse setup draft call ≡ Some reason) × (new ≡ old)
  IsTested (Err part.Memory) = (misuse setup draft call ≡ None) × (takes_memory call ≡ true) × (new ≡ old)

module _ (draft : Draft) (args : PresentArgs) (old new : DraftState) where
  -- A present is done, and shows this tree. The transforms are dropped that nothing reaches any more, and each draft
  -- for which the old state stands, the new one stands for.
  pub record Presents (shown : Tree) : Type 0 where
    pub still_open : old.closed ≡ false
    pub allowed : first_reason (present_tests draft args) ≡ None
    pub shows : tree draft ≡ Some shown
    pub swept : IsSwept old.graph new.graph
    pub rest : new ≡ record old { graph = new.graph }
    pub stands : (setup : Setup) (other : Draft) → StandsFor setup old other → StandsFor setup new other

  -- A present is refused. A misuse closes the draft; a closed one does nothing.
  abbrev pub IsRefused : DraftFault → Type 0
  IsRefused (Bad reason) = (old.closed ≡ false) × (first_reason (present_tests draft args) ≡ Some reason)
      × (new ≡ closed old)
  IsRefused Closed = (old.closed ≡ true) × (new ≡ old)
  IsRefused Memory = (old.closed ≡ false) × (new ≡ old)

-- the pair whose watcher a get means
abbrev pub pair_watched : Draft → Watch → Option PairNo
pair_watched draft watch.Layout = draft.view
pair_watched draft watch.Status = draft.view
pair_watched draft (watch.Child c) = option_and_then pair_of (made_of draft c)

module _ (draft : Draft) (get : Watch) (old new : DraftState) where
  -- A get's answer. It never takes memory; a misuse closes the draft.
  abbrev pub IsWatched : Result PairNo DraftFault → Type 0
  IsWatched (Ok pair) = (old.closed ≡ false) × (first_reason (get_tests draft get) ≡ None)
      × (pair_watched draft get ≡ Some pair) × (new ≡ old)
  IsWatched (Err (Bad reason)) = (old.closed ≡ false) × (first_reason (get_tests draft get) ≡ Some reason)
      × (new ≡ closed old)
  IsWatched (Err Closed) = (old.closed ≡ true) × (new ≡ old)
  IsWatched (Err Memory) = ⊥
