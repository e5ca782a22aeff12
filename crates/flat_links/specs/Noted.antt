-- Which pairs the end of a frame looks at: those that a frame's begin noted since the last one ended.
use Rattle.std.specs.Prelude.{◌≡◌, ◌<◌, ℕ, Bool, false, ◌||◌, ◌==◌, List, [], ◌∷◌, length, Option, None, slice_index_or}
use Rattle.flat_base.specs.declared.ids.PairNo.{PairNo}
use Rattle.flat_scene.specs.declared.calls.Call.{Call}
use Rattle.flat_facts.specs.declared.live_viewport.LiveViewport.{LiveViewport}
use Rattle.flat_links.specs.declared.pairs.PairState.{PairState}
use Rattle.flat_facts.specs.Clears.{clears_pair}
use Rattle.flat_links.specs.Clears.{cleared_if}
use Rattle.flat_links.specs.Views.{ended_by}

-- what contracts see of the states of all pairs
pub record KeptPairs : Type 0 where
  pub items : List PairState

-- a pair to which nothing happened
abbrev pub new_pair : PairState
new_pair = record { ended = None; cleared = None; serial = 0; given = None; seen = None; pending = None }

-- whether the pair at a place is listed
abbrev pub is_noted : ℕ → List PairNo → Bool
is_noted i [] = false
is_noted i (p ∷ more) = p.0 == i || is_noted i more

-- Of each pair that isn't listed, what is pending is seen. Where the list was full, this speaks of none.
abbrev pub AreNoted : Bool → List PairNo → List PairState → Type 0
AreNoted overflows noted states = (i : ℕ) (d : PairState) → i < length states → (overflows || is_noted i noted) ≡ false
    → (slice_index_or states i d).pending ≡ (slice_index_or states i d).seen

-- What is listed after a pair was noted is what was listed before, and that pair.
abbrev pub ListsPair : PairNo → Bool → Bool → List PairNo → List PairNo → Type 0
ListsPair p before after old new = (i : ℕ) → (after || is_noted i new) ≡ false
    → ((before || is_noted i old) ≡ false) × ((p.0 == i) ≡ false)

-- The states of all pairs but one stay.
abbrev pub KeepsOthers : PairNo → List PairState → List PairState → Type 0
KeepsOthers p old new = (i : ℕ) (d : PairState) → i < length old → (p.0 == i) ≡ false
    → slice_index_or new i d ≡ slice_index_or old i d

-- The states of all pairs after calls of a session that had this view, had made so many presents, and of which these
-- viewports lived.
pub record NotesPairs (view : Option PairNo) (calls : List Call) (presents : ℕ) (live : List LiveViewport)
    (old new : List PairState) : Type 0 where
  pub count : length new ≡ length old
  pub each : (i : ℕ) (d : PairState) → i < length old
      → slice_index_or new i d ≡ cleared_if (clears_pair (record { 0 = i }) live calls) presents
      (ended_by i view calls presents (slice_index_or old i d))
