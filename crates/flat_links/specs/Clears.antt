-- What clearing live viewports does to the stamps of their pairs.
use Rattle.std.specs.Prelude.{◌≡◌, ◌<◌, ℕ, Bool, ◌==◌, List, length, slice_index_or}
use Rattle.flat_base.specs.declared.ids.PairNo.{PairNo}
use Rattle.flat_scene.specs.declared.calls.Call.{Call}
use Rattle.flat_facts.specs.declared.live_viewport.LiveViewport.{LiveViewport}
use Rattle.flat_links.specs.declared.pairs.PairState.{PairState}
use Rattle.flat_rules.specs.Stamps.{stamp_then}
use Rattle.flat_facts.specs.Clears.{clears_pair}

-- a pair's state, where its viewport is cleared after so many presents or isn't
abbrev pub cleared_if : Bool → ℕ → PairState → PairState
cleared_if does_it presents state = record state { cleared = stamp_then state.cleared does_it presents }

-- The states after the viewport of a pair was cleared.
pub record ClearsOne (p : PairNo) (presents : ℕ) (old new : List PairState) : Type 0 where
  pub count : length new ≡ length old
  pub each : (i : ℕ) (d : PairState) → i < length old
      → slice_index_or new i d ≡ cleared_if (p.0 == i) presents (slice_index_or old i d)

-- The states of all pairs after calls of a session of which these viewports lived, and that had made so many presents.
pub record ClearsLive (live : List LiveViewport) (calls : List Call) (presents : ℕ) (old new : List PairState) : Type 0
  where
    pub count : length new ≡ length old
    pub each : (i : ℕ) (d : PairState) → i < length old
        → slice_index_or new i d ≡ cleared_if (clears_pair (record { 0 = i }) live calls) presents
        (slice_index_or old i d)
