-- The places of all sessions' lines in a script, one list a session.
use Rattle.std.specs.Prelude.{◌≡◌, ℕ, ◌+◌, ◌-◌, ◌≤◌, List, [], ◌∷◌, ◌++◌, Some, slice_get, slice_index_or, slice_set}
use Rattle.flat_base.specs.declared.ids.Actor.{Actor}
use Rattle.flat_base.specs.declared.ids.Actor.TheVariants.{Session}
use Rattle.flat_scene.specs.declared.script.ScriptLine.{ScriptLine}
use Rattle.flat_race.specs.OwnLines.{own_places}

-- Each of these lists, from one on, has the places of its session: the first those of session 1.
pub record ArePlaces (lines : List ScriptLine) (first : ℕ) (places : List (List ℕ)) : Type 0 where
  pub each : (k : ℕ) (own : List ℕ) → first ≤ k → slice_get places k ≡ Some own
      → own ≡ own_places (record { 0 = k + 1 }) lines

-- the lists with the place of one line more of an actor
abbrev pub noted : Actor → ℕ → List (List ℕ) → List (List ℕ)
noted (Session s) place places = slice_set places (s.0 - 1) (slice_index_or places (s.0 - 1) [] ++ place ∷ [])
noted _ place places = places
