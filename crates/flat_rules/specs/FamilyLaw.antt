-- What the entries of a family say by themselves.
use Rattle.std.specs.Prelude.{◌≡◌, Bool, true, ◌||◌, ◌==◌, List, [], ◌∷◌, filter, length}
use Rattle.std.specs.List.{list_all}
use Rattle.flat_base.specs.declared.ids.SessionNo.{SessionNo}
use Rattle.flat_scene.specs.declared.journal.Entry.{Entry}
use Rattle.flat_scene.specs.declared.journal.Event.{Event}
use Rattle.flat_scene.specs.declared.setup.Setup.{Setup}
use Rattle.flat_scene.specs.History.{◌▹◌}
use Rattle.flat_scene.specs.Family.{only, is_kept}
use Rattle.flat_rules.specs.Legal.{Legal}
use Rattle.flat_rules.specs.Posts.{events_to}

-- An entry, and the events that it posts to one session.
pub record Moment : Type 0 where
  pub entry : Entry
  pub events : List Event

-- all entries, each with its events to a session
abbrev pub moments : Setup → SessionNo → List Entry → List Moment
moments setup s [] = []
moments setup s (before ▹ entry) = (record { entry = entry; events = events_to setup before entry s })
    ∷ moments setup s before

-- the moments of the kept entries
abbrev pub kept_moments : (SessionNo → Bool) → List Moment → List Moment
kept_moments of_family = filter (λ moment. is_kept of_family moment.entry)

-- the other entries post nothing
abbrev pub is_quiet : (SessionNo → Bool) → Moment → Bool
is_quiet of_family moment = is_kept of_family moment.entry || length moment.events == 0

-- The entries of a family, with the frames, are a legal history, which posts the same events at the same entries to
-- the family's sessions.
-- The other entries post nothing to them.
pub record IsFamilyLaw (setup : Setup) (of_family : SessionNo → Bool) (history : List Entry) : Type 0 where
  pub legal : Legal setup (only of_family history)
  pub events : (t : SessionNo) → of_family t ≡ true
      → moments setup t (only of_family history) ≡ kept_moments of_family (moments setup t history)
  pub quiet : (t : SessionNo) → of_family t ≡ true → list_all (is_quiet of_family) (moments setup t history) ≡ true
