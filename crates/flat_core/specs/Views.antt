-- Which sessions have a view.
use Rattle.std.specs.Prelude.{◌≡◌, ℕ, ◌<◌, true, false, List}
use Rattle.flat_base.specs.declared.ids.SessionNo.{SessionNo}
use Rattle.flat_scene.specs.declared.frames.SessionSet.{SessionSet}
use Rattle.flat_scene.specs.declared.journal.Entry.{Entry}
use Rattle.flat_scene.specs.declared.setup.Setup.{Setup}
use Rattle.flat_scene.specs.Setups.{is_declared}
use Rattle.flat_topology.specs.Members.{is_member}
use Rattle.flat_rules.specs.Ends.{has_view}

-- these sessions of the setup have a view whose end isn't lost
pub record AreViewed (setup : Setup) (history : List Entry) (sessions : SessionSet) : Type 0 where
  pub members : (s : SessionNo) → is_declared setup s ≡ true → is_member sessions s.0 ≡ has_view setup history s
  pub others : (s : ℕ) → setup.sessions < s → is_member sessions s ≡ false
