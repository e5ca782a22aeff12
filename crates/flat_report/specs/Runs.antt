-- What may be reported of a script.
use Rattle.std.specs.Prelude.{◌^◌, ℕ, Bool, ◌&&◌, nat_lt, IsTrue, List}
use Rattle.std.specs.List.{list_all}
use Rattle.flat_scene.specs.declared.frames.LostDisplay.{LostDisplay}
use Rattle.flat_scene.specs.declared.journal.Entry.{Entry}
use Rattle.flat_scene.specs.Interleave.{Interleaves}
use Rattle.flat_rules.specs.Legal.{Legal}
use Rattle.flat_places.specs.declared.script.Script.{Script}
use Rattle.flat_report.specs.Report.{is_loss, is_seeing}

-- displays are numbered from 1, in 32 bits
abbrev pub is_display_number : ℕ → Bool
is_display_number n = nat_lt 0 n && nat_lt n (2 ^ 32)

-- What may be reported of a script: a legal history that interleaves its actors, displays lost at finished
-- frames, and frames seen by its probes' lines.
pub record IsRun (script : Script) (history : List Entry) (lost : List LostDisplay) (seen : List ℕ) : Type 0 where
  pub legal : Legal script.setup history
  pub interleaves : Interleaves script.setup script.count script.lines history
  pub loss : IsTrue (is_loss history lost)
  pub numbered : IsTrue (list_all (λ one. is_display_number one.display) lost)
  pub seeing : IsTrue (is_seeing script history seen)
