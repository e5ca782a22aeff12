-- What a run of the load comes to.
use Rattle.std.specs.Prelude.{ℕ, Bool, true, false, List, length, count_by, Option}
use Rattle.std.specs.Option.{option_map_or}
use Rattle.flat_base.specs.Last.{last_item}
use Rattle.flat_scene.specs.declared.frames.FrameOut.{FrameOut}
use Rattle.flat_scene.specs.declared.journal.Entry.{Entry}
use Rattle.flat_scene.specs.declared.journal.EntryKind.{EntryKind}
use Rattle.flat_scene.specs.declared.journal.EntryKind.TheVariants.{Present}
use Rattle.flat_scene.specs.declared.setup.Setup.{Setup}
use Rattle.flat_rules.specs.Legal.{frames}
use Rattle.flat_report.specs.Report.{finished}
use Rattle.flat_stress.specs.declared.load_totals.LoadTotals.{LoadTotals}

unfoldable pub is_present : EntryKind → Bool
is_present (Present args) = true
is_present _ = false

-- how many items this frame has, if there is one
abbrev pub items_of : Option FrameOut → ℕ
items_of last = option_map_or (λ frame. length frame.items) last 0

-- the numbers of a history, for a load of so many frames
abbrev pub totals_of : ℕ → Setup → List Entry → LoadTotals
totals_of asked setup history = record {
  load = asked;
  sessions = setup.sessions;
  entries = length history;
  frames = frames history;
  presents = count_by (λ entry. is_present entry.kind) history;
  items = items_of (last_item (finished setup history));
}
