use Rattle.std.proofs.Common.{◌≡◌, take}
use Rattle.std.specs.List.{count_by}
use Rattle.flat_scene.specs.History.{is_finish}
use Rattle.flat_run.specs.Totals.{is_present}
use Rattle.flat_run.proofs.load.finishes_and_presents.Given as goal

abbrev pub invariant-loop-entry : goal.invariant-loop-entry
invariant-loop-entry l =
    (l.finishes ≡ count_by (λ entry. is_finish entry.kind) (take l.entry-index l.entries))
    × (l.presents ≡ count_by (λ entry. is_present entry.kind) (take l.entry-index l.entries))
