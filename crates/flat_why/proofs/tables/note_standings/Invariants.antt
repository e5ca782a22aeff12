use Rattle.std.proofs.Common.{◌≡◌, ◌<◌, ℕ, length, slice_index_or}
use Rattle.flat_rules.specs.Numbers.{number}
use Rattle.flat_scene.specs.Frames.{taken}
use Rattle.flat_why.specs.declared.reasons.AttachPoint.{AttachPoint}
use Rattle.flat_why.specs.Reasons.{first_of, nothing_by, standing_in}
use Rattle.flat_why.specs.Noted.{closings_in, uses_in}
use Rattle.flat_why.proofs.tables.note_standings.Given as goal

abbrev pub invariant-loop-i : goal.invariant-loop-i
invariant-loop-i l = record {
  count : length l.standings ≡ length l.fn.standings;
  each : (k : ℕ) (d : AttachPoint) → k < l.i → slice_index_or l.standings k d
      ≡ standing_in l.board.setup l.shown (taken l.board.setup l.board.history) (uses_in l.last_uses)
      (nothing_by (closings_in l.closings (number k)) (first_of (number k) l.waits)) (number k);
}
