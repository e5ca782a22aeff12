use Rattle.std.proofs.Common.{◌≡◌, ◌*◌, ◌++◌, min, map, length}
use Rattle.std.specs.Arc.{arc_value}
use Rattle.flat_render.specs.Pictures.{width_of, height_of, pixel_of}
use Rattle.flat_render.specs.Rows.{rows_bytes}
use Rattle.flat_texts.specs.declared.strips.TheConstants.{STRIP_ROWS}
use Rattle.flat_texts.specs.Strips.{AreStrips}
use Rattle.flat_texts.proofs.strips.push_strips.Given as goal

abbrev pub invariant-loop-n : goal.invariant-loop-n
invariant-loop-n l = record {
  count : length (map arc_value l.runs.items) ≡ l.n;
  strips : AreStrips (width_of l.picture) (height_of l.picture) (pixel_of l.picture) (map arc_value l.runs.items);
  text : l.text ≡ l.fn.text ++ rows_bytes (pixel_of l.picture) (width_of l.picture) (min (l.n * STRIP_ROWS) (height_of l.picture));
}
