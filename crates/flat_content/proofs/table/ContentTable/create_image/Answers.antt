use Rattle.std.proofs.Common.{◌≡◌, false, slice_get, rules}
use Rattle.flat_scene.specs.Misuse.{is_bad_image, is_bad_index}
use Rattle.flat_content.proofs.Soundness.{image-fits}
use Rattle.flat_content.proofs.table.ContentTable.create_image.Goals as goal

pub whole-requires-clause-width : goal.whole-requires-clause-width
whole-requires-clause-width c =
    let image : is_bad_image (slice_get c.self.inside.buffers c.args.buffers.0) c.args.w c.args.h ≡ false = search rules in
    let place : is_bad_index (slice_get c.self.inside.buffers c.args.buffers.0) c.args.index ≡ false = search rules in
    (image-fits c.self.inside.buffers c.args.buffers.0 c.args.w c.args.h c.args.index c.self.invariant.0.sides image place).0

pub whole-requires-clause-height : goal.whole-requires-clause-height
whole-requires-clause-height c =
    let image : is_bad_image (slice_get c.self.inside.buffers c.args.buffers.0) c.args.w c.args.h ≡ false = search rules in
    let place : is_bad_index (slice_get c.self.inside.buffers c.args.buffers.0) c.args.index ≡ false = search rules in
    (image-fits c.self.inside.buffers c.args.buffers.0 c.args.w c.args.h c.args.index c.self.invariant.0.sides image place).1
