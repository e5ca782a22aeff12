use Rattle.std.proofs.Common.{if◌then◌else◌, arith}
use Rattle.flat_ink.specs.Areas.{has_pixel}
use Rattle.flat_ink.specs.Inks.{mixed}
use Rattle.flat_tile.specs.Tiles.{x_of, y_of, pixels_of}
use Rattle.flat_tile.proofs.lemmas.Planes.{plane-there, plane-others, plane-fits, some-pixels}
use Rattle.flat_tile.proofs.laying.lay_even.Goals as goal

pub returns-clause-there : goal.returns-clause-there
returns-clause-there c = λ m small e.
    plane-there (pixels_of c.args.tile) c.args.c _ c.args.bytes.now c.mix_plane.new.plane
    (some-pixels c.args.tile c.requires.tile) (omega arith)
    (omega (arith, c.requires.size, plane-fits (pixels_of c.args.tile) c.args.c c.requires.channel)) c.mix_plane.auto.plane
    (λ k old. if has_pixel c.args.cut (x_of c.args.tile k) (y_of c.args.tile k) then mixed c.args.mix c.args.s old else old)
    c.mix_plane.ensures m e

pub returns-clause-others : goal.returns-clause-others
returns-clause-others c = λ m small other.
    plane-others (pixels_of c.args.tile) c.args.c _ c.args.bytes.now c.mix_plane.new.plane
    (some-pixels c.args.tile c.requires.tile) (omega arith)
    (omega (arith, c.requires.size, plane-fits (pixels_of c.args.tile) c.args.c c.requires.channel)) c.mix_plane.auto.plane m other
