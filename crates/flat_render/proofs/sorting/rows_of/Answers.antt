use Rattle.std.proofs.Common.{ℕ, ◌∙◌, ap, arith}
use Rattle.std.specs.Prelude.{min}
use Rattle.flat_ink.specs.Areas.{is_among}
use Rattle.flat_render.proofs.Choices.{beyond-columns}
use Rattle.flat_ink.proofs.lemmas.Windows.{not-right}
use Rattle.flat_render.proofs.sorting.rows_of.Goals as goal

pub returns-clause-others : goal.returns-clause-others
returns-clause-others c = λ row px py small above below h.
    not-right (is_among c.args.area.x0 c.args.area.x1 px) _
    (beyond-columns c.args.area.y0 c.args.area.y1 c.args.grid.now.tile_h c.args.grid.now.down c.min.result row py c.requires.tile_h
    (c.min.ensures ∙ ap (λ (ceil : ℕ). min ceil c.args.grid.now.down) c.div_ceil.ensures) small above below h)
