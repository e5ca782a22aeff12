use Rattle.std.proofs.Common.{ℕ, ◌∙◌, ap, sym, arith}
use Rattle.std.specs.Prelude.{min}
use Rattle.std.proofs.lemmas.Nat.{row_fits}
use Rattle.flat_ink.specs.Areas.{is_among}
use Rattle.flat_render.proofs.Choices.{beyond-columns}
use Rattle.flat_ink.proofs.lemmas.Windows.{not-left}
use Rattle.flat_render.proofs.sorting.columns_of.Goals as goal

pub returns-clause-others : goal.returns-clause-others
returns-clause-others c = λ n px py small left right above below h.
    not-left _ _ (beyond-columns c.args.area.x0 c.args.area.x1 c.args.grid.now.tile_w c.args.grid.now.across c.min.result n px c.requires.grid.tile_w
    (c.min.ensures ∙ ap (λ (ceil : ℕ). min ceil c.args.grid.now.across) c.div_ceil.ensures) small left right
    (sym (ap (λ (from : ℕ). is_among from c.min.result n) c.part_with.ensures) ∙ h))

pub overflow_mul-top : goal.overflow_mul-top
overflow_mul-top c = omega (
  arith,
  row_fits c.args.row c.args.grid.now.tile_h c.args.grid.now.down c.args.grid.now.tile_h c.requires.row (omega arith),
  c.requires.grid.most_bottom,
)
