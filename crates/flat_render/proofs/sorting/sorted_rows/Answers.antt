use Rattle.std.proofs.Common.{ℕ, ◌+◌, ◌<◌, ◌≡◌, ◌∙◌, sym, subst, List, Vec, length, arith}
use Rattle.std.specs.declared.alloc.Global.{Global}
use Rattle.std.proofs.lemmas.List.{with_items_is}
use Rattle.std.proofs.lemmas.Nat.{row_fits}
use Rattle.flat_scene.specs.declared.frames.DrawItem.{DrawItem}
use Rattle.flat_render.specs.Bands.{AreRows, IsNoted}
use Rattle.flat_tile.proofs.lemmas.Lists.{some-item}
use Rattle.flat_render.proofs.Choices.{rows-more}
use Rattle.flat_tile.proofs.lemmas.PreparedLists.{not-covered}
use Rattle.flat_render.proofs.sorting.sorted_rows.Goals as goal

pub bounds-list-n : goal.bounds-list-n
bounds-list-n c = omega (arith, c.requires.prepared.count)

pub loop-n-preserved : goal.loop-n-preserved
loop-n-preserved c =
    let d : DrawItem = some-item c.args.items.now c.loop-n.n c.loop-n-test.true in
    let noted : IsNoted c.loop-n.n c.rows_of-rows.result.from c.rows_of-rows.result.upto c.loop-n.lists.items c.note.new.lists =
    subst (λ (old : List (Vec ℕ Global)). IsNoted c.loop-n.n c.rows_of-rows.result.from c.rows_of-rows.result.upto old c.note.new.lists)
    c.as_mut_slice.ensures.value c.in_ok-note.ensures in
    let same = with_items_is c.loop-n.lists c.note.new.lists (c.note.auto.lists ∙ c.as_mut_slice.ensures.len) in
    record {
      count = subst (λ (lists : List (Vec ℕ Global)). length lists ≡ c.args.grid.now.down) (sym same) (noted.count ∙ c.loop-n.invariant.count);
      rows = subst (λ (lists : List (Vec ℕ Global)). AreRows c.args.grid.now c.args.items.now lists (c.loop-n.n + 1)) (sym same)
          (rows-more c.args.grid.now c.loop-n.n c.rows_of-rows.result.from c.rows_of-rows.result.upto c.args.items.now c.loop-n.lists.items c.note.new.lists d
          c.loop-n-test.true (c.requires.items c.loop-n.n d c.loop-n-test.true)
          (λ row k px py there column right top bottom beyond.
          let low : row < c.args.grid.now.down = omega (arith, there, c.loop-n.invariant.count) in
          not-covered c.args.items.now c.args.list.now c.loop-n.n d _ px py c.requires.prepared c.loop-n-test.true
          (omega (
            arith,
            right,
            row_fits k c.args.grid.now.tile_w c.args.grid.now.across c.args.grid.now.tile_w column (omega arith),
            c.requires.grid.most_right,
          ))
          (omega (
            arith,
            bottom,
            row_fits row c.args.grid.now.tile_h c.args.grid.now.down c.args.grid.now.tile_h low (omega arith),
            c.requires.grid.most_bottom,
          ))
          (c.rows_of-rows.ensures.others row px py low top bottom beyond))
          c.loop-n.invariant.rows noted);
    }

pub returns : goal.returns
returns c =
    let all : c.loop-n.n ≡ length c.args.items.now = omega arith in
    subst (λ (n : ℕ). AreRows c.args.grid.now c.args.items.now c.loop-n.lists.items n) all c.loop-n.invariant.rows
