use Rattle.std.proofs.Common.{ℕ, ◌+◌, ◌<◌, ◌≡◌, ◌∙◌, ◌++◌, ◌∷◌, [], ap, sym, subst, List, Vec, length, get_or, take, arith}
use Rattle.std.specs.declared.alloc.Global.{Global}
use Rattle.std.proofs.lemmas.List.{take_all, take_more, with_items_is}
use Rattle.std.proofs.lemmas.Nat.{row_fits}
use Rattle.flat_scene.specs.declared.frames.DrawItem.{DrawItem}
use Rattle.flat_render.specs.Bands.{AreParts, IsNoted}
use Rattle.flat_tile.proofs.lemmas.Lists.{some-item}
use Rattle.flat_render.proofs.Choices.{parts-more, parts-serve}
use Rattle.flat_tile.proofs.lemmas.PreparedLists.{not-covered}
use Rattle.flat_render.proofs.sorting.sorted.Goals as goal

pub bounds-list-n : goal.bounds-list-n
bounds-list-n c =
    omega (arith, c.requires.prepared.count, (c.requires.places 0 c.requires.grid.some).within c.loop-k.k 0 c.loop-k-test.true)

pub loop-k-preserved : goal.loop-k-preserved
loop-k-preserved c =
    let n : ℕ = get_or c.args.places.now c.loop-k.k 0 in
    let small : n < length c.args.items.now = (c.requires.places 0 c.requires.grid.some).within c.loop-k.k 0 c.loop-k-test.true in
    let d : DrawItem = some-item c.args.items.now n small in
    let noted : IsNoted n c.columns_of-columns.result.from c.columns_of-columns.result.upto c.loop-k.lists.items c.note.new.lists =
    subst (λ (old : List (Vec ℕ Global)). IsNoted n c.columns_of-columns.result.from c.columns_of-columns.result.upto old c.note.new.lists)
    c.as_mut_slice.ensures.value c.in_ok-note.ensures in
    subst (λ (lists : List (Vec ℕ Global)). AreParts c.args.grid.now c.args.row c.args.items.now (take (c.loop-k.k + 1) c.args.places.now) lists)
    (sym (with_items_is c.loop-k.lists c.note.new.lists (c.note.auto.lists ∙ c.as_mut_slice.ensures.len)))
    (subst (λ (all : List ℕ). AreParts c.args.grid.now c.args.row c.args.items.now all c.note.new.lists)
    (sym (take_more c.args.places.now c.loop-k.k 0 c.loop-k-test.true))
    (parts-more c.args.grid.now c.args.row n c.columns_of-columns.result.from c.columns_of-columns.result.upto c.args.items.now
    (take c.loop-k.k c.args.places.now) c.loop-k.lists.items c.note.new.lists d
    small (c.requires.items n d small)
    (λ k px py column left right top bottom beyond.
    not-covered c.args.items.now c.args.list.now n d _ px py c.requires.prepared small
    (omega (arith, right, row_fits k c.args.grid.now.tile_w c.args.grid.now.across c.args.grid.now.tile_w column (omega arith), c.requires.grid.most_right))
    (omega (
      arith,
      bottom,
      row_fits c.args.row c.args.grid.now.tile_h c.args.grid.now.down c.args.grid.now.tile_h c.requires.row (omega arith),
      c.requires.grid.most_bottom,
    ))
    (c.columns_of-columns.ensures.others k px py column left right top bottom beyond))
    c.loop-k.invariant noted))

pub returns : goal.returns
returns c =
    parts-serve c.args.grid.now c.args.row (length c.args.items.now) c.args.items.now c.args.places.now c.loop-k.lists.items c.requires.places
    (subst (λ (all : List ℕ). AreParts c.args.grid.now c.args.row c.args.items.now all c.loop-k.lists.items)
    (take_all c.loop-k.k c.args.places.now (omega arith)) c.loop-k.invariant)
