use Rattle.std.proofs.Common.{ℕ, ◌+◌, ◌<◌, ◌≡◌, ◌∙◌, ap, sym, subst, if◌then◌else◌, List, length, get_or, drop, arith}
use Rattle.std.proofs.lemmas.Bool.Decides.{nat_tests}
use Rattle.std.proofs.lemmas.List.{take_all, length-drop}
use Rattle.std.proofs.lemmas.List.Elements.{All-drop, All-take}
use Rattle.flat_scene.specs.declared.frames.DrawItem.{DrawItem}
use Rattle.flat_ink.specs.Areas.{has_pixel, IsWindow}
use Rattle.flat_tile.specs.Chosen.{chosen}
use Rattle.flat_ink.specs.Channels.{channel_after, channel_step}
use Rattle.flat_tile.specs.Tiles.{x_at, y_at, channel_at}
use Rattle.flat_ink.specs.declared.area.Area.{Area}
use Rattle.flat_tile.proofs.ByNumber.{chosen-at, chosen-drop, chosen-length}
use Rattle.flat_tile.proofs.Fresh.{begun}
use Rattle.flat_tile.proofs.lemmas.Items.{tile-has-byte}
use Rattle.flat_tile.proofs.lemmas.Planes.{some-pixels}
use Rattle.flat_tile.proofs.lemmas.PreparedLists.{over-same, tile-window-is}
use Rattle.flat_tile.proofs.chosen.draw_chosen.Goals as goal

pub paint_chosen-requires-clause-places : goal.paint_chosen-requires-clause-places
paint_chosen-requires-clause-places c = All-take (λ p. p < length c.args.items.now) _ _
    (All-drop (λ p. p < length c.args.items.now) (c.first_chosen-first.result + 1) c.args.places.now c.requires.places)

pub returns : goal.returns
returns c = λ m small.
    let seen : List DrawItem = chosen c.args.items.now c.args.places.now in
    let px : ℕ = x_at c.args.tile m in
    let py : ℕ = y_at c.args.tile m in
    let n : ℕ = channel_at c.args.tile m in
    let first : ℕ = c.first_chosen-first.result in
    let was : ℕ = get_or c.begin.new.bytes m 0 in
    let has = ap (λ (area : Area). has_pixel area px py) c.area-window.ensures
    ∙ tile-has-byte c.args.tile m c.requires.tile (some-pixels c.args.tile c.requires.tile) in
    let within : first < length c.args.places.now = grind (arith, nat_tests) in
    begun n seen first _ (has_pixel c.area-window.result px py) px py was (get_or c.paint_chosen.new.bytes m 0)
    has (omega (arith, within, chosen-length c.args.items.now c.args.places.now c.requires.places))
    (over-same c.args.items.now c.args.list.now c.args.places.now first c.area-window.result n px py c.requires.prepared c.requires.places
    (subst (λ (area : Area). IsWindow area) (sym c.area-window.ensures) (tile-window-is c.args.tile c.requires.tile)) c.first_chosen-first.ensures.inside
    c.first_chosen-first.ensures.over has)
    (c.begin.ensures m small
    ∙ sym (ap (λ (it : DrawItem). channel_step n it px py 0) (chosen-at c.args.items.now c.args.places.now first _ c.requires.places within)))
    (c.paint_chosen.ensures m (omega (arith, small, c.begin.auto.bytes))
    ∙ ap (λ (xs : List DrawItem). if has_pixel c.area-window.result px py then channel_after n xs px py was else was)
    (ap (chosen c.args.items.now) (take_all _ (drop (first + 1) c.args.places.now) (simp length-drop (omega arith)))
    ∙ sym (chosen-drop c.args.items.now c.args.places.now (first + 1) c.requires.places)))
