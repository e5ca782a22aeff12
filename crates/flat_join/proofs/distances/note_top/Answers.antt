use Rattle.std.proofs.Common.{◌∙◌, refl, None, sym, arith}
use Rattle.std.proofs.lemmas.List.{length-set}
use Rattle.flat_join.proofs.Finding.{none-all, none-found, none-more, top-found}
use Rattle.flat_join.proofs.distances.note_top.Goals as goal

pub loop-distance-init : goal.loop-distance-init
loop-distance-init c = record {
  count = refl;
  none = λ s low. absurd (omega (arith, low));
}

pub loop-distance-preserved : goal.loop-distance-preserved
loop-distance-preserved c = record {
  count = length-set c.loop-distance.distances c.loop-distance.distance-index None ∙ c.loop-distance.invariant.count;
  none = none-more c.loop-distance.distances c.loop-distance.distance-index (omega (arith, c.loop-distance-test.true, c.loop-distance.invariant.count))
      c.loop-distance.invariant.none;
}

pub returns-in-Some : goal.returns-in-Some
returns-in-Some c =
    let inv = c.loop-distance.invariant in
    top-found c.args.setup.now c.args.shown.now c.requires.fit c.note_view.new.distances c.loop-distance.distances c.in-Some.pair
    (sym c.requires.display ∙ c.in-Some.is) (inv.count ∙ c.requires.all)
    (none-all c.loop-distance.distances c.loop-distance.distance-index (omega (arith, c.loop-distance-test.false, inv.count)) inv.none) c.note_view.ensures

pub returns-in_default : goal.returns-in_default
returns-in_default c =
    let inv = c.loop-distance.invariant in
    none-found c.args.setup.now c.args.shown.now c.requires.fit c.loop-distance.distances (sym c.requires.display ∙ c.in_default.is)
    (inv.count ∙ c.requires.all)
    (none-all c.loop-distance.distances c.loop-distance.distance-index (omega (arith, c.loop-distance-test.false, inv.count)) inv.none)
