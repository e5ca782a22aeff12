use Rattle.std.proofs.Common.{◌<◌, ◌≤◌, ◌≢◌, false, length, arith, ◌∙◌, get_or-set_other}
use Rattle.std.proofs.lemmas.List.{length-set}
use Rattle.flat_links.specs.Views.{has_view_in}
use Rattle.flat_links.proofs.lemmas.WithView.{flag-next}
use Rattle.flat_links.proofs.with_view.with_view.Goals as goal

pub loop-i-preserved : goal.loop-i-preserved
loop-i-preserved c =
    let inv = c.loop-i.invariant in
    let states = c.args.states.now in
    let within : c.loop-i.i < length states = omega arith in
    let fits : c.loop-i.i < length c.loop-i.has = omega (arith, within, inv.size, c.requires.few) in
    rw c.has_view.ensures
    (record {
      rest = λ k above. let other : k ≢ c.loop-i.i = omega arith in let still : c.loop-i.i ≤ k = omega arith in rw get_or-set_other (inv.rest k still);
      size = length-set c.loop-i.has c.loop-i.i (has_view_in c.args.pairs.now.items c.index-states-i.result) ∙ inv.size;
      each =
          flag-next (has_view_in c.args.pairs.now.items) states c.loop-i.has c.loop-i.i c.index-states-i.result false fits within c.index-states-i.is inv.each;
    })
