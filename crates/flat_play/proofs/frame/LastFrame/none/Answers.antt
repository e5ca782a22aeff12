use Rattle.std.proofs.Common.{length, sym, ap, ◌∙◌, subst}
use Rattle.flat_topology.specs.Fit.{FitsSetup}
use Rattle.flat_topology.specs.Shown.{Shown}
use Rattle.flat_play.proofs.lemmas.Starting.{nothing_fits}
use Rattle.flat_play.proofs.frame.LastFrame.none.Goals as goal

pub draw_next-requires-clause-fit : goal.draw_next-requires-clause-fit
draw_next-requires-clause-fit c = nothing_fits c.shown_states_fit.ensures.begun c.shown_states_fit.ensures.nothing c.args.setup.now c.in_ok-shown.shown
    c.in_ok-shown.ensures.size c.in_ok-shown.ensures.none

pub returns-clause-is : goal.returns-clause-is
returns-clause-is c =
    let P : Shown → Type 0 = FitsSetup c.args.setup.now in
    record {
      count = ap (length {A = _}) c.in_ok-_nothing.ensures.kept ∙ c.in_ok-shown.ensures.size;
      fits = subst P (sym c.in_ok-_nothing.ensures.kept)
          (nothing_fits c.shown_states_fit.ensures.begun c.shown_states_fit.ensures.nothing c.args.setup.now c.in_ok-shown.shown c.in_ok-shown.ensures.size
          c.in_ok-shown.ensures.none);
      joined = tt;
    }
