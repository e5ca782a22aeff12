use Rattle.std.proofs.Common.{inl, refl}
use Rattle.flat_play.specs.Showing.{IsShown}
use Rattle.flat_play.proofs.lemmas.Steps.{At, at_place}
use Rattle.flat_race.proofs.LineSteps.{display_line_at, line_other}
use Rattle.flat_race.proofs.director.direct_next.Goals as goal

pub direct_line-requires-clause-line : goal.direct_line-requires-clause-line
direct_line-requires-clause-line g c κs within =
    let x = c.at-line.result.now in
    let at : At c.args.context.now.script.now c.args.place x = at_place c.args.context.now.script.now c.args.place x c.requires.playable c.at-line.ensures in
    display_line_at c.args.context.now.script.now c.args.place x at c.at-line.ensures c.in-Display.text c.in-Display.is

pub at-line-requires : goal.at-line-requires
at-line-requires g c = c.requires.place

pub direct_line-requires-clause-playable : goal.direct_line-requires-clause-playable
direct_line-requires-clause-playable g c κs within = c.requires.playable

pub direct_line-requires-clause-of : goal.direct_line-requires-clause-of
direct_line-requires-clause-of g c κs within = c.requires.of

pub direct_line-requires-clause-stands : goal.direct_line-requires-clause-stands
direct_line-requires-clause-stands g c κs within = c.requires.stands

pub direct_line-requires-clause-number : goal.direct_line-requires-clause-number
direct_line-requires-clause-number g c κs within = c.requires.number

pub returns-in_default : goal.returns-in_default
returns-in_default g c =
    let x = c.at-line.result.now in
    let at : At c.args.context.now.script.now c.args.place x = at_place c.args.context.now.script.now c.args.place x c.requires.playable c.at-line.ensures in
    record {
      stands = line_other c.args.context.now.script.now c.args.context.now.stage.now c.args.place x at (λ text is. c.in_default.not-Display text is)
          c.args.compositor.now c.args.film.now c.requires.stands;
      directs = record { finishes = inl (refl, refl); shown = IsShown.shows_none refl refl refl; keeping = refl };
      stays = tt;
      displays = record { count = refl; kinds = refl };
    }
