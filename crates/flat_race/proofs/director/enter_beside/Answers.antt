use Rattle.std.proofs.Common.{ap, ◌∙◌}
use Rattle.flat_scene.specs.Interleave.{entry_of_display}
use Rattle.flat_stage.specs.Displays.{DisplayView}
use Rattle.flat_stage.specs.Seats.{setup_of}
use Rattle.flat_race.proofs.LinesBeside.{may_wait, named_there, room_there}
use Rattle.flat_race.proofs.director.enter_beside.Goals as goal

pub pause-requires-clause-may : goal.pause-requires-clause-may
pause-requires-clause-may g c κs within = λ wanted is. may_wait (setup_of c.args.context.now.stage.now) c.args.text wanted is c.requires.acts c.requires.named

pub enter-reply-requires-clause-own : goal.enter-reply-requires-clause-own
enter-reply-requires-clause-own g c = ap (λ (d : DisplayView). d.stage) c.pause.ensures.sees.rest ∙ c.requires.own

pub enter-reply-requires-clause-room : goal.enter-reply-requires-clause-room
enter-reply-requires-clause-room g c = room_there c.args.compositor.now.display c.pause.new.compositor.display c.pause.ensures.sees c.requires.room

pub enter-reply-requires-clause-named : goal.enter-reply-requires-clause-named
enter-reply-requires-clause-named g c = named_there c.args.context.now.stage.now (entry_of_display c.args.text) c.args.compositor.now.display
    c.pause.new.compositor.display c.pause.ensures.sees c.requires.own c.requires.named

pub returns-clause-enters : goal.returns-clause-enters
returns-clause-enters g c = record {
  looked = c.pause.new.compositor;
  looks = c.pause.ensures;
  reply = c.enter-reply.result;
  enters = c.enter-reply.ensures.enters;
  keeps = c.enter-reply.ensures.keeps;
}
