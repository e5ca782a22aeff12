use Rattle.std.proofs.Common.{rules}
use Rattle.flat_race.proofs.SessionSteps.{end_room, end_reads}
use Rattle.flat_race.proofs.session.finish.Goals as goal

pub end-reply-requires-clause-room : goal.end-reply-requires-clause-room
end-reply-requires-clause-room g c = end_room c.args.context.now.script.now c.args.context.now.stage.now c.args.seat.now c.requires.of c.requires.stands
    (search rules)

pub returns-clause-read : goal.returns-clause-read
returns-clause-read g c = end_reads c.args.context.now.script.now c.args.context.now.stage.now c.args.seat.now c.requires.playable c.requires.of
    c.requires.stands
    c.end-reply.new.self.mine c.end-reply.ensures.reading
