use Rattle.flat_judge.proofs.Seats.{end_goes, end_read, end_share}
use Rattle.flat_judge.proofs.session_cursor.SessionCursor.end.Goals as goal

pub end-reply-requires-clause-share : goal.end-reply-requires-clause-share
end-reply-requires-clause-share c =
    end_share c.lines_are_read.ensures.ends c.args.script.now c.requires.playable c.args.s c.args.board.now c.args.self.now c.requires.setup c.requires.place
    c.requires.sits c.requires.shares c.requires.declared

pub returns-clause-sits : goal.returns-clause-sits
returns-clause-sits c =
    end_read c.lines_are_read.ensures.ends c.args.script.now c.requires.playable c.args.s c.args.board.now c.args.self.now c.requires.setup c.requires.place
    c.requires.sits c.end-reply.new.board c.end-reply.ensures.entry

pub returns-clause-goes : goal.returns-clause-goes
returns-clause-goes c =
    end_goes c.lines_are_read.ensures.ends c.args.script.now c.requires.playable c.args.s c.args.board.now c.args.self.now c.requires.setup c.requires.place
    c.requires.sits c.end-reply.new.board c.end-reply.ensures.entry
