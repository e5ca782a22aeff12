use Rattle.flat_links.proofs.LinkedOwn.{noted-open, noted-shut}
use Rattle.flat_links.proofs.entries.note_links.Goals as goal

pub returns-then-state : goal.returns-then-state
returns-then-state c = noted-shut c.args.s c.args.calls.now c.args.state.now c.args.ends.now c.args.links.now c.if-state.true

pub returns : goal.returns
returns c = noted-open c.args.s c.args.calls.now c.args.state.now c.args.ends.now c.args.links.now c.note.new.self c.as_slice.result.now
    c.as_slice.ensures.value
    c.if-state.false c.note.ensures.tied
