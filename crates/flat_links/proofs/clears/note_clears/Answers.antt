use Rattle.std.proofs.Common.{◌∙◌, sym}
use Rattle.flat_links.proofs.ClearMarks.{clears-nothing, clears-same}
use Rattle.flat_links.proofs.clears.note_clears.Goals as goal

pub returns-else-has_clear : goal.returns-else-has_clear
returns-else-has_clear c = clears-nothing c.args.live.now c.args.calls.now c.args.presents c.args.pairs.now (sym c.has_clear.ensures ∙ c.if-has_clear.false)

pub returns-then-has_clear : goal.returns-then-has_clear
returns-then-has_clear c = clears-same c.args.live.now c.args.calls.now c.from_first.result.now c.args.presents c.args.pairs.now c.clear_live.new.pairs
    c.from_first.ensures c.clear_live.ensures
