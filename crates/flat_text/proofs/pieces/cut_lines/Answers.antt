use Rattle.std.proofs.Common.{◌+◌, refl}
use Rattle.std.proofs.lemmas.List.{take_rest}
use Rattle.flat_text.proofs.FeedLemmas.{lines_found}
use Rattle.flat_text.proofs.pieces.cut_lines.Goals as goal

pub returns-then-end-text-clause-lines : goal.returns-then-end-text-clause-lines
returns-then-end-text-clause-lines c =
    let text = c.args.text.now in
    lines_found text _ _ _ c.args.from c.place_of_feed.result (take_rest text c.args.from) c.place_of_feed.ensures.place c.if-end-text.true refl
    (take_rest text (c.args.from + c.place_of_feed.result + 1))
