use Rattle.std.proofs.Common.{◌∙◌, ap}
use Rattle.flat_texts.specs.Lines.{finish_lines}
use Rattle.flat_run.proofs.Written.{lines_of, trees-kept}
use Rattle.flat_run.proofs.texts.finished_of.Goals as goal

pub returns-clause-lines : goal.returns-clause-lines
returns-clause-lines c =
    c.in-Ok.ensures ∙ ap finish_lines c.as_slice.ensures.value
    ∙ lines_of c.journal.result.now.entries.items c.args.played.board.history c.journal.ensures.entries

pub returns-clause-frames : goal.returns-clause-frames
returns-clause-frames c = c.in_ok-frames.ensures _ (trees-kept c.args.script.now _ _ _ (c.into_trees.ensures ∙ c.into_kept.ensures) c.requires.played.keeps)
