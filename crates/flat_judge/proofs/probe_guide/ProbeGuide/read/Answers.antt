use Rattle.std.proofs.Common.{ℕ, drop, ap, ◌∙◌}
use Rattle.flat_text.specs.Pieces.{lines_of}
use Rattle.flat_judge.proofs.Looking.{if-ok, last-hints, other-hints}
use Rattle.flat_judge.proofs.probe_guide.ProbeGuide.read.Goals as goal

pub returns-then-is_whole : goal.returns-then-is_whole
returns-then-is_whole c =
    last-hints c.args.script.now c.args.text.now (lines_of c.behind_lines-end.result.now) c.in_ok-last.last.seen.items c.in_ok-last.ensures
    (c.behind_lines-end.ensures ∙ ap (λ (n : ℕ). drop n (lines_of c.args.text.now)) c.lines_before.ensures)

pub returns : goal.returns
returns c =
    if-ok c.of_lines-2.result
    (λ guide named. other-hints c.args.script.now c.args.text.now (lines_of c.behind_lines-end.result.now) c.in_ok-last.last.seen.items guide.seen.items
    c.in_ok-last.ensures
    (c.behind_lines-end.ensures ∙ ap (λ (n : ℕ). drop n (lines_of c.args.text.now)) c.lines_before.ensures) named.count
    (c.is_whole.ensures c.if-is_whole.false))
    c.of_lines-2.ensures
