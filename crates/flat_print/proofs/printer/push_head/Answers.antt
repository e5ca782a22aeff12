use Rattle.std.proofs.Common.{ap, map, codes}
use Rattle.flat_print.specs.Print.{numbered, name_words, buffers_line_words, pair_line_words, fence_line_words}
use Rattle.flat_print.proofs.LineLemmas.{then_lines, same_lines}
use Rattle.flat_print.proofs.printer.push_head.Goals as goal

pub returns : goal.returns
returns c =
    let s = c.args.script.now in
    let sessions = same_lines (ap (map (name_words (codes "session"))) c.as_slice.ensures) c.in_ok-push_names.ensures in
    let probes = same_lines (ap (map (name_words (codes "probe"))) c.as_slice-2.ensures) c.in_ok-push_names-2.ensures in
    let buffers = same_lines (ap (numbered (buffers_line_words s) 0) c.as_slice-3.ensures) c.in_ok-push_buffers.ensures in
    let pairs = same_lines (ap (numbered (pair_line_words s) 0) c.as_slice-4.ensures) c.in_ok-push_pairs.ensures in
    let fences = same_lines (ap (numbered (fence_line_words s) 0) c.as_slice-5.ensures) c.in_ok-push_fences.ensures in
    then_lines c.in_ok-push_display.ensures (then_lines sessions (then_lines probes
    (then_lines buffers (then_lines pairs (then_lines fences c.in_ok-push_run.ensures)))))
