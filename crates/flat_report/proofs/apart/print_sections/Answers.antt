use Rattle.std.proofs.Common.{rules, ◌≡◌, length}
use Rattle.flat_report.proofs.Reaching.{all_written}
use Rattle.flat_report.proofs.apart.print_sections.Goals as goal

pub returns : goal.returns
returns g c =
    let many : length c.in_ok-map_indices.field-0.items ≡ length c.args.sections.now = search rules in
    all_written c.args.script.now c.in_ok-map_indices.field-0.items c.args.sections.now many
    (λ i d e within. (c.in_ok-map_indices.ensures.each i d within).1.met e)
