use Rattle.std.proofs.Common.{◌∙◌, ◌++◌, ◌&&◌, ap, sym, get_or}
use Rattle.std.proofs.lemmas.List.Folds.{list_all_more}
use Rattle.flat_report.specs.Sections.{is_written, written_text}
use Rattle.flat_report.proofs.Piecing.{one-run-more}
use Rattle.flat_report.proofs.apart.push_written.Goals as goal

pub loop-text-preserved : goal.loop-text-preserved
loop-text-preserved c =
    let texts = c.args.texts.now in
    let i = c.loop-text.text-index in
    let one = c.text-item.result in
    let was = c.loop-text.invariant in
    record {
      text = one-run-more written_text texts i one c.args.paged.now c.loop-text.paged c.push_runs.new.paged c.loop-text-test.true was.text
          (c.in_ok-push_runs.ensures
          ∙ ap (λ t. c.loop-text.paged ++ t) (c.as_slice.ensures ∙ sym (ap written_text c.in-Ok.is) ∙ ap written_text c.text-item.is));
      all = list_all_more is_written texts i one c.loop-text-test.true ∙ ap (λ b. b && is_written (get_or texts i one)) was.all
          ∙ ap is_written (sym c.text-item.is) ∙ ap is_written c.in-Ok.is;
    }
