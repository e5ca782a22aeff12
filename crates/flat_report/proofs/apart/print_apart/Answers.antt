use Rattle.std.proofs.Common.{◌≡◌, ◌∙◌, ℕ, true, List, Result, ap, sym, map}
use Rattle.std.specs.List.{concat, list_all}
use Rattle.flat_base.specs.declared.errors.NoMemory.{NoMemory}
use Rattle.flat_report.specs.Sections.{is_written, joined_text, sections_text, whole_text, written_text}
use Rattle.flat_report.proofs.Reaching.{both_ok, whole_is}
use Rattle.flat_report.proofs.apart.print_apart.Goals as goal

pub returns : goal.returns
returns g c =
    let script = c.args.script.now in
    let texts : List (Result (List ℕ) NoMemory) = c.as_slice-2.result.now in
    let same : texts ≡ c.in_ok-texts.texts.items = c.as_slice-2.ensures.value in
    both_ok c.print_joined-text.result (λ text. text ≡ joined_text script c.args.probes.now texts c.in_ok-cut.cut.end)
    (λ text. list_all is_written texts ≡ true)
    (λ text. text ≡ whole_text script c.args.probes.now c.args.whole.now) c.print_joined-text.ensures.text c.print_joined-text.ensures.all
    (λ text is all.
    is
    ∙ whole_is script c.args.probes.now c.args.whole.now (concat (map written_text texts)) c.in_ok-cut.cut.end
    (ap (λ ts. concat (map written_text ts)) same ∙ c.in_ok-texts.ensures (ap (list_all is_written) (sym same) ∙ all)
    ∙ ap (sections_text script) c.as_slice.ensures.value ∙ c.in_ok-cut.ensures.text script)
    c.in_ok-cut.ensures.end)
