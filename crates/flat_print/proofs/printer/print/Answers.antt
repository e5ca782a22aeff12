use Rattle.std.proofs.Common.{◌≡◌, ℕ, List, ap, ◌∙◌, ◌++◌, map, sym, subst}
use Rattle.flat_print.specs.Print.{fed, version_words, script_words, line_words, text_of, IsReadBack}
use Rattle.flat_page.specs.Words.{line_of}
use Rattle.flat_print.proofs.LineLemmas.{then_lines, same_lines}
use Rattle.flat_print.proofs.lemmas.RunLemmas.{printed}
use Rattle.flat_print.proofs.printer.print.Goals as goal

pub returns : goal.returns
returns c =
    let s = c.args.script.now in
    let lines = then_lines c.in_ok-push_head.ensures (same_lines (ap (map (line_words s)) c.as_slice.ensures) c.in_ok-push_lines.ensures) in
    let written : c.into_text.result.items ≡ text_of s =
    c.into_text.ensures ∙ lines.text ∙ ap (λ t. t ++ fed (script_words s))
    (c.in_ok-push_version.ensures ∙ ap (λ t. t ++ line_of (version_words s)) c.new-page.ensures) in
    let P : List ℕ → Type 0 = λ t. IsReadBack t s in
    record { text = written; back = λ bytes is. subst P (sym written) (printed bytes s is) }
